-- Who stays in the active list and who enters it.
use mathlib.Core.Path.{◌≡◌}
use mathlib.Core.Logic.{◌⊎◌, ◌≢◌}
use mathlib.Core.Bool.{true, false, ◌||◌, not}
use mathlib.Core.List.{Memᴰ as In}
use Prim.Native.Nat.{ℕ, ◌<◌}
use Rattle.sweep.specs.Lists.{upto, Pairwise}
use Rattle.sweep.specs.Chart.{Chart}
use Rattle.sweep.specs.State.{State}
use Rattle.sweep.specs.Step.{starts, finishes, turns, stay, enter}
use Rattle.sweep.proofs.Tests.{and_both, or_one, neither, not_true}
use Rattle.sweep.proofs.Lists.{keep_out, pairwise_keep}
use Rattle.sweep.proofs.Pairs.{upto_out, upto_once}

module _ (C : Chart) (s : State C) (p : C.Point) where
  open C use {n}

  pub stay_out : (i : ℕ) → In i (stay C s p) → In i s.active × (finishes C p i ≡ false) × (turns C s p i ≡ false)
  unfolding stay
  stay_out i m =
      let r = keep_out _ s.active m in
      let e = neither (finishes C p i) (turns C s p i) (not_true _ r.1) in
      (r.0, e.0, e.1)

  pub enter_out : (i : ℕ) → In i (enter C s p) → (i < n) × ((starts C p i ≡ true) ⊎ (turns C s p i ≡ true)) × (finishes C p i ≡ false)
  unfolding enter
  enter_out i m =
      let r = keep_out _ (upto n) m in
      let e = and_both (starts C p i || turns C s p i) (not (finishes C p i)) r.1 in
      (upto_out n r.0, or_one (starts C p i) (turns C s p i) e.0, not_true (finishes C p i) e.1)

  pub stay_once : Pairwise (λ i j. i ≢ j) s.active → Pairwise (λ i j. i ≢ j) (stay C s p)
  unfolding stay
  stay_once d = pairwise_keep (λ i j. i ≢ j) _ s.active d

  pub enter_once : Pairwise (λ i j. i ≢ j) (enter C s p)
  unfolding enter
  enter_once = pairwise_keep (λ i j. i ≢ j) _ (upto n) (upto_once n)
