-- The library's own lists are accepted by the check: they have each meeting pair once.
-- Assumes nothing.
use mathlib.Core.Path.{◌≡◌, refl, sym, ap, ◌∙◌}
use mathlib.Core.Logic.{◌↔◌}
use mathlib.Core.List.{List, [], ◌∷◌, ◌++◌}
use mathlib.Core.List.{Memᴰ as In}
use Prim.Native.Nat.{ℕ, suc, ◌+◌, ◌*◌, ◌<◌}
use native.Mathlib.Omega.{arith}
use lib.IntN.{ℤ}
use lib.ListN.{length, take, drop}
use lib.Seq.{take_at}
use Rattle.line_segment.specs.Demand.{Meet}
use Rattle.charts.specs.Piece.{piece_at}
use Rattle.naive.specs.Pairs.{bytes, over}
use Rattle.naive.proofs.Rows.{bytes_length}
use Rattle.naive.specs.AllPairs.{pairs_of, all_pairs_of, lent_after}
use Rattle.sweep.specs.Lists.{Pair}
use Rattle.supplied.specs.declared.Checked.TheVariants.{Accepted}
use Rattle.supplied.specs.Checking.{checked_of}
use Rattle.supplied.proofs.Sides.{turned}
use Rattle.supplied.proofs.Written.{accepts_lesser_first, accepts_all_pairs}
use Rattle.promises.specs.AllPairs as pairs
use Rattle.promises.specs.Chart.{NoneUpright}
use Rattle.promises.specs.Sweep.{Outcome, Ported, SweepPromises}
use Rattle.c_promises.specs.Supplied.{AllPairsAccepted, SweepAccepted}
use Rattle.promises.proofs.AllPairs.{accepted, its_count, its_list, all_pairs_promises}
use Rattle.promises.proofs.Ported.{ported_promises}

-- the bytes of the pairs that a call left
handed : (l : List Pair) (k : ℕ) (lent after : List ℕ) → k ≡ length l → after ≡ over (bytes l) lent → take (2 * k) after ≡ bytes l
unfolding over
handed l k lent after c left =
    ap (λ (b : List ℕ). take (2 * k) b) left ∙ take_at (bytes l) (drop (length (bytes l)) lent) (2 * k) (omega (arith, c, bytes_length l))

pub all_pairs_accepted : AllPairsAccepted pairs.Allowed
all_pairs_accepted list n lent r after c o =
    let kept = all_pairs_promises.keeps_the_rest list n lent r after c o in
    ap (checked_of list) (handed _ _ lent after kept.0 kept.1 ∙ ap bytes (its_list list n lent c o))
    ∙ accepts_all_pairs list n (accepted list n lent c o)

module _ (Allowed : Outcome) (Whole : List ℤ → ℕ → Type 0) (P : SweepPromises Allowed Whole) where
  pub sweep_accepted : SweepAccepted Allowed Whole
  sweep_accepted list n budget lent r after c o w e =
      let kept = P.keeps_the_rest list n budget lent r after c o in
      let all : pairs.Allowed list lent (all_pairs_of list (length lent)) (lent_after list lent) = record { returned = refl; left = refl } in
      let same = (P.lists_all_pairs list n budget lent r after c o w lent _ _ c all e).1 in
      let exactly = all_pairs_promises.lists_exactly list n lent _ _ c all in
      ap (checked_of list) (handed _ _ lent after kept.0 kept.1)
      ∙ accepts_lesser_first list n _ (accepted list n lent c all)
      (λ a b. (
        λ m. let q = (exactly b a).0 ((same a b).0 m) in (q.0, q.1, turned _ _ q.2),
        λ h. (same a b).1 ((exactly b a).1 (h.0, h.1, turned _ _ h.2)),
      ))
      (P.lists_once list n budget lent r after c o)

-- so of the ported sweep, on every chart with no upright piece
pub ported_accepted : SweepAccepted Ported NoneUpright
ported_accepted = sweep_accepted Ported NoneUpright ported_promises
