-- A step has room: the active pieces and those that start are once each pieces of the chart, and so are the pairs listed.
use mathlib.Core.Path.{◌≡◌}
use mathlib.Core.Logic.{◌≢◌, ⊎_elim}
use mathlib.Core.Bool.{true}
use mathlib.Core.Option.{some}
use mathlib.Core.List.Memᴰ
use mathlib.Core.List.{List, ◌++◌}
use mathlib.Core.List.{Memᴰ as In}
use Prim.Native.Nat.{ℕ, ◌+◌, ◌≤◌, ◌<◌}
use native.Mathlib.Omega.{arith}
use lib.ListN.{length, length-append}
use Rattle.charts.specs.Answer.{room}
use Rattle.sweep.specs.Lists.{Pair, upto, Pairwise}
use Rattle.sweep.specs.Chart.{Chart}
use Rattle.sweep.specs.Step.{starts}
use Rattle.sweep.specs.Geometry.{Geometry}
use Rattle.sweep.specs.Demand.{Pieces}
use Rattle.sweep.proofs.Lists.{pairwise_append}
use Rattle.sweep.proofs.Pairs.{upto_in, upto_length}
use Rattle.sweep.proofs.Ranked.{ranked}
use Rattle.sweep.proofs.Soonest.{starts_apart}
use Rattle.ported_arrays.specs.Agreement.{flat}
use Rattle.ported_arrays.proofs.Distinct.{distinct_fit}
use Rattle.ported_arrays.proofs.Flat.{flat_length}
use Rattle.ported_arrays.proofs.Room.{once_twice}
use Rattle.full_steps.specs.Steps.{State, next}
use Rattle.full_steps.specs.InPlace.{Sides, InPlaceFacts}
use Rattle.full_steps.proofs.Step.{Inv}
use Rattle.full_steps.proofs.Sides.{F, N}

-- ---- the pieces
module _ (C : Chart) (S : Sides C) (G : Geometry C) (A : InPlaceFacts C S G) (s : State C) (I : Inv C (ranked C G) s) (p : C.Point) (hp : next C s ≡ some p) where
  open C use {n}

  pub no_more_than : (new : List ℕ) → Pairwise (λ i j. i ≢ j) new → ((i : ℕ) → In i new → (i < n) × (starts C p i ≡ true)) → length s.active + length new ≤ n
  no_more_than new once out =
      omega (
        arith,
        length-append s.active new,
        upto_length n,
        distinct_fit (s.active ++ new) (upto n)
            (pairwise_append (λ i j. i ≢ j) s.active new I.lined.once once
            (λ i j m k. starts_apart C (F C S G A) s.active s.last I.lined p (N C S G A s I p hp) i j m (out j k).0 (out j k).1))
            (λ i m. upto_in n i (⊎_elim (λ (h : In i s.active). (I.lined.active_out i h).0) (λ (h : In i new). (out i h).0) (Memᴰ.append_cases s.active m))),
      )

-- ---- the pairs
pub once_fits : (C : Chart) (l : List Pair) → Pairwise (λ q r. q ≢ r) l → ((q : Pair) → In q l → Pieces C q) → length (flat l) ≤ room C.n
once_fits C l once out = omega (arith, flat_length l, once_twice C l once out)
