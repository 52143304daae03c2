-- At the next point of a run the two halves leave what the step done in place does. `a` is the array, and its first `live`
-- are the active pieces; the pieces that start, by the ends, are those of the chart that do.
use mathlib.Core.Path.{◌≡◌, sym, ap, ap₂, ◌∙◌}
use mathlib.Core.Logic.{◌≢◌}
use mathlib.Core.Bool.{true, not}
use mathlib.Core.Option.{some}
use mathlib.Core.List.{List, [], ◌++◌}
use mathlib.Core.List.{Memᴰ as In}
use Prim.Native.Nat.{ℕ, ◌+◌, ◌-◌, ◌≤◌, ◌<◌}
use native.Mathlib.Omega.{arith}
use lib.Dec.{ltb}
use lib.IntN.{ℤ}
use lib.ListN.{length, take, drop}
use lib.Seq.{slice, take-take, length-take-le}
use Rattle.fractions.specs.declared.Point.{Point}
use Rattle.line_segment.specs.Piece.{point_of}
use Rattle.sweep.specs.Lists.{keep, pairs, Pairwise}
use Rattle.sweep.specs.Chart.{Chart, same}
use Rattle.sweep.specs.Step.{starts, finishes}
use Rattle.sweep.specs.Geometry.{Geometry}
use Rattle.sweep.proofs.Lists.{keep_same}
use Rattle.sweep.proofs.Ranked.{ranked}
use Rattle.full_steps.specs.Steps.{State, next}
use Rattle.full_steps.specs.InPlace.{Sides, InPlaceFacts, renewed, replaced, gathered, fresh, fresh_pairs}
use Rattle.full_steps.proofs.Step.{Inv}
use Rattle.full_steps.proofs.Placed.{lo, hi, front_is, back_is, whole_length}
use Rattle.full_order.specs.Finer.{finer, sides_of}
use Rattle.ported_arrays.specs.Insertion.{insert_all}
use Rattle.ported_pieces.specs.Table.{piece_in}
use Rattle.ported_heights.proofs.Answers.{neither_less}
use Rattle.full_active.specs.Ranks.{rises_in, goes_on_in, backwards, starters}
use Rattle.full_active.proofs.Blocks.{block_is, gathered_is, renewed_is}
use Rattle.full_list.specs.Listed.{fresh_in}
use Rattle.full_list.proofs.Freshness.{fresh_is}
use Rattle.full_step.specs.Halves.{at_point, new_block, Turned}

module _ (n : ℕ) (table : List ℤ) where
  abbrev C : Chart
  C = finer n (piece_in table)

  abbrev S : Sides C
  S = sides_of n (piece_in table)

  pub goes_on_is : (q : Point) (i : ℕ) → goes_on_in table q i ≡ not (finishes C q i)
  unfolding finishes same
  goes_on_is q i = ap not (neither_less (point_of (piece_in table i).max) q)

  module _ (G : Geometry C) (A : InPlaceFacts C S G) (s : State C) (I : Inv C (ranked C G) s) (p : Point) (hp : next C s ≡ some p)
      (a : List ℕ) (live : ℕ) (fits : live ≤ length a) (holds : take live a ≡ s.active)
      (ends : List ℕ) (once : Pairwise (λ i j. i ≢ j) (starters ends)) (new_out : (i : ℕ) → In i (starters ends) → (i < n) × (starts C p i ≡ true))
      (new_in : (i : ℕ) → i < n → starts C p i ≡ true → In i (starters ends)) where
    abbrev first : ℕ
    first = lo C S G A s I p hp

    abbrev last : ℕ
    last = hi C S G A s I p hp

    pub at_point_is : at_point first last a ends ≡ gathered C S s.active p
    at_point_is =
        ap (λ (z : List ℕ). insert_all ltb [] (z ++ starters ends)) (block_is C S G A s I p hp a live fits holds)
        ∙ gathered_is C S G A s I p hp (starters ends) once new_out new_in

    -- the new pairs are those that the step lists
    pub fresh_pairs_are : keep (fresh_in table p) (pairs (at_point first last a ends)) ≡ fresh_pairs C S s.active p
    unfolding fresh_pairs
    fresh_pairs_are =
        ap (λ (z : List ℕ). keep (fresh_in table p) (pairs z)) at_point_is
        ∙ keep_same (fresh_in table p) (fresh C p) (pairs (gathered C S s.active p)) (λ q m. fresh_is table p n q.0 q.1)

    pub new_block_is : new_block table p first last a ends ≡ renewed C S s.active p
    new_block_is =
        ap (λ (z : List ℕ). insert_all (rises_in table) [] (z ++ starters ends))
        (ap (λ (z : List ℕ). keep (goes_on_in table p) (backwards z)) (block_is C S G A s I p hp a live fits holds)
        ∙ keep_same (goes_on_in table p) (λ i. not (finishes C p i)) _ (λ i m. goes_on_is p i))
        ∙ renewed_is C S G A s I p hp (starters ends) once new_out new_in

    -- the active list with the block anew
    pub in_place_is : take first a ++ (new_block table p first last a ends ++ slice last live a) ≡ replaced C S s.active p
    unfolding replaced
    in_place_is =
        ap₂ (λ (x : List ℕ) (y : List ℕ). x ++ y)
        (sym (take-take first live a (omega (arith, ap length (sym holds), length-take-le live a fits, whole_length C S G A s I p hp))) ∙ ap (take first) holds ∙ front_is C S G A s I p hp)
        (ap₂ (λ (x : List ℕ) (y : List ℕ). x ++ y) new_block_is (ap (drop last) holds ∙ back_is C S G A s I p hp))

    pub turned_is : (lanes a' lanes' : List ℕ) (m : ℕ) → Turned a lanes live first last (new_block table p first last a ends) a' lanes' m
        → take (first + m + (live - last)) a' ≡ replaced C S s.active p
    turned_is lanes a' lanes' m T = T.pieces_are ∙ in_place_is
