-- A step examines at most twice as many pairs as can be adjacent: its pieces are distinct, and all of the chart.
use mathlib.Core.Path.{◌≡◌, refl}
use mathlib.Core.List.{List, ◌++◌}
use mathlib.Core.Option.{Option, none, some}
use Prim.Native.Nat.{ℕ, zero, suc, ◌+◌, ◌*◌, ◌≤◌, ◌<◌}
use native.Mathlib.Omega.{arith}
use native.Mathlib.Nat.{le_refl, suc-mul}
use lib.ListN.{length, length-append, replicate, length-replicate}
use Rattle.line_segment.specs.declared.LineSegment.{LineSegment}
use Rattle.line_segment.specs.Piece.{HasLength}
use Rattle.charts.specs.Chart.{most}
use Rattle.sweep.specs.Lists.{upto, sort}
use Rattle.sweep.specs.Chart.{Chart}
use Rattle.sweep.specs.State.{State}
use Rattle.sweep.specs.Queue.{next}
use Rattle.sweep.specs.Step.{stay, enter, ranged, step}
use Rattle.sweep.specs.Run.{move_to, move, onwards, run}
use Rattle.sweep.specs.Sought.{all}
use Rattle.sweep.specs.Ported.{ported}
use Rattle.sweep.proofs.Pairs.{upto_in, upto_length}
use Rattle.sweep.proofs.Sorting.{sort_out, sort_once}
use Rattle.ported_arrays.specs.Event.{Sheet}
use Rattle.ported_arrays.specs.Agreement.{flat, Ordered, Room, Agrees}
use Rattle.ported_arrays.specs.Run.{onwards as going, start as begin}
use Rattle.ported_arrays.proofs.Distinct.{distinct_fit}
use Rattle.ported_arrays.proofs.Ranging.{both_once, both_below}
use Rattle.ported_arrays.proofs.Simulation.{run_agrees}
use Rattle.ported_pieces.proofs.Ordering.{ordered}
use Rattle.examinations.specs.Examined.{examined_at, examined_on, examined_in, examined}
use Rattle.examinations.specs.Demand.{a_step, CountsSkipped, ExaminesFew}
use Rattle.examinations.proofs.Adjacent.{adjacent_length}

-- ---- a step
pub counts_skipped : CountsSkipped
unfolding examined_at
counts_skipped C s p = omega (arith, adjacent_length (stay C s p), adjacent_length (ranged C s p))

module _ (C : Chart) (O : Ordered C) (places : ℕ) (lent : List ℕ) (R : Room C places lent) (a : Sheet C) (s : State C) (G : Agrees C O places lent a s) where
  open C use {Point, n, before}

  module _ (p : Point) (taken : next C s ≡ some p) where
    both_few : length (stay C s p ++ enter C s p) ≤ n
    both_few =
        omega (
          arith,
          upto_length n,
          distinct_fit (stay C s p ++ enter C s p) (upto n) (both_once C O places lent R a s G p taken) (λ i m. upto_in n i (both_below C O places lent R a s G p taken i m)),
        )

    ranged_few : length (ranged C s p) ≤ n
    unfolding ranged
    ranged_few =
        let l = stay C s p ++ enter C s p in
        omega (
          arith,
          upto_length n,
          distinct_fit (sort (before p) l) (upto n) (sort_once (before p) l (both_once C O places lent R a s G p taken))
              (λ i m. upto_in n i (both_below C O places lent R a s G p taken i (sort_out (before p) l m))),
        )

    at_few : examined_at C s p ≤ a_step n
    at_few = omega (arith, both_few, ranged_few, length-append (stay C s p) (enter C s p), counts_skipped C s p)

  on_few : (o : Option Point) → next C s ≡ o → examined_on C s o ≤ a_step n
  unfolding examined_on
  on_few none e = omega arith
  on_few (some p) e = at_few p e

-- ---- a run
grows : (C : Chart) (k b : ℕ) (s : State C) → k ≤ s.steps * b → (o : Option C.Point) → examined_on C s o ≤ b
    → k + examined_on C s o ≤ (move_to C s o).steps * b
unfolding examined_on move_to step
grows C k b s h none f = omega (arith, h)
grows C k b s h (some p) f = rw (suc-mul s.steps b) (omega (arith, h, f))

module _ (n : ℕ) (piece : ℕ → LineSegment) (few : n ≤ most) (long : (i : ℕ) → i < n → HasLength (piece i)) where
  abbrev C : Chart
  C = ported n piece

  abbrev lent : List ℕ
  lent = replicate (length (flat (all C))) 0

  room : Room C (length (all C)) lent
  room = record { few = few; waits = le_refl (length (all C)); lists = omega (arith, length-replicate {A = ℕ} (length (flat (all C))) 0) }

  agrees : (m : ℕ) → Agrees C (ordered n piece long) (length (all C)) lent (going C m (begin C (length (all C)) lent)) (run C m)
  unfolding run
  agrees m = run_agrees C (ordered n piece long) (length (all C)) lent room m

  a_step' : (m : ℕ) → examined_in C m ≤ a_step n
  unfolding examined_in
  a_step' m = on_few C (ordered n piece long) (length (all C)) lent room _ (run C m) (agrees m) (next C (run C m)) refl

  in_all : (m : ℕ) → examined C m ≤ (run C m).steps * a_step n
  unfolding examined examined_in run onwards move
  in_all zero = omega arith
  in_all (suc m) = grows C (examined C m) (a_step n) (run C m) (in_all m) (next C (run C m)) (a_step' m)

pub examines_few : ExaminesFew
examines_few = record { a_step' = a_step'; in_all = in_all }
