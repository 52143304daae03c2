-- The new mode on every accepted list of numbers: it keeps every promise, it can be done in place, and without upright
-- pieces it answers as the ported mode does.
use mathlib.Core.Path.{◌≡◌}
use mathlib.Core.Logic.{⊎_elim}
use mathlib.Core.Bool.{Bool, true, false}
use Prim.Native.Nat.{ℕ}
use Rattle.fractions.specs.declared.Point.{Point}
use Rattle.line_segment.specs.declared.LineSegment.{LineSegment}
use Rattle.charts.specs.Piece.{piece_at, is_upright}
use Rattle.sweep.specs.Lists.{upto, any}
use Rattle.sweep.specs.Ported.{is_less, ported}
use Rattle.sweep.specs.Demand.{RunPromises}
use Rattle.sweep.proofs.Tests.{ask, clash}
use Rattle.sweep.proofs.Lists.{any_out}
use Rattle.sweep.proofs.Pairs.{upto_out}
use Rattle.sweep_geometry.specs.Demand.{AllProper, NoneUpright}
use Rattle.sweep_geometry.proofs.Promises.{ported_geometry}
use Rattle.sweep_geometry.proofs.Accepted.{list_proper, list_flat, run_meetings}
use Rattle.full_steps.specs.Demand.{full_run}
use Rattle.full_steps.proofs.Promises.{promises, agree}
use Rattle.full_steps.proofs.Held.{in_place}
use Rattle.full_order.specs.Finer.{finer_order, finer, sides_of}
use Rattle.full_order.specs.Demand.{ListFullSweeps, FullListsMeetings, ListInPlace, SameModes, SameWithoutUprights}
use Rattle.full_order.proofs.Promises.{finer_geometry, in_place_facts}

module _ (n : ℕ) (piece : ℕ → LineSegment) (ok : AllProper n piece) where
  abbrev before : Point → ℕ → ℕ → Bool
  before p i j = is_less (finer_order piece p i j)

  pub full_promises : RunPromises (finer n piece) (full_run (finer n piece))
  full_promises = promises (finer n piece) (finer_geometry n piece ok)

  module _ (flat : NoneUpright n piece) where
    none_upright : any (λ i. is_upright (piece i)) (upto n) ≡ false
    none_upright =
        ⊎_elim
        (λ (t : any (λ i. is_upright (piece i)) (upto n) ≡ true). let u = any_out (λ i. is_upright (piece i)) (upto n) t in clash u.2 (flat u.0 (upto_out n u.1)))
        (λ (t : any (λ i. is_upright (piece i)) (upto n) ≡ false). t)
        (ask (any (λ i. is_upright (piece i)) (upto n)))

    pub same_modes : SameModes n piece
    same_modes =
        let a = agree (ported n piece) before (ported_geometry n piece ok flat) (finer_geometry n piece ok) in
        record { answers = a.same_answers; complete = a.same_complete none_upright }

pub list_full_sweeps : ListFullSweeps
list_full_sweeps list n e = full_promises n (piece_at list) (list_proper list n e)

pub full_lists_meetings : FullListsMeetings
full_lists_meetings list n e =
    run_meetings list n e (before n (piece_at list) (list_proper list n e)) (full_run (finer n (piece_at list))) (list_full_sweeps list n e).lists_all

pub list_in_place : ListInPlace
list_in_place list n e =
    let ok = list_proper list n e in
    in_place (finer n (piece_at list)) (sides_of n (piece_at list)) (finer_geometry n (piece_at list) ok) (in_place_facts n (piece_at list) ok)

pub same_without_uprights : SameWithoutUprights
same_without_uprights list n e f = same_modes n (piece_at list) (list_proper list n e) (list_flat list n f)
