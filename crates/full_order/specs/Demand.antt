-- What is promised of the finer order and, with it, of the new mode, for pieces with integer ends, upright or not.
use Rattle.std.specs.Prelude.{◌≡◌, ◌↔◌, true, List, ℕ, ◌<◌, ℤ}
use mathlib.Core.List.{Memᴰ as In}
use Rattle.fractions.specs.Point.{point_order}
use Rattle.std.specs.declared.cmp.Ordering.TheVariants.{Less, Greater}
use Rattle.fractions.specs.declared.Point.{Point}
use Rattle.line_segment.specs.declared.LineSegment.{LineSegment}
use Rattle.line_segment.specs.declared.Meeting.TheVariants.{Crossing}
use Rattle.line_segment.specs.Segment.{intersect_of, crossing_of}
use Rattle.line_segment.specs.Demand.{Meet}
use Rattle.charts.specs.Chart.{verdict_of}
use Rattle.charts.specs.Piece.{piece_at, no_upright}
use Rattle.charts.specs.Verdict.{Accepted}
use Rattle.sweep.specs.Geometry.{Occurs, Under, Geometry}
use Rattle.sweep.specs.Demand.{RunPromises, SameAnswers, ported_run}
use Rattle.sweep.specs.Ported.{is_less, slope_order, ported}
use Rattle.sweep.specs.Run.{answer as ported_answer}
use Rattle.sweep_geometry.specs.Demand.{AllProper}
use Rattle.full_steps.specs.Steps.{answer}
use Rattle.full_steps.specs.InPlace.{InPlaceFacts}
use Rattle.full_steps.specs.Demand.{full_run, StepsInPlace, Holds}
use Rattle.full_order.specs.Finer.{finer_order, finer, sides_of}

-- the facts of geometry that a sweep needs of its order, and those that a step done in place needs
abbrev pub FinerSupplies : Type 1
FinerSupplies = (n : ℕ) (piece : ℕ → LineSegment) → AllProper n piece → (G : Geometry (finer n piece)) × InPlaceFacts (finer n piece) (sides_of n piece) G

-- of two pieces that cross beyond p, the one that comes before the other there is the steeper: no others need be examined
abbrev pub AheadSteeper : Type 0
AheadSteeper =
    (n : ℕ) (piece : ℕ → LineSegment) → AllProper n piece → (p : Point) → Occurs (finer n piece) p
    → (i j : ℕ) → Under (finer n piece) p i → Under (finer n piece) p j → finer_order piece p i j ≡ Less
    → intersect_of (piece i) (piece j) ≡ Crossing → point_order p (crossing_of (piece i) (piece j)) ≡ Less
    → slope_order (piece i) (piece j) ≡ Greater

-- so, of every accepted list of numbers: wherever the new mode is stopped, nothing that lies behind it is missing
abbrev pub ListFullSweeps : Type 0
ListFullSweeps = (list : List ℤ) (n : ℕ) → verdict_of list ≡ Accepted n → RunPromises (finer n (piece_at list)) (full_run (finer n (piece_at list)))

-- run to its end, it lists exactly the pairs of pieces that have a common point: those of the all-pairs list
abbrev pub FullListsMeetings : Type 0
FullListsMeetings =
    (list : List ℤ) (n : ℕ) → verdict_of list ≡ Accepted n
    → (budget : ℕ) → (answer (finer n (piece_at list)) budget).ended ≡ true
    → (i j : ℕ) → In (i, j) (answer (finer n (piece_at list)) budget).listed ↔ ((i < j) × (j < n) × Meet (piece_at list i) (piece_at list j))

-- a run done in place, block by block, holds what the run does and answers the same
abbrev pub ListInPlace : Type 0
ListInPlace =
    (list : List ℤ) (n : ℕ) → verdict_of list ≡ Accepted n
    → StepsInPlace (finer n (piece_at list)) (sides_of n (piece_at list)) × ((m : ℕ) → Holds (finer n (piece_at list)) (sides_of n (piece_at list)) m)

-- "on a chart without upright pieces both modes give the same answer, at every budget"
pub record SameModes (n : ℕ) (piece : ℕ → LineSegment) : Type 0 where
  pub answers : SameAnswers (ported n piece) (λ p i j. is_less (finer_order piece p i j)) (ported_run (ported n piece)) (full_run (finer n piece))
  pub complete : (budget : ℕ) → (ported_answer (ported n piece) budget).complete ≡ (answer (finer n piece) budget).complete

abbrev pub SameWithoutUprights : Type 0
SameWithoutUprights = (list : List ℤ) (n : ℕ) → verdict_of list ≡ Accepted n → no_upright list n ≡ true → SameModes n (piece_at list)
