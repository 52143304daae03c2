-- What is promised of the sweep on pieces with integer ends.
use Rattle.std.specs.Prelude.{◌≡◌, ◌↔◌, true, false, List, ℕ, ◌<◌, ℤ}
use mathlib.Core.List.{Memᴰ as In}
use Rattle.fractions.specs.Point.{point_order}
use Rattle.std.specs.declared.cmp.Ordering.TheVariants.{Greater}
use Rattle.fractions.specs.declared.Point.{Point}
use Rattle.line_segment.specs.declared.LineSegment.{LineSegment}
use Rattle.line_segment.specs.Piece.{HasLength, closed}
use Rattle.line_segment.specs.Geometry.{Common}
use Rattle.line_segment.specs.Demand.{Meet, OnChart}
use Rattle.charts.specs.Chart.{verdict_of}
use Rattle.charts.specs.Piece.{piece_at, is_upright, no_upright}
use Rattle.charts.specs.Verdict.{Accepted}
use Rattle.sweep.specs.Lists.{Pair}
use Rattle.sweep.specs.Chart.{meets, kind}
use Rattle.sweep.specs.Run.{answer}
use Rattle.sweep.specs.Sought.{first}
use Rattle.sweep.specs.Demand.{Pieces, Promises, AlwaysPromises}
use Rattle.sweep.specs.Ported.{ported}
use Rattle.sweep_geometry.specs.Full.{full}

-- a piece of some length, with coordinates of a chart
pub record Proper (s : LineSegment) : Type 0 where
  pub length : HasLength s
  pub charted : OnChart s

module _ (n : ℕ) (piece : ℕ → LineSegment) where
  abbrev pub AllProper : Type 0
  AllProper = (i : ℕ) → i < n → Proper (piece i)

  abbrev pub NoneUpright : Type 0
  NoneUpright = (i : ℕ) → i < n → is_upright (piece i) ≡ false

-- on a chart with no upright piece, wherever the ported sweep is stopped, nothing that lies behind it is missing
abbrev pub PortedSweeps : Type 0
PortedSweeps = (n : ℕ) (piece : ℕ → LineSegment) → AllProper n piece → NoneUpright n piece → Promises (ported n piece)

-- where an upright piece has the height of the point visited, on every chart
abbrev pub FullSweeps : Type 0
FullSweeps = (n : ℕ) (piece : ℕ → LineSegment) → AllProper n piece → Promises (full n piece)

-- the ported sweep on every chart, upright pieces or not: it invents nothing, lists nothing twice, moves forward and ends
abbrev pub PortedAlways : Type 0
PortedAlways = (n : ℕ) (piece : ℕ → LineSegment) → AllProper n piece → AlwaysPromises (ported n piece)

-- PortedSweeps of every accepted list of numbers
abbrev pub ListSweeps : Type 0
ListSweeps =
    (list : List ℤ) (n : ℕ) → verdict_of list ≡ Accepted n → no_upright list n ≡ true → Promises (ported n (piece_at list))

-- run to its end, it lists exactly the pairs of pieces that have a common point: those of the all-pairs list
abbrev pub ListsMeetings : Type 0
ListsMeetings =
    (list : List ℤ) (n : ℕ) → verdict_of list ≡ Accepted n → no_upright list n ≡ true
    → (budget : ℕ) → (answer (ported n (piece_at list)) budget).ended ≡ true
    → (i j : ℕ) → In (i, j) (answer (ported n (piece_at list)) budget).listed ↔ ((i < j) × (j < n) × Meet (piece_at list i) (piece_at list j))

-- "the least point of the common part with its ends added, included or not"
pub record LeastCommon (a b : LineSegment) (p : Point) : Type 0 where
  pub common : Common (closed a) (closed b) p
  pub least : (q : Point) → Common (closed a) (closed b) q → ¬ (point_order p q ≡ Greater)

-- "First common point of a pair that meets": there is one, whatever the two pieces
abbrev pub FirstCommon : Type 0
FirstCommon = (a b : LineSegment) → Meet a b → (p : Point) × LeastCommon a b p

-- .. and what the sweep's definitions take for it is that
abbrev pub FirstIsLeast : Type 0
FirstIsLeast =
    (n : ℕ) (piece : ℕ → LineSegment) → AllProper n piece → (q : Pair) → Pieces (ported n piece) q
    → meets (kind (ported n piece) q) ≡ true → LeastCommon (piece q.0) (piece q.1) (first (ported n piece) q)
