-- What there is on a chart, from geometry alone: upright pieces, pairs that meet, ends, crossings, first common points.
use Rattle.std.specs.Prelude.{◌≡◌, ◌⊎◌, ◌↔◌, List, ℕ, ◌<◌, ℤ, length}
use mathlib.Core.List.{Memᴰ as In}
use Rattle.fractions.specs.Point.{Lowest, point_order}
use Rattle.std.specs.declared.cmp.Ordering.TheVariants.{Less, Equal}
use Rattle.fractions.specs.declared.Point.{Point}
use Rattle.line_segment.specs.declared.LineSegment.{LineSegment}
use Rattle.line_segment.specs.Piece.{point_of}
use Rattle.line_segment.specs.Geometry.{Common, OneLine}
use Rattle.line_segment.specs.Demand.{Meet}
use Rattle.charts.specs.Demand.{ListingDue}
use Rattle.charts.specs.Piece.{piece_at}
use Rattle.charts.specs.Verdict.{Accepted}
use Rattle.sweep.specs.Lists.{Pair, Pairwise}
use Rattle.sweep_geometry.specs.Demand.{LeastCommon}

-- a chart of n pieces whose pairs go into these bytes, accepted as the table of refusals says
abbrev pub Accepts : List ℤ → List ℕ → ℕ → Type 0
Accepts list lent n = ListingDue list (length lent) (Accepted n)

-- the one common point, in lowest terms, of two pieces that do not lie on one line
pub record CrossAt (a b : LineSegment) (p : Point) : Type 0 where
  pub two_lines : ¬ OneLine a b
  pub lowest : Lowest p
  pub common : Common a b p
  pub only : (q : Point) → Common a b q → point_order q p ≡ Equal

-- "by first common point, then lesser number, then greater"
abbrev pub NumbersBefore : Pair → Pair → Type 0
NumbersBefore q s = (q.0 < s.0) ⊎ ((q.0 ≡ s.0) × (q.1 < s.1))

module _ (list : List ℤ) where
  -- "A piece is upright when both x are equal.": none of the first n is
  abbrev pub NoneUpright : ℕ → Type 0
  NoneUpright n = (i : ℕ) → i < n → ¬ ((piece_at list i).min.x ≡ (piece_at list i).max.x)

  -- "the least point of the common part with its ends added, included or not"
  abbrev pub FirstOf : Pair → Point → Type 0
  FirstOf q p = LeastCommon (piece_at list q.0) (piece_at list q.1) p

  pub record Before (q s : Pair) : Type 0 where
    pub here : Point
    pub there : Point
    pub first : FirstOf q here
    pub second : FirstOf s there
    pub in_order : (point_order here there ≡ Less) ⊎ ((point_order here there ≡ Equal) × NumbersBefore q s)

module _ (list : List ℤ) (n : ℕ) where
  -- two pieces that have a common point, the lesser number first
  abbrev pub Meeting : Pair → Type 0
  Meeting q = (q.0 < q.1) × (q.1 < n) × Meet (piece_at list q.0) (piece_at list q.1)

  pub data EndOrCrossing (p : Point) : Type 0 where
    a_min : (i : ℕ) → i < n → p ≡ point_of (piece_at list i).min → EndOrCrossing p
    a_max : (i : ℕ) → i < n → p ≡ point_of (piece_at list i).max → EndOrCrossing p
    a_crossing : (i j : ℕ) → i < j → j < n → CrossAt (piece_at list i) (piece_at list j) p → EndOrCrossing p

  -- some of the ends and the crossings, each once, in order
  pub record SomePoints (points : List Point) : Type 0 where
    pub only : (p : Point) → In p points → EndOrCrossing p
    pub ascending : Pairwise (λ p q. point_order p q ≡ Less) points

  -- all of them
  pub record AllPoints (points : List Point) : Type 0 where
    pub all_of : (p : Point) → In p points ↔ EndOrCrossing p
    pub ascending : Pairwise (λ p q. point_order p q ≡ Less) points
