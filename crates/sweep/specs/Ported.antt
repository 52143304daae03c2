-- The chart that the sweep runs on: numbered pieces, the segment test, and the order of the Rust's active list.
use Rattle.std.specs.Prelude.{Bool, true, false, cond, ℕ, ℤ, pos, ◌+ℤ◌, ◌-ℤ◌, ◌*ℤ◌}
use Rattle.fractions.specs.Order.{order, and_then}
use Rattle.fractions.specs.Point.{point_order}
use Rattle.std.specs.declared.cmp.Ordering.{Ordering}
use Rattle.std.specs.Ordering.{is_lt, is_eq}
use Rattle.fractions.specs.declared.Point.{Point}
use Rattle.line_segment.specs.declared.LineSegment.{LineSegment}
use Rattle.line_segment.specs.declared.Meeting.{Meeting}
use Rattle.line_segment.specs.declared.Meeting.TheVariants.{Nothing, Crossing, Overlap}
use Rattle.line_segment.specs.Piece.{point_of}
use Rattle.line_segment.specs.Geometry.{run, rise}
use Rattle.line_segment.specs.Segment.{intersect_of, contains_of, crossing_of}
use Rattle.charts.specs.Piece.{is_upright}
use Rattle.sweep.specs.Chart.{Kind, nothing, crosses, overlaps, Chart}

abbrev pub is_less : Ordering → Bool
is_less = is_lt

abbrev pub kind_of : Meeting → Kind
kind_of Nothing = nothing
kind_of Crossing = crosses
kind_of (Overlap s) = overlaps

abbrev pub is_equal : Ordering → Bool
is_equal = is_eq

-- a piece's height at p's x, above and below the line of the fraction.
-- "An upright piece has the smaller y as its height": that of its min
unfoldable pub height_above : LineSegment → Point → ℤ
height_above s p =
    cond (is_upright s) s.min.y
    (s.min.y *ℤ (s.max.x *ℤ pos p.d -ℤ p.x) +ℤ s.max.y *ℤ (p.x -ℤ s.min.x *ℤ pos p.d))

unfoldable pub height_below : LineSegment → Point → ℤ
height_below s p = cond (is_upright s) (pos 1) (run s *ℤ pos p.d)

unfoldable pub height_order : Point → LineSegment → LineSegment → Ordering
height_order p a b = order (height_above a p *ℤ height_below b p) (height_above b p *ℤ height_below a p)

-- rise over run. An upright piece runs 0 and rises, so it "comes after sloped ones of that height"
unfoldable pub slope_order : LineSegment → LineSegment → Ordering
slope_order a b = order (rise a *ℤ run b) (rise b *ℤ run a)

-- "The active list is sorted by height at p's x, then slope, then number."
unfoldable pub rank_order : (ℕ → LineSegment) → Point → ℕ → ℕ → Ordering
rank_order piece p i j =
    and_then (height_order p (piece i) (piece j))
    (and_then (slope_order (piece i) (piece j)) (order (pos i) (pos j)))

-- n numbered pieces as the Rust sweeps them
abbrev pub ported : ℕ → (ℕ → LineSegment) → Chart
ported n piece =
    record {
      Point = Point;
      less = λ p q. is_less (point_order p q);
      n = n;
      min = λ i. point_of (piece i).min;
      max = λ i. point_of (piece i).max;
      upright = λ i. is_upright (piece i);
      contains = λ i p. contains_of (piece i) p;
      test = λ i j. kind_of (intersect_of (piece i) (piece j));
      crossing = λ i j. crossing_of (piece i) (piece j);
      before = λ p i j. is_less (rank_order piece p i j);
    }
