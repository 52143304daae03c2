-- The order of the active list under which the sweep loses nothing on any chart: an upright piece has the height of the
-- point visited. On pieces that are not upright it is the ported order.
use Rattle.std.specs.Prelude.{cond, ℕ, ℤ, pos, ◌*ℤ◌}
use Rattle.fractions.specs.Order.{order, and_then}
use Rattle.fractions.specs.Point.{point_order}
use Rattle.std.specs.declared.cmp.Ordering.{Ordering}
use Rattle.fractions.specs.declared.Point.{Point}
use Rattle.line_segment.specs.declared.LineSegment.{LineSegment}
use Rattle.line_segment.specs.Piece.{point_of}
use Rattle.line_segment.specs.Segment.{intersect_of, contains_of, crossing_of}
use Rattle.charts.specs.Piece.{is_upright}
use Rattle.sweep.specs.Chart.{Chart}
use Rattle.sweep.specs.Ported.{is_less, kind_of, height_above, height_below, slope_order}

unfoldable pub full_above : LineSegment → Point → ℤ
full_above s p = cond (is_upright s) p.y (height_above s p)

unfoldable pub full_below : LineSegment → Point → ℤ
full_below s p = cond (is_upright s) (pos p.d) (height_below s p)

unfoldable pub full_height_order : Point → LineSegment → LineSegment → Ordering
full_height_order p a b = order (full_above a p *ℤ full_below b p) (full_above b p *ℤ full_below a p)

-- by height, then slope, then number
unfoldable pub full_order : (ℕ → LineSegment) → Point → ℕ → ℕ → Ordering
full_order piece p i j =
    and_then (full_height_order p (piece i) (piece j))
    (and_then (slope_order (piece i) (piece j)) (order (pos i) (pos j)))

abbrev pub full : ℕ → (ℕ → LineSegment) → Chart
full n piece =
    record {
      Point = Point;
      less = λ p q. is_less (point_order p q);
      n = n;
      min = λ i. point_of (piece i).min;
      max = λ i. point_of (piece i).max;
      upright = λ i. is_upright (piece i);
      contains = λ i p. contains_of (piece i) p;
      test = λ i j. kind_of (intersect_of (piece i) (piece j));
      crossing = λ i j. crossing_of (piece i) (piece j);
      before = λ p i j. is_less (full_order piece p i j);
    }
