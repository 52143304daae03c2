-- The order of the active list in the new mode: as the pieces stand just after p. "by height at p's x; of one height above
-- p's y, by falling slope (they meet ahead, at that same x), else by rising slope; then by number."
use Rattle.std.specs.Prelude.{Bool, cond, ℕ, ℤ, pos, neg_ℤ, ◌*ℤ◌}
use Rattle.fractions.specs.Order.{order, and_then}
use Rattle.std.specs.declared.cmp.Ordering.{Ordering}
use Rattle.fractions.specs.declared.Point.{Point}
use Rattle.line_segment.specs.declared.LineSegment.{LineSegment}
use Rattle.line_segment.specs.Geometry.{run, rise, side}
use Rattle.sweep.specs.Chart.{Chart}
use Rattle.sweep.specs.Ported.{is_less, slope_order, ported}
use Rattle.sweep.specs.Demand.{reordered}
use Rattle.sweep_geometry.specs.Full.{full_above, full_below, full_height_order}
use Rattle.full_steps.specs.InPlace.{Sides}

-- where p lies of a piece between whose ends it is: Less below it, Equal on it, Greater above it
unfoldable pub aside : Point → LineSegment → Ordering
aside p s = order (side s p) (pos 0)

-- the piece's height at p's x is above p's y. An upright piece has p's y as its height
unfoldable pub overhead : Point → LineSegment → Bool
overhead p s = is_less (order (p.y *ℤ full_below s p) (full_above s p *ℤ pos p.d))

-- the rise, turned into a fall where the piece is overhead
unfoldable pub slant : Point → LineSegment → ℤ
slant p s = cond (overhead p s) (neg_ℤ (rise s)) (rise s)

-- slant over run. An upright piece runs 0 and rises, so it "comes after sloped ones of that height"
unfoldable pub slant_order : Point → LineSegment → LineSegment → Ordering
slant_order p a b = order (slant p a *ℤ run b) (slant p b *ℤ run a)

unfoldable pub finer_order : (ℕ → LineSegment) → Point → ℕ → ℕ → Ordering
finer_order piece p i j =
    and_then (full_height_order p (piece i) (piece j))
    (and_then (slant_order p (piece i) (piece j)) (order (pos i) (pos j)))

-- the chart of n numbered pieces, with this order
abbrev pub finer : ℕ → (ℕ → LineSegment) → Chart
finer n piece = reordered (ported n piece) (λ p i j. is_less (finer_order piece p i j))

-- by rising slope, an upright piece last, then by number: as pieces through p stand
unfoldable pub through_order : (ℕ → LineSegment) → ℕ → ℕ → Ordering
through_order piece i j = and_then (slope_order (piece i) (piece j)) (order (pos i) (pos j))

-- how the pieces lie of a point, for the step done in place
abbrev pub sides_of : (n : ℕ) (piece : ℕ → LineSegment) → Sides (finer n piece)
sides_of n piece = record { aside = λ p i. aside p (piece i); rises = λ i j. is_less (through_order piece i j) }
