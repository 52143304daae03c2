-- A point by whole parts and remainders, counted from the least coordinate of an i16; and its key.
use Rattle.std.specs.Prelude.{◌≡◌, ℕ, ◌+◌, ◌*◌, ◌/◌, ◌<◌, ◌^◌, ℤ, pos, nat_abs, ◌+ℤ◌, ◌-ℤ◌, ◌*ℤ◌, ◌≤ℤ◌, ◌<ℤ◌}
use Rattle.fractions.specs.declared.Point.{Point}
use Rattle.line_segment.specs.declared.LineSegment.{LineSegment}
use Rattle.line_segment.specs.Geometry.{run, rise}
use Rattle.full_points.specs.declared.Spot.{Spot}

-- x/d from -32,768 up to 32,768, d positive and below 2^33
pub record Charted (x : ℤ) (d : ℕ) : Type 0 where
  pub positive : 0 < d
  pub small : d < 2 ^ 33
  pub size : nat_abs x < 2 ^ 48
  pub from : pos 0 ≤ℤ (x +ℤ pos 32768 *ℤ pos d)
  pub upto : (x +ℤ pos 32768 *ℤ pos d) <ℤ (pos 65536 *ℤ pos d)

-- both coordinates are
pub record ChartPoint (p : Point) : Type 0 where
  pub along : Charted p.x p.d
  pub up : Charted p.y p.d

-- the whole parts are those of an i16, and the remainders are below d
pub record Fair (m : Spot) : Type 0 where
  pub wide : m.wx < 65536
  pub tall : m.wy < 65536
  pub rest_x : m.rx < m.d
  pub rest_y : m.ry < m.d
  pub small : m.d < 2 ^ 33

-- the spot is the point's: wx + rx / d is its x, counted from -32,768, and y likewise; cross-multiplied, so that it is the
-- spot of a point in lowest terms or not
pub record Marks (m : Spot) (p : Point) : Type 0 where
  pub positive : 0 < p.d
  pub along : pos (m.wx * m.d + m.rx) *ℤ pos p.d ≡ (p.x +ℤ pos 32768 *ℤ pos p.d) *ℤ pos m.d
  pub up : pos (m.wy * m.d + m.ry) *ℤ pos p.d ≡ (p.y +ℤ pos 32768 *ℤ pos p.d) *ℤ pos m.d

-- the side of a point of whole coordinates
unfoldable pub whole_side : LineSegment → ℕ → ℕ → ℤ
whole_side s wx wy = run s *ℤ (pos wy -ℤ (s.min.y +ℤ pos 32768)) -ℤ rise s *ℤ (pos wx -ℤ (s.min.x +ℤ pos 32768))

-- how many 2^15th parts of a unit a point is past -32,768
unfoldable pub key_of : Point → ℕ
key_of p = nat_abs ((p.x +ℤ pos 32768 *ℤ pos p.d) *ℤ pos 32768) / p.d
