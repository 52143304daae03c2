-- A point of the chart: X, Y over D.
use Rattle.std.specs.Prelude.{ℕ, ◌/◌, ◌<◌, ◌^◌, ◌≡◌, ℤ, pos, nat_abs}
use Rattle.std.specs.Int.{◌∣◌}
use Rattle.std.specs.Int.Signed.{quot_z}
use Rattle.fractions.specs.Order.{and_then}
use Rattle.fractions.specs.Fraction.{ratio_order}
use Rattle.fractions.specs.Divisor.{gcd_of}
use Rattle.std.specs.declared.cmp.Ordering.{Ordering}
use Rattle.fractions.specs.declared.Point.{Point}

-- "A point is X, Y, D, D positive, with no common divisor above 1"
pub record Lowest (p : Point) : Type 0 where
  pub positive : 0 < p.d
  pub coprime : (k : ℕ) → k ∣ nat_abs p.x → k ∣ nat_abs p.y → k ∣ p.d → k ≡ 1

-- "D stays below 2^33, X and Y below 2^48 in size."
pub record Bounded (p : Point) : Type 0 where
  pub d_small : p.d < 2 ^ 33
  pub x_small : nat_abs p.x < 2 ^ 48
  pub y_small : nat_abs p.y < 2 ^ 48

-- "Points are ordered by x, then y."
unfoldable pub point_order : Point → Point → Ordering
point_order p q =
    and_then (ratio_order p.x p.d q.x q.d) (ratio_order p.y p.d q.y q.d)

-- the greatest number that divides all three
unfoldable pub common : ℤ → ℤ → ℕ → ℕ
common x y d = gcd_of (gcd_of (nat_abs x) (nat_abs y)) d

-- the same point in lowest terms. The divisor is 0 only where all three numbers are, and 0 over 0 is 0 here
unfoldable pub lowest_of : ℤ → ℤ → ℕ → Point
lowest_of x y d =
    let g = common x y d in
    record { x = quot_z x (pos g); y = quot_z y (pos g); d = d / g }

-- a point with whole coordinates
abbrev pub whole_of : ℤ → ℤ → Point
whole_of x y = record { x = x; y = y; d = 1 }
