-- What is promised of fractions and points. Each statement is a type, inhabited in proofs/Promises.antt.
use Rattle.std.specs.Prelude.{◌≡◌, ℕ, suc, ◌<◌, ◌≤◌, ◌^◌, ℤ, pos, nat_abs, length}
use Rattle.fractions.specs.Order.{turned}
use Rattle.fractions.specs.Fraction.{ratio_order}
use Rattle.fractions.specs.Turns.{lines_of, last_says, fib}
use Rattle.fractions.specs.Divisor.{Greatest, gcd_of}
use Rattle.fractions.specs.Point.{Lowest, Bounded, point_order, lowest_of, whole_of}
use Rattle.std.specs.declared.cmp.Ordering.TheVariants.{Less, Equal}
use Rattle.fractions.specs.declared.Point.{Point}

-- the greatest common divisor divides both numbers, and every number that does divides it
abbrev pub GcdIsGreatest : Type 0
GcdIsGreatest = (a b : ℕ) → Greatest a b (gcd_of a b)

-- points over positive numbers stand in one order, and one point in lowest terms is one record
pub record OrdersPoints : Type 0 where
  pub itself : (p : Point) → point_order p p ≡ Equal
  pub other_way : (p q : Point) → point_order q p ≡ turned (point_order p q)
  pub transitive :
      (p q r : Point) → 0 < p.d → 0 < q.d → 0 < r.d →
      point_order p q ≡ Less → point_order q r ≡ Less → point_order p r ≡ Less
  pub alike : (p q r : Point) → 0 < p.d → 0 < q.d → point_order p q ≡ Equal → point_order p r ≡ point_order q r
  pub one_record : (p q : Point) → Lowest p → Lowest q → point_order p q ≡ Equal → p ≡ q

-- dividing by the greatest common divisor gives the same point in lowest terms, and no number grows
pub record LowestTerms : Type 0 where
  pub lowest : (x y : ℤ) (d : ℕ) → 0 < d → Lowest (lowest_of x y d)
  pub same : (x y : ℤ) (d : ℕ) → point_order (lowest_of x y d) (record { x = x; y = y; d = d }) ≡ Equal
  pub bounded : (x y : ℤ) (d : ℕ) → Bounded (record { x = x; y = y; d = d }) → Bounded (lowest_of x y d)
  pub whole : (x y : ℤ) → Lowest (whole_of x y)
  pub whole_bounded : (x y : ℤ) → nat_abs x ≤ 2 ^ 15 → nat_abs y ≤ 2 ^ 15 → Bounded (whole_of x y)

-- two fractions above 0 with pencil and paper: the last line says their order, and the lines are no more than Euclid's: k of them need divisors of at least the (k+1)-th of Fibonacci's numbers. So with D below 2^33 there are at most 48, of two divisions each
pub record PencilAndPaper : Type 0 where
  pub answers : (n d m e : ℕ) → 0 < d → 0 < e → last_says (lines_of n d m e) ≡ ratio_order (pos n) d (pos m) e
  pub few : (n d m e : ℕ) → 0 < d → 0 < e → (fib (suc (length (lines_of n d m e))) ≤ d) × (fib (suc (length (lines_of n d m e))) ≤ e)
  pub on_a_chart : (n d m e : ℕ) → 0 < d → 0 < e → d < 2 ^ 33 → length (lines_of n d m e) ≤ 48
