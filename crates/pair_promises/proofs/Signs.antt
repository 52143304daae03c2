-- The two calls for C that answer with a sign.
-- Assumes nothing.
use mathlib.Core.Path.{◌≡◌, refl, sym, ap, ◌∙◌}
use mathlib.Core.Logic.{◌⊎◌, inl, inr}
use Prim.Native.Nat.{ℕ}
use native.Mathlib.Omega.{arith}
use lib.IntN.{ℤ, pos, negsuc}
use lib.Signed.{◌<ℤ◌}
use Rattle.integers.proofs.Order.{Tri, less, same, more, tri}
use Rattle.fractions.specs.Point.{point_order}
use Rattle.std.specs.declared.cmp.Ordering.{Ordering}
use Rattle.std.specs.declared.cmp.Ordering.TheVariants.{Less, Equal, Greater}
use Rattle.fractions.specs.declared.Point.{Point}
use Rattle.fractions.proofs.Points as points
use Rattle.fractions.proofs.Points.{Places, places, placed}
use Rattle.orientation.specs.Turn.{det, turn_of}
use Rattle.orientation.specs.declared.Orientation.{Orientation}
use Rattle.orientation.specs.declared.Orientation.TheVariants.{CounterClockWise, ClockWise, CoLinear}
use Rattle.orientation.proofs.Signs.{turn_above, turn_below}
use Rattle.c_records.specs.Numbers.{turn_number, order_number, point_of}
use Rattle.chart_c.proofs.mirtalughe_orient.Reads as orient_c
use Rattle.chart_c.proofs.mirtalughe_compare_points.Reads as compare_c
use Rattle.pair_promises.specs.Signs.{Sign, TurnsBySign, Comes, OnePoint, ComparesBySign}

-- ---- three answers of which one is given
data Given (r : ℤ) (B E A : Type 0) : Type 0 where
  is_below : r ≡ negsuc 0 → B → Given r B E A
  is_even : r ≡ pos 0 → E → Given r B E A
  is_above : r ≡ pos 1 → A → Given r B E A

not_both : {A : Type 0} {r : ℤ} (a b : ℤ) → ¬ (a ≡ b) → r ≡ a → r ≡ b → A
not_both a b n e f = absurd (n (sym e ∙ f))

low_even : ¬ (negsuc 0 ≡ pos 0)
low_even e = let c : ◌≡◌ {A = ℕ} 0 1 = cc in omega arith

low_high : ¬ (negsuc 0 ≡ pos 1)
low_high e = let c : ◌≡◌ {A = ℕ} 0 1 = cc in omega arith

even_high : ¬ (pos 0 ≡ pos 1)
even_high e = let c : ◌≡◌ {A = ℕ} 0 1 = cc in omega arith

sign : {B E A : Type 0} (r : ℤ) → Given r B E A → (B → r ≡ negsuc 0) → (E → r ≡ pos 0) → (A → r ≡ pos 1) → Sign r B E A
sign r (is_below e b) f g h = record { below = (λ _. b, f); even = (λ z. not_both _ _ low_even e z, g); above = (λ z. not_both _ _ low_high e z, h) }
sign r (is_even e x) f g h = record { below = (λ z. not_both _ _ low_even z e, f); even = (λ _. x, g); above = (λ z. not_both _ _ even_high e z, h) }
sign r (is_above e a) f g h = record { below = (λ z. not_both _ _ low_high z e, f); even = (λ z. not_both _ _ even_high z e, g); above = (λ _. a, h) }

-- ---- the turn of three points
turn_even : turn_of (pos 0) ≡ CoLinear
unfolding turn_of
turn_even = refl

turn_sign : (z r : ℤ) → r ≡ turn_number (turn_of z) → Sign r (z <ℤ pos 0) (z ≡ pos 0) (pos 0 <ℤ z)
unfolding turn_number
turn_sign z r e =
    sign r (go (tri (pos 0) z))
    (λ h. e ∙ ap turn_number (turn_below h))
    (λ h. e ∙ ap turn_number (ap turn_of h ∙ turn_even))
    (λ h. e ∙ ap turn_number (turn_above h))
  where
    go : Tri (pos 0) z → Given r (z <ℤ pos 0) (z ≡ pos 0) (pos 0 <ℤ z)
    go (less h) = is_above (e ∙ ap turn_number (turn_above h)) h
    go (same q) = is_even (e ∙ ap turn_number (ap turn_of (sym q) ∙ turn_even)) (sym q)
    go (more h) = is_below (e ∙ ap turn_number (turn_below h)) h

pub turns_by_sign : TurnsBySign
turns_by_sign x1 y1 x2 y2 x3 y3 r e = turn_sign (det x1 y1 x2 y2 x3 y3) r e

-- ---- the order of two points
module _ (p q : Point) (r : ℤ) (e : r ≡ order_number (point_order p q)) where
  compare_sign : Sign r (Comes p q) (OnePoint p q) (Comes q p)
  unfolding order_number
  compare_sign = sign r (go (point_order p q) refl (places p q)) first same after
    where
      go : (o : Ordering) → point_order p q ≡ o → Places p q o → Given r (Comes p q) (OnePoint p q) (Comes q p)
      go Less f (points.left h) = is_below (e ∙ ap order_number f) (inl h)
      go Less f (points.below d h) = is_below (e ∙ ap order_number f) (inr (d, h))
      go Equal f (points.same d h) = is_even (e ∙ ap order_number f) (d, h)
      go Greater f (points.above d h) = is_above (e ∙ ap order_number f) (inr (sym d, h))
      go Greater f (points.right h) = is_above (e ∙ ap order_number f) (inl h)

      first : Comes p q → r ≡ negsuc 0
      first (inl h) = e ∙ ap order_number (placed (points.left h))
      first (inr (d, h)) = e ∙ ap order_number (placed (points.below d h))

      same : OnePoint p q → r ≡ pos 0
      same (d, h) = e ∙ ap order_number (placed (points.same d h))

      after : Comes q p → r ≡ pos 1
      after (inl h) = e ∙ ap order_number (placed (points.right h))
      after (inr (d, h)) = e ∙ ap order_number (placed (points.above (sym d) h))

pub compares_by_sign : ComparesBySign
compares_by_sign p q r e = compare_sign p q r e

-- ---- the contracts themselves
pub allows_orient_c : (κ : _) (a : _) (r : _) (s : _) → orient_c.Post κ a r s
    → r ≡ turn_number (turn_of (det a.0 a.1.0 a.1.1.0 a.1.1.1.0 a.1.1.1.1.0 a.1.1.1.1.1.0))
allows_orient_c κ a r s h = h

pub allows_compare_c : (κ : _) (a : _) (r : _) (s : _) → compare_c.Post κ a r s
    → r ≡ order_number (point_order (point_of a.0 a.1.0 a.1.1.0) (point_of a.1.1.1.0 a.1.1.1.1.0 a.1.1.1.1.1.0))
allows_compare_c κ a r s h = h
