-- The order of slopes, in which an upright piece is the steepest.
use mathlib.Core.Path.{◌≡◌, refl, sym, ◌∙◌}
use mathlib.Core.Bool.{true, false}
use mathlib.Core.List.{[], ◌∷◌}
use native.Mathlib.Omega.{arith}
use lib.IntN.{ℤ, pos, ◌-ℤ◌, ◌*ℤ◌}
use lib.Signed.{◌<ℤ◌}
use Rattle.integers.proofs.Identity.{by_ring, terms}
use Rattle.integers.proofs.Order.{<→≢}
use Rattle.integers.proofs.Signs.{diff-<, p*p}
use Rattle.fractions.specs.Order.{order, turned}
use Rattle.std.specs.declared.cmp.Ordering.{Ordering}
use Rattle.std.specs.declared.cmp.Ordering.TheVariants.{Less, Equal, Greater}
use Rattle.fractions.proofs.Orders.{order_less, order_equal, order_greater, order_turned}
use Rattle.line_segment.specs.declared.LineSegment.{LineSegment}
use Rattle.line_segment.specs.Geometry.{run, rise}
use Rattle.line_segment.proofs.Along.{Leads, rightward, upward}
use Rattle.charts.specs.Piece.{is_upright}
use Rattle.charts.proofs.Rows.{is_true, is_false, says_eq}
use Rattle.sweep.specs.Ported.{slope_order}
use Rattle.sweep_geometry.proofs.Comparisons.{Orders, fraction_orders, never}

pub sloped_not : (s : LineSegment) → pos 0 <ℤ run s → is_upright s ≡ false
unfolding is_upright run
sloped_not s h = is_false (says_eq s.min.x s.max.x) (<→≢ (diff-< h))

pub standing_is : (s : LineSegment) → run s ≡ pos 0 → is_upright s ≡ true
unfolding is_upright run
standing_is s e = is_true (says_eq s.min.x s.max.x) (alike s.min.x s.max.x e)
  where
    alike : (a b : ℤ) → b -ℤ a ≡ pos 0 → a ≡ b
    alike a b e = by_ring (a ∷ b ∷ []) {a = a} {b = b -ℤ (b -ℤ a)} (search terms depth 60 fits 20000) tt ∙ rw e (by_ring (b ∷ []) (search terms depth 60 fits 20000) tt)

-- ---- an upright piece is steeper than a sloped one, and two of them are alike
times_zero : (z : ℤ) → z *ℤ pos 0 ≡ pos 0
times_zero z = by_ring (z ∷ []) (search terms depth 60 fits 20000) tt

-- by any number over the run, if only an upright piece's is above 0
module _ (lean : LineSegment → ℤ) (rises : (s : LineSegment) → run s ≡ pos 0 → pos 0 <ℤ rise s → pos 0 <ℤ lean s) where
  abbrev lean_order : LineSegment → LineSegment → Ordering
  lean_order a b = order (lean a *ℤ run b) (lean b *ℤ run a)

  module _ (a b : LineSegment) where
    lean_up : pos 0 <ℤ run a → run b ≡ pos 0 → pos 0 <ℤ rise b → lean_order a b ≡ Less
    lean_up h e k = rw (e, times_zero (lean a)) (order_less (p*p (rises b e k) h))

    pub lean_down : run a ≡ pos 0 → pos 0 <ℤ rise a → pos 0 <ℤ run b → lean_order a b ≡ Greater
    lean_down e k h = rw (e, times_zero (lean b)) (order_greater (p*p (rises a e k) h))

    lean_even : run a ≡ pos 0 → run b ≡ pos 0 → lean_order a b ≡ Equal
    lean_even e f = rw (e, f, times_zero (lean a), times_zero (lean b)) (order_equal refl)

  sloped_orders : Orders (λ s. pos 0 <ℤ run s) lean_order
  sloped_orders = fraction_orders lean run (λ s h. h)

  pub lean_orders : Orders Leads lean_order
  lean_orders = record { turns = turns; alike = alike; chain = chain }
    where
      turns : (a b : LineSegment) → Leads a → Leads b → lean_order b a ≡ turned (lean_order a b)
      turns a b la lb = order_turned (lean a *ℤ run b) (lean b *ℤ run a)

      alike : (a b c : LineSegment) → Leads a → Leads b → Leads c → lean_order a b ≡ Equal → lean_order a c ≡ lean_order b c
      alike a b c (rightward h) (rightward k) (rightward l) e = sloped_orders.alike a b c h k l e
      alike a b c (rightward h) (rightward k) (upward m n) e = lean_up a c h m n ∙ sym (lean_up b c k m n)
      alike a b c (rightward h) (upward k l) lc e = never (lean_up a b h k l) e (omega arith)
      alike a b c (upward h i) (rightward k) lc e = never (lean_down a b h i k) e (omega arith)
      alike a b c (upward h i) (upward k l) (rightward m) e = lean_down a c h i m ∙ sym (lean_down b c k l m)
      alike a b c (upward h i) (upward k l) (upward m n) e = lean_even a c h m ∙ sym (lean_even b c k m)

      chain : (a b c : LineSegment) → Leads a → Leads b → Leads c → lean_order a b ≡ Less → lean_order b c ≡ Less → lean_order a c ≡ Less
      chain a b c (rightward h) (rightward k) (rightward l) e f = sloped_orders.chain a b c h k l e f
      chain a b c (rightward h) (rightward k) (upward m n) e f = lean_up a c h m n
      chain a b c (rightward h) (upward k l) (rightward m) e f = never (lean_down b c k l m) f (omega arith)
      chain a b c (rightward h) (upward k l) (upward m n) e f = lean_up a c h m n
      chain a b c (upward h i) (rightward k) lc e f = never (lean_down a b h i k) e (omega arith)
      chain a b c (upward h i) (upward k l) lc e f = never (lean_even a b h k) e (omega arith)

-- ---- by the rise over the run
pub slope_down : (a b : LineSegment) → run a ≡ pos 0 → pos 0 <ℤ rise a → pos 0 <ℤ run b → slope_order a b ≡ Greater
unfolding slope_order
slope_down = lean_down rise (λ s e h. h)

pub slope_orders : Orders Leads slope_order
unfolding slope_order
slope_orders = lean_orders rise (λ s e h. h)
