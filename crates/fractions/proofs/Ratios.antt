-- The order of fractions x over d and y over e: asked the other way round, transitive, and alike for equal fractions.
use mathlib.Core.Path.{◌≡◌, sym, ap, ap₂, ◌∙◌}
use mathlib.Core.List.{[], ◌∷◌}
use Prim.Native.Nat.{ℕ, ◌<◌}
use lib.IntN.{ℤ, pos, ◌*ℤ◌}
use lib.Signed.{◌<ℤ◌}
use Rattle.integers.proofs.Identity.{by_ring, terms}
use Rattle.integers.proofs.Naturals.{pos-<}
use Rattle.integers.proofs.Factors.{*_mono-<}
use Rattle.integers.proofs.Ratios.{ratio-<_trans}
use Rattle.fractions.specs.Order.{order, turned}
use Rattle.fractions.specs.Fraction.{ratio_order}
use Rattle.std.specs.declared.cmp.Ordering.{Ordering}
use Rattle.std.specs.declared.cmp.Ordering.TheVariants.{Less, Equal}
use Rattle.fractions.proofs.Orders.{Answer, is_less_lem, is_equal_lem, is_greater, answer, order_less, order_equal, order_greater, less_order, equal_order, order_turned}

-- a factor above 0 on both sides
pub order_scaled : (a b c : ℤ) → pos 0 <ℤ c → order a b ≡ order (a *ℤ c) (b *ℤ c)
order_scaled a b c p = go (answer a b)
  where
    go : {o : Ordering} → Answer a b o → o ≡ order (a *ℤ c) (b *ℤ c)
    go (is_less_lem h) = sym (order_less (*_mono-< a b p h))
    go (is_equal_lem e) = sym (order_equal (ap (λ (z : ℤ). z *ℤ c) e))
    go (is_greater h) = sym (order_greater (*_mono-< b a p h))

-- (x f) e = (x e) f
last_two : (x f e : ℤ) → x *ℤ f *ℤ e ≡ x *ℤ e *ℤ f
last_two x f e = by_ring (x ∷ f ∷ e ∷ []) (search terms depth 60 fits 20000) tt

pub ratio_turned : (x : ℤ) (d : ℕ) (y : ℤ) (e : ℕ) → ratio_order y e x d ≡ turned (ratio_order x d y e)
unfolding ratio_order
ratio_turned x d y e = order_turned (x *ℤ pos e) (y *ℤ pos d)

module _ (x : ℤ) (d : ℕ) (y : ℤ) (e : ℕ) (z : ℤ) (f : ℕ) where
  pub ratio_trans : 0 < d → 0 < e → 0 < f → ratio_order x d y e ≡ Less → ratio_order y e z f ≡ Less → ratio_order x d z f ≡ Less
  unfolding ratio_order
  ratio_trans pd pe pf h k =
      order_less (ratio-<_trans x (pos d) y (pos e) z (pos f) (pos-< pd) (pos-< pe) (pos-< pf) (less_order _ _ h) (less_order _ _ k))

  pub ratio_alike : 0 < d → 0 < e → ratio_order x d y e ≡ Equal → ratio_order x d z f ≡ ratio_order y e z f
  unfolding ratio_order
  ratio_alike pd pe h =
      let same : x *ℤ pos e ≡ y *ℤ pos d = equal_order _ _ h in
      order_scaled (x *ℤ pos f) (z *ℤ pos d) (pos e) (pos-< pe)
      ∙ ap₂ order (last_two x (pos f) (pos e) ∙ ap (λ (n : ℤ). n *ℤ pos f) same ∙ last_two y (pos d) (pos f)) (last_two z (pos d) (pos e))
      ∙ sym (order_scaled (y *ℤ pos f) (z *ℤ pos e) (pos d) (pos-< pd))

-- the same on the right
pub ratio_alike' : (x : ℤ) (d : ℕ) (y : ℤ) (e : ℕ) (z : ℤ) (f : ℕ) → 0 < e → 0 < f → ratio_order y e z f ≡ Equal → ratio_order x d y e ≡ ratio_order x d z f
ratio_alike' x d y e z f pe pf h = ratio_turned y e x d ∙ ap turned (ratio_alike y e z f x d pe pf h) ∙ sym (ratio_turned z f x d)
