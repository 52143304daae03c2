-- The side of a point by its whole parts and its remainders, and where the whole parts alone decide it.
use mathlib.Core.Path.{◌≡◌, sym, ap, ap₂, ◌∙◌}
use mathlib.Core.List.{[], ◌∷◌}
use Prim.Native.Nat.{ℕ, ◌<◌}
use lib.IntN.{ℤ, pos, neg_ℤ, ◌+ℤ◌, ◌-ℤ◌, ◌*ℤ◌}
use lib.Signed.{◌≤ℤ◌, ◌<ℤ◌}
use Rattle.integers.specs.Size.{Small}
use Rattle.integers.proofs.Identity.{by_ring, terms}
use Rattle.integers.proofs.Naturals.{pos-<}
use Rattle.integers.proofs.Order.{<_cert, ≡_cert}
use Rattle.integers.proofs.Signs.{≡_diff, ≤_diff, <_diff, z+z, x*z, nat, <→≤, n+n, n*n, p+n, p*p}
use Rattle.integers.proofs.Sizes.{small_lo, small_hi}
use Rattle.fractions.specs.Order.{order}
use Rattle.fractions.specs.declared.Point.{Point}
use Rattle.fractions.proofs.Ratios.{order_scaled}
use Rattle.line_segment.specs.declared.LineSegment.{LineSegment}
use Rattle.line_segment.specs.Geometry.{run, rise, side}
use Rattle.full_order.specs.Finer.{aside}
use Rattle.full_points.specs.declared.Spot.{Spot}
use Rattle.full_points.specs.Spot.{Marks, whole_side}

parts : (R I x y u v wx wy rx ry d D : ℤ) → (wx *ℤ d +ℤ rx) *ℤ D ≡ (x +ℤ pos 32768 *ℤ D) *ℤ d → (wy *ℤ d +ℤ ry) *ℤ D ≡ (y +ℤ pos 32768 *ℤ D) *ℤ d
    → (R *ℤ (y -ℤ v *ℤ D) -ℤ I *ℤ (x -ℤ u *ℤ D)) *ℤ d
    ≡ ((R *ℤ (wy -ℤ (v +ℤ pos 32768)) -ℤ I *ℤ (wx -ℤ (u +ℤ pos 32768))) *ℤ d +ℤ (R *ℤ ry -ℤ I *ℤ rx)) *ℤ D
parts R I x y u v wx wy rx ry d D e f =
    ≡_cert (R ∷ I ∷ x ∷ y ∷ u ∷ v ∷ wx ∷ wy ∷ rx ∷ ry ∷ d ∷ D ∷ []) (z+z (x*z R (≡_diff (sym f))) (x*z (neg_ℤ I) (≡_diff (sym e))))
    (search terms depth 60 fits 20000) tt

-- d times the side of the whole parts, and the side of the remainders
abbrev pub sum_side : LineSegment → Spot → ℤ
sum_side s m = whole_side s m.wx m.wy *ℤ pos m.d +ℤ (run s *ℤ pos m.ry -ℤ rise s *ℤ pos m.rx)

pub whole_side_is : (s : LineSegment) (wx wy : ℕ) {R I x y u v : ℤ}
    → R ≡ run s → y ≡ pos wy -ℤ (v +ℤ pos 32768) → v ≡ s.min.y → I ≡ rise s → x ≡ pos wx -ℤ (u +ℤ pos 32768) → u ≡ s.min.x
    → R *ℤ y -ℤ I *ℤ x ≡ whole_side s wx wy
unfolding whole_side
whole_side_is s wx wy h_r hy hv h_i hx hu = rw (h_r, hy, hv, h_i, hx, hu)

zero_times : (d : ℤ) → pos 0 ≡ pos 0 *ℤ d
zero_times d = by_ring (d ∷ []) (search terms depth 60 fits 20000) tt

module _ (s : LineSegment) (m : Spot) (p : Point) (up : 0 < m.d) (k : Marks m p) where
  side_parts : side s p *ℤ pos m.d ≡ sum_side s m *ℤ pos p.d
  unfolding side whole_side
  side_parts =
      parts (run s) (rise s) p.x p.y s.min.x s.min.y (pos m.wx) (pos m.wy) (pos m.rx) (pos m.ry) (pos m.d) (pos p.d) k.along k.up

  pub aside_parts : order (sum_side s m) (pos 0) ≡ aside p s
  unfolding aside
  aside_parts =
      order_scaled (sum_side s m) (pos 0) (pos p.d) (pos-< k.positive)
      ∙ ap₂ order (sym side_parts) (sym (zero_times (pos p.d)) ∙ zero_times (pos m.d))
      ∙ sym (order_scaled (side s p) (pos 0) (pos m.d) (pos-< up))

  pub near_is : {g g' f f' : ℤ} → g' ≡ g → g ≡ f' *ℤ pos m.d +ℤ (run s *ℤ pos m.ry -ℤ rise s *ℤ pos m.rx) → f' ≡ f → f ≡ whole_side s m.wx m.wy
      → order g' (pos 0) ≡ aside p s
  near_is hg e hf f =
      ap (λ (z : ℤ). order z (pos 0)) (hg ∙ e ∙ ap (λ (z : ℤ). z *ℤ pos m.d +ℤ (run s *ℤ pos m.ry -ℤ rise s *ℤ pos m.rx)) (hf ∙ f)) ∙ aside_parts

-- a remainder weighs less than a unit of run or rise
module _ (f R I : ℤ) (rx ry d : ℕ) (h_r : Small 65536 R) (h_i : Small 65536 I) (hx : rx < d) (hy : ry < d) (up : 0 < d) where
  pub far_above : pos 131072 <ℤ f → pos 0 <ℤ (f *ℤ pos d +ℤ (R *ℤ pos ry -ℤ I *ℤ pos rx))
  far_above h = go (pos rx) (pos ry) (pos d) (pos-< up) (nat rx) (nat ry) (<→≤ (pos-< hx)) (<→≤ (pos-< hy))
    where
      go : (x y d : ℤ) → pos 0 <ℤ d → pos 0 ≤ℤ x → pos 0 ≤ℤ y → x ≤ℤ d → y ≤ℤ d → pos 0 <ℤ (f *ℤ d +ℤ (R *ℤ y -ℤ I *ℤ x))
      go x y d up nx ny hx hy =
          <_cert (f ∷ R ∷ I ∷ x ∷ y ∷ d ∷ [])
          (p+n (p*p (<_diff h) up)
          (n+n (n+n (n*n (≤_diff (small_lo h_r)) ny) (n*n (nat 65536) (≤_diff hy))) (n+n (n*n (≤_diff (small_hi h_i)) nx) (n*n (nat 65536) (≤_diff hx)))))
          (search terms depth 60 fits 20000) tt

  pub far_below : f <ℤ neg_ℤ (pos 131072) → (f *ℤ pos d +ℤ (R *ℤ pos ry -ℤ I *ℤ pos rx)) <ℤ pos 0
  far_below h = go (pos rx) (pos ry) (pos d) (pos-< up) (nat rx) (nat ry) (<→≤ (pos-< hx)) (<→≤ (pos-< hy))
    where
      go : (x y d : ℤ) → pos 0 <ℤ d → pos 0 ≤ℤ x → pos 0 ≤ℤ y → x ≤ℤ d → y ≤ℤ d → (f *ℤ d +ℤ (R *ℤ y -ℤ I *ℤ x)) <ℤ pos 0
      go x y d up nx ny hx hy =
          <_cert (f ∷ R ∷ I ∷ x ∷ y ∷ d ∷ [])
          (p+n (p*p (<_diff h) up)
          (n+n (n+n (n*n (≤_diff (small_hi h_r)) ny) (n*n (nat 65536) (≤_diff hy))) (n+n (n*n (≤_diff (small_lo h_i)) nx) (n*n (nat 65536) (≤_diff hx)))))
          (search terms depth 60 fits 20000) tt
