-- A point on a piece whose ends are i16 is at most 2 ^ 15 in size, in x and in y: `inside`.
-- Assumes nothing.
use mathlib.Core.Path.{◌≡◌, sym, ap, subst, ◌∙◌}
use Prim.Native.Nat.{ℕ, ◌*◌, ◌^◌, ◌≤◌}
use lib.IntN.{ℤ, pos, neg_ℤ, nat_abs, ◌-ℤ◌, ◌*ℤ◌}
use lib.Signed.{◌≤ℤ◌, ◌<ℤ◌}
use Rattle.integers.specs.Size.{Small}
use Rattle.integers.proofs.Ring.{*ℤ_idr, neg-*ℤ}
use Rattle.integers.proofs.Signs.{nat, diff-≡}
use Rattle.integers.proofs.Order.{≤_trans, ≤_antisym, ≡→≤}
use Rattle.integers.proofs.Factors.{*_mono-≤}
use Rattle.integers.proofs.Sizes.{small_of, small_lo, small_hi}
use Rattle.fractions.specs.declared.Point.{Point}
use Rattle.line_segment.specs.declared.LineSegment.{LineSegment}
use Rattle.line_segment.specs.Piece.{point_of, HasLength}
use Rattle.line_segment.specs.Geometry.{LiesOn, side, run, rise}
use Rattle.line_segment.proofs.Along.{Leads, rightward, upward, leads}
use Rattle.place.specs.Demand.{InRange}
use Rattle.place.proofs.Order.{NoLater, no_later}
use Rattle.place.proofs.Between.{Y-≤, Y-≥}

-- ---- a size as two orders, times d
times_hi : {A : ℕ} {z : ℤ} (d : ℕ) → Small A z → (z *ℤ pos d) ≤ℤ pos (A * d)
times_hi {A} {z} d h = *_mono-≤ z (pos A) (nat d) (small_hi h)

times_lo : {A : ℕ} {z : ℤ} (d : ℕ) → Small A z → neg_ℤ (pos (A * d)) ≤ℤ (z *ℤ pos d)
times_lo {A} {z} d h = ≤_trans (≡→≤ (sym (neg-*ℤ (pos A) (pos d)))) (*_mono-≤ (neg_ℤ (pos A)) z (nat d) (small_lo h))

between : {A : ℕ} {z x y : ℤ} (d : ℕ) → Small A x → Small A y → (x *ℤ pos d) ≤ℤ z → z ≤ℤ (y *ℤ pos d) → nat_abs z ≤ A * d
between d h k l u = (small_of (≤_trans (times_lo d h) l) (≤_trans u (times_hi d k))).small

module _ (s : LineSegment) (p : Point) (on : LiesOn s p) where
  from : NoLater (point_of s.min) p
  from = no_later (point_of s.min) p s.min.included on.from

  upto : NoLater p (point_of s.max)
  upto = no_later p (point_of s.max) s.max.included on.upto

  from_x : (s.min.x *ℤ pos p.d) ≤ℤ p.x
  unfolding point_of
  from_x = rw *ℤ_idr at from.x

  upto_x : p.x ≤ℤ (s.max.x *ℤ pos p.d)
  unfolding point_of
  upto_x = rw *ℤ_idr at upto.x

  pub x_inside : InRange s → nat_abs p.x ≤ 2 ^ 15 * p.d
  x_inside r = between p.d r.min.x r.max.x from_x upto_x

  -- on a piece that is not upright, and on one that is
  sloped : InRange s → pos 0 <ℤ (s.max.x -ℤ s.min.x) → nat_abs p.y ≤ 2 ^ 15 * p.d
  unfolding side run rise
  sloped r u =
      let mean-≤ = Y-≤ s.min.x s.min.y s.max.x s.max.y p.x p.y (pos p.d) (pos (2 ^ 15)) u on.line from_x upto_x in
      let mean-≥ = Y-≥ s.min.x s.min.y s.max.x s.max.y p.x p.y (pos p.d) (neg_ℤ (pos (2 ^ 15))) u on.line from_x upto_x in
      (small_of (mean-≥ (small_lo r.min.y) (small_lo r.max.y)) (mean-≤ (small_hi r.min.y) (small_hi r.max.y))).small

  upright : InRange s → s.min.x ≡ s.max.x → nat_abs p.y ≤ 2 ^ 15 * p.d
  unfolding point_of
  upright r e =
      let at_x : s.min.x *ℤ pos p.d ≡ p.x = ≤_antisym from_x (subst (λ (z : ℤ). p.x ≤ℤ (z *ℤ pos p.d)) (sym e) upto_x) in
      let from_y = from.y (at_x ∙ sym (*ℤ_idr p.x)) in
      let upto_y = upto.y (*ℤ_idr p.x ∙ sym at_x ∙ ap (λ (z : ℤ). z *ℤ pos p.d) e) in
      between p.d r.min.y r.max.y (rw *ℤ_idr at from_y) (rw *ℤ_idr at upto_y)

  pub y_inside : InRange s → HasLength s → nat_abs p.y ≤ 2 ^ 15 * p.d
  unfolding run
  y_inside r h = go (leads s h)
    where
      go : Leads s → nat_abs p.y ≤ 2 ^ 15 * p.d
      go (rightward u) = sloped r u
      go (upward e _) = upright r (diff-≡ s.min.x s.max.x e)
