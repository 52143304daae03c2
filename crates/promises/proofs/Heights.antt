-- Heights are bounded: between its ends a piece's height is a mean of theirs, weighed by two parts of run times D.
-- Assumes nothing.
use mathlib.Core.Path.{◌≡◌, ap, ◌∙◌}
use mathlib.Core.Logic.{⊎_elim}
use mathlib.Core.Bool.{true, false}
use mathlib.Core.List.{[], ◌∷◌}
use Prim.Native.Nat.{ℕ, ◌+◌, ◌*◌, ◌^◌, ◌≤◌, ◌<◌}
use native.Mathlib.Nat.{mul-le-mul_right}
use native.Mathlib.Omega.{arith}
use lib.IntN.{ℤ, pos, neg_ℤ, nat_abs, ◌+ℤ◌, ◌-ℤ◌, ◌*ℤ◌}
use lib.Signed.{◌≤ℤ◌}
use Rattle.integers.proofs.Identity.{by_ring, terms}
use Rattle.integers.proofs.Naturals.{natural}
use Rattle.integers.proofs.Order.{+_mono-≤}
use Rattle.integers.proofs.Sizes.{abs-+, abs_neg, abs-*}
use Rattle.line_segment.specs.Geometry.{run}
use Rattle.charts.specs.Piece.{is_upright}
use Rattle.sweep.specs.Ported.{height_above, height_below}
use Rattle.sweep.proofs.Tests.{ask}
use Rattle.promises.specs.Heights.{HeightsBounded}

left_over : (a b : ℤ) → a ≤ℤ b → pos 0 ≤ℤ (b -ℤ a)
left_over a b h = rw (none a) at (+_mono-≤ a b (neg_ℤ a) h)
  where
    none : (a : ℤ) → a +ℤ neg_ℤ a ≡ pos 0
    none a = by_ring (a ∷ []) (search terms depth 60 fits 20000) tt

parts : (x1 x2 X D : ℤ) → (x2 *ℤ D -ℤ X) +ℤ (X -ℤ x1 *ℤ D) ≡ (x2 -ℤ x1) *ℤ D
parts x1 x2 X D = by_ring (x1 ∷ x2 ∷ X ∷ D ∷ []) (search terms depth 60 fits 20000) tt

-- ends x1, y1 and x2, y2, at X over d
module _ (x1 y1 x2 y2 X : ℤ) (d : ℕ) (hx1 : nat_abs x1 ≤ 32767) (hy1 : nat_abs y1 ≤ 32767) (hx2 : nat_abs x2 ≤ 32767) (hy2 : nat_abs y2 ≤ 32767)
    (hd : d < 2 ^ 33) (from : (x1 *ℤ pos d) ≤ℤ X) (upto : X ≤ℤ (x2 *ℤ pos d)) where
  abbrev u : ℤ
  u = x2 *ℤ pos d -ℤ X

  abbrev v : ℤ
  v = X -ℤ x1 *ℤ pos d

  -- the two parts are run times D
  whole : nat_abs u + nat_abs v ≡ nat_abs (x2 -ℤ x1) * d
  whole =
      ap nat_abs (ap (λ (z : ℤ). pos (nat_abs u) +ℤ z) (natural (left_over _ _ from)) ∙ ap (λ (z : ℤ). z +ℤ v) (natural (left_over _ _ upto)) ∙ parts x1 x2 X (pos d))
      ∙ abs-* (x2 -ℤ x1) (pos d)

  below_small : nat_abs ((x2 -ℤ x1) *ℤ pos d) < 2 ^ 49
  below_small =
      let few : nat_abs (x2 -ℤ x1) ≤ 65534 = omega (arith, abs-+ x2 (neg_ℤ x1), abs_neg x1) in
      omega (arith, abs-* (x2 -ℤ x1) (pos d), mul-le-mul_right d few)

  above_small : nat_abs (y1 *ℤ u +ℤ y2 *ℤ v) < 2 ^ 64
  above_small =
      omega (
        arith,
        abs-+ (y1 *ℤ u) (y2 *ℤ v),
        abs-* y1 u,
        abs-* y2 v,
        mul-le-mul_right (nat_abs u) hy1,
        mul-le-mul_right (nat_abs v) hy2,
        whole,
        below_small,
        abs-* (x2 -ℤ x1) (pos d),
      )

pub heights_bounded : HeightsBounded
unfolding height_above height_below run
heights_bounded s p c b w =
    ⊎_elim
    (λ (e : is_upright s ≡ true). rw e (record { under = omega arith; over = omega (arith, c.min_y.small) }))
    (λ (e : is_upright s ≡ false).
    rw e
    (record {
      under = below_small s.min.x s.min.y s.max.x s.max.y p.x p.d c.min_x.small c.min_y.small c.max_x.small c.max_y.small b.d_small w.from w.upto;
      over = above_small s.min.x s.min.y s.max.x s.max.y p.x p.d c.min_x.small c.min_y.small c.max_x.small c.max_y.small b.d_small w.from w.upto;
    }))
    (ask (is_upright s))
