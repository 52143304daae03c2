-- Cramer's point of two lines.
use mathlib.Core.Path.{◌≡◌, ap, ◌∙◌}
use mathlib.Core.Bool.{◌&&◌}
use Prim.Native.Nat.{ℕ, ◌^◌}
use native.Mathlib.Nat.{not-suc-le-zero}
use lib.Dec.{T, ltb, leb, ltb→lt}
use lib.IntN.{ℤ, pos, negsuc, nat_abs, neg_ℤ, ◌-ℤ◌, ◌*ℤ◌}
use lib.Signed.{◌≤ℤ◌, ◌<ℤ◌}
use mir.Syntax.{w64}
use mir.Val.{to_z, of_z}
use Rattle.integers.specs.Size.{Small}
use Rattle.integers.proofs.Machine.{m_back, m_small, m_bound, m_eq}
use Rattle.fractions.specs.declared.Point.{Point}
use Rattle.fractions.specs.Point.{lowest_of}
use Rattle.line_segment.specs.declared.LineSegment.{LineSegment}
use Rattle.line_segment.specs.Segment.{over, cramer_of, crossing_of}

-- ---- X, Y over D: what the branches of the code know
same_point : {x x' y y' : ℤ} {d d' : ℕ} → x ≡ x' → y ≡ y' → d ≡ d' → ◌≡◌ {A = Point} (record { x = x; y = y; d = d }) (record { x = x'; y = y'; d = d' })
same_point e f g i = record { x = e i; y = f i; d = g i }

pub over_below : (x y : ℤ) {d : ℤ} → d <ℤ pos 0 → {u v : ℤ} {n : ℕ} → u ≡ neg_ℤ x → v ≡ neg_ℤ y → n ≡ nat_abs d → ◌≡◌ {A = Point} (record { x = u; y = v; d = n }) (over x y d)
unfolding over
over_below x y {d = pos n} h e f g = absurd (not-suc-le-zero (ltb→lt n 0 h.lt))
over_below x y {d = negsuc n} h e f g = same_point e f g

pub over_above : (x y : ℤ) {d : ℤ} → pos 0 ≤ℤ d → {u v : ℤ} {n : ℕ} → u ≡ x → v ≡ y → n ≡ nat_abs d → ◌≡◌ {A = Point} (record { x = u; y = v; d = n }) (over x y d)
unfolding over
over_above x y {d = pos n} h e f g = same_point e f g
over_above x y {d = negsuc n} h e f g = absurd h.le

-- ---- a number with a bound, read back from its bits
module _ {A : ℕ} {z : ℤ} (h : Small A z) where
  pub kept : {B : ℕ} → T (ltb A (2 ^ 63) && leb A B) → Small B (to_z w64 (of_z w64 z))
  kept t = m_bound (m_back w64 (m_small h)) t

  pub back : {w : ℤ} → z ≡ w → T (ltb A (2 ^ 63)) → to_z w64 (of_z w64 z) ≡ w
  back e t = m_eq (m_back w64 (m_small h)) t ∙ e

-- the same determinant of equal numbers
pub minor_same : {p q u v p' q' u' v' : ℤ} → p ≡ p' → q ≡ q' → u ≡ u' → v ≡ v' → p *ℤ v -ℤ q *ℤ u ≡ p' *ℤ v' -ℤ q' *ℤ u'
minor_same e f g h i = e i *ℤ h i -ℤ f i *ℤ g i

pub over_same : {x y d x' y' d' : ℤ} → x ≡ x' → y ≡ y' → d ≡ d' → over x y d ≡ over x' y' d'
over_same e f g i = over (e i) (f i) (g i)

pub crossing_is : (a b : LineSegment) {p : Point} → p ≡ cramer_of a b → {x y : ℤ} → x ≡ p.x → y ≡ p.y → lowest_of x y p.d ≡ crossing_of a b
unfolding crossing_of
crossing_is a b {p} e f g = (λ i. lowest_of (f i) (g i) p.d) ∙ ap (λ (q : Point). lowest_of q.x q.y q.d) e
