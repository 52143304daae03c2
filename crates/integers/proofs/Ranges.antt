-- The range of a signed type as two orders, for what goes by `omega` (Linear.antt): at least -2^(w-1), and below 2^(w-1).
-- `range_lo f`, `range_hi f` of an f : SFits w z, as `c.fits.z`; back by `range_of lo hi`.
-- `narrow` below is the example. Assumes nothing.
use Prim.Native.Nat.{ℕ, zero, suc, ◌^◌, ◌<◌, suc-le-suc}
use native.Mathlib.Nat.{le_of_suc-le-suc, not-suc-le-zero}
use lib.Dec.{leb→le, le→leb, ltb→lt, lt→ltb}
use lib.IntN.{ℤ, pos, negsuc, neg_ℤ}
use lib.Signed.{mag, ◌≤ℤ◌, ◌<ℤ◌, le_z_yes, lt_z_yes}
use mir.Syntax.{Width, w16}
use mir.Val.{SFits, hbits}
use Rattle.integers.proofs.Order.{≤_trans, <_trans}

low : (H : ℕ) (z : ℤ) → mag z < H → neg_ℤ (pos H) ≤ℤ z
low zero z h = absurd (not-suc-le-zero h)
low (suc k) (pos n) h = record { le = tt }
low (suc k) (negsuc n) h = record { le = le→leb n k (le_of_suc-le-suc h) }

high : (H : ℕ) (z : ℤ) → mag z < H → z <ℤ pos H
high H (pos n) h = record { lt = lt→ltb n H h }
high H (negsuc n) h = record { lt = tt }

within : (H : ℕ) (z : ℤ) → neg_ℤ (pos H) ≤ℤ z → z <ℤ pos H → mag z < H
within H (pos n) h k = ltb→lt n H k.lt
within zero (negsuc n) h k = absurd h.le
within (suc H) (negsuc n) h k = suc-le-suc (leb→le n H h.le)

module _ {w : Width} {z : ℤ} where
  pub range_lo : SFits w z → neg_ℤ (pos (2 ^ hbits w)) ≤ℤ z
  range_lo f = low (2 ^ hbits w) z f.sfits

  pub range_hi : SFits w z → z <ℤ pos (2 ^ hbits w)
  range_hi f = high (2 ^ hbits w) z f.sfits

  pub range_of : neg_ℤ (pos (2 ^ hbits w)) ≤ℤ z → z <ℤ pos (2 ^ hbits w) → SFits w z
  range_of h k = record { sfits = within (2 ^ hbits w) z h k }

narrow : (z : ℤ) → pos 0 ≤ℤ z → z <ℤ pos 1000 → SFits w16 z
narrow z h k = range_of (≤_trans (le_z_yes tt) h) (<_trans k (lt_z_yes tt))
