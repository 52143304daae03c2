-- Between ℕ and ℤ: `pos-≤` and `pos-<` take an order of naturals to ℤ, `≤_pos` and `<_pos` take it back, so that `omega` and the laws of ℤ meet.
-- `natural h : pos (nat_abs z) ≡ z`, for h : pos 0 ≤ℤ z. `pos` of a sum or a product computes.
-- `index` below is the example. Assumes nothing.
use mathlib.Core.Path.{◌≡◌, ap}
use Prim.Native.Nat.{ℕ, ◌+◌, ◌*◌, ◌≤◌, ◌<◌}
use native.Mathlib.Omega.{arith}
use lib.Dec.{leb→le, le→leb, ltb→lt, lt→ltb}
use lib.IntN.{ℤ, pos, nat_abs}
use lib.Signed.{◌≤ℤ◌, ◌<ℤ◌, yes_non_neg, pos-nat_abs}

pub pos-≤ : {m n : ℕ} → m ≤ n → pos m ≤ℤ pos n
pos-≤ {m} {n} h = record { le = le→leb m n h }

pub pos-< : {m n : ℕ} → m < n → pos m <ℤ pos n
pos-< {m} {n} h = record { lt = lt→ltb m n h }

pub ≤_pos : {m n : ℕ} → pos m ≤ℤ pos n → m ≤ n
≤_pos {m} {n} h = leb→le m n h.le

pub <_pos : {m n : ℕ} → pos m <ℤ pos n → m < n
<_pos {m} {n} h = ltb→lt m n h.lt

pub pos_injective : {m n : ℕ} → pos m ≡ pos n → m ≡ n
pos_injective e = ap nat_abs e

pub natural : {z : ℤ} → pos 0 ≤ℤ z → pos (nat_abs z) ≡ z
natural {z} h = pos-nat_abs z (yes_non_neg h)

index : (i n : ℕ) → i < n → pos (i * 2) <ℤ pos (n + n)
index i n h = pos-< (omega arith)
