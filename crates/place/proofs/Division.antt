-- One division of two whole numbers that binary64 holds exactly is their fraction, rounded once.
-- Assumes nothing.
use mathlib.Core.Path.{◌≡◌, refl}
use mathlib.Core.Bool.{Bool, true, false}
use Prim.Native.Nat.{ℕ, suc, ◌*◌, ◌^◌, ◌<◌, ◌≤◌}
use native.Mathlib.Nat.{mul-pos}
use native.Mathlib.Omega.{arith}
use borrow.Author.Tests.{ne_eqb}
use lib.Dec.{T, le→leb, lt→ltb}
use lib.IntN.{ℤ, pos, negsuc, nat_abs}
use lib.Ieee.{Float, nan, inf, fin, binary64, up, down, unlike, round, div, of_int, in_float}
use lib.Ieee.Exact.{HasValue}
use lib.Ieee.Fits.{down_pos}
use lib.Ieee.Back.{round_whole}
use lib.Ieee.Positive.{first_pos}
use lib.Ieee.Scale.{round_same}
use Rattle.place.specs.Binary64.{nearest}

unlike_false : (s : Bool) → unlike s false ≡ s
unlike_false true = refl
unlike_false false = refl

-- x / E is a and y / F is d, so x F / y E is a / d
cross : (x y a d E F : ℕ) → x * 1 ≡ a * E → y * 1 ≡ d * F → x * F * d ≡ a * (y * E)
cross x y a d E F p q =
    let p' : x ≡ a * E = omega arith in
    let q' : y ≡ d * F = omega arith in
    rw (p', q') (omega arith)

some : (y d F : ℕ) → 0 < d → 0 < F → y * 1 ≡ d * F → 0 < y
some y d F hd hF e = let h : 0 < d * F = mul-pos hd hF in omega arith

quotient_is : (x y : Float) (s : Bool) (a d : ℕ) → 0 < d → HasValue x s a 1 → HasValue y false d 1 → div binary64 x y ≡ round binary64 s a d
unfolding div
quotient_is nan y s a d h v w = absurd v
quotient_is (inf t) y s a d h v w = absurd v
quotient_is (fin t m e) nan s a d h v w = absurd w
quotient_is (fin t m e) (inf u) s a d h v w = absurd w
quotient_is (fin t m e) (fin u n g) s a d h v w =
    let y_pos : 0 < n * up g = some (n * up g) d (down g) h (down_pos g) w.1 in
    rw (ne_eqb n 0 (λ z. omega (arith, first_pos n (up g) y_pos)), v.0, w.0, unlike_false)
    (round_same binary64 s (m * up e * down g) (n * up g * down e) a d (mul-pos y_pos (down_pos e)) h (cross (m * up e) (n * up g) a d (down e) (down g) v.1 w.1))

-- ---- up to 2 ^ 53 every whole number is a binary64 value
pub held : (z : ℤ) → nat_abs z ≤ 2 ^ 53 → T (in_float binary64 z)
unfolding in_float
held (pos n) h = le→leb n (2 ^ 53) h
held (negsuc n) h = lt→ltb n (2 ^ 53) h

pub one_division : (z : ℤ) (d : ℕ) → nat_abs z ≤ 2 ^ 53 → 0 < d → d ≤ 2 ^ 53 → div binary64 (of_int binary64 z) (of_int binary64 (pos d)) ≡ nearest z d
unfolding nearest of_int
one_division (pos n) d h p k = quotient_is (round binary64 false n 1) (round binary64 false d 1) false n d p (round_whole binary64 false n h) (round_whole binary64 false d k)
one_division (negsuc n) d h p k = quotient_is (round binary64 true (suc n) 1) (round binary64 false d 1) true (suc n) d p (round_whole binary64 true (suc n) h) (round_whole binary64 false d k)
