-- A fraction n / d, in units of the least binary64 number, as `round` of lib.Ieee rounds it: k digits are dropped, and `closest n (d * 2 ^ k)` counts what is left in steps of 2 ^ k units.
-- `half`: the result is at most half a step away. `best`: no number of 53 binary digits, with zeros after them, is nearer. Assumes nothing.
use mathlib.Core.Path.{◌≡◌, sym, ap, ◌∙◌}
use mathlib.Core.Bool.{not}
use Prim.Native.Nat.{ℕ, suc, ◌+◌, ◌-◌, ◌*◌, ◌/◌, ◌%◌, ◌^◌, ◌<◌, ◌≤◌, compare, Ordering}
use native.Mathlib.Nat.{le_trans, le_of_eq, le_of_lt, lt_of_not-le, one-mul, add-mul, mul-le-mul_right, mul-pos, div-add-mod', mod-lt, le-div_iff_mul-le}
use native.Mathlib.Decide.{dec_le}
use native.Mathlib.Numerals.{add-one}
use native.Mathlib.Omega.{arith}
use lib.Dec.{T, is_le, compare_is_eq, leb→le, nleb→lt, eqb→eq}
use lib.Pow.{pow-add, pow_pos, pow_mono, shl_lt}
use lib.Ieee.{nearest, size}
use lib.Ieee.Digits.{size_reaches}
use lib.Ieee.Nearest.{closest}
use Rattle.place.proofs.Gap.{gap}

-- ---- the whole number closest to n / u
more : (w u : ℕ) → suc w * u ≡ w * u + u
more w u = rw (sym (add-one w)) (add-mul w 1 u ∙ omega arith)

halved : (w r u n : ℕ) (o : Ordering) → (T (is_le o) → r * 2 ≤ u) → (T (not (is_le o)) → u < r * 2) → (T (compare_is_eq o) → r * 2 ≡ u) → w * u + r ≡ n → r < u → 2 * gap (nearest w o * u) n ≤ u
halved w r u n Ordering.lt le gt eq e h = let l = le tt in omega arith
halved w r u n Ordering.eq le gt eq e h =
    let l = eq tt in
    let s : (w + w % 2) * u ≡ w * u + w % 2 * u = add-mul w (w % 2) u in
    let b : w % 2 * u ≤ 1 * u = mul-le-mul_right u (omega arith) in
    omega arith
halved w r u n Ordering.gt le gt eq e h = let l = gt tt in omega (arith, more w u)

pub half : (n u : ℕ) → 0 < u → 2 * gap (closest n u * u) n ≤ u
half n u h =
    let r = n % u * 2 in
    halved (n / u) (n % u) u n (compare r u) (leb→le r u) (nleb→lt r u) (eqb→eq r u) (div-add-mod' n u) (mod-lt n h)

-- no other multiple of u is nearer: it is a whole u away from that one
step_below : (t q u : ℕ) → suc t ≤ q → t * u + u ≤ q * u
step_below t q u h = le_trans (le_of_eq (sym (more t u))) (mul-le-mul_right u h)

multiple : (n u t : ℕ) → 0 < u → gap (closest n u * u) n ≤ gap (t * u) n
multiple n u t p = go (closest n u) (half n u p)
  where
    go : (q : ℕ) → 2 * gap (q * u) n ≤ u → gap (q * u) n ≤ gap (t * u) n
    go q h =
        elim (dec_le (suc t) q) [
          | yes l ↦ omega (arith, step_below t q u l)
          | no f ↦
              elim (dec_le (suc q) t) [
                | yes l ↦ omega (arith, step_below q t u l)
                | no g ↦ let e : t ≡ q = omega (arith, lt_of_not-le f, lt_of_not-le g) in rw e (omega arith)
              ]
        ]

-- ---- among numbers of 53 digits, where k digits are dropped
module _ (n d k : ℕ) (p : 0 < d) (lead : 0 < k → 2 ^ (52 + k) * d ≤ n) where
  u_pos : 0 < d * 2 ^ k
  u_pos = mul-pos p (pow_pos k)

  regroup : (m a b : ℕ) → m * (a * b) * d ≡ m * a * (d * b)
  regroup m a b = omega arith

  split : (m j : ℕ) → k ≤ j → m * 2 ^ j * d ≡ m * 2 ^ (j - k) * (d * 2 ^ k)
  split m j h = ap (λ (x : ℕ). m * 2 ^ x * d) (omega arith) ∙ ap (λ (x : ℕ). m * x * d) (pow-add 2 (j - k) k) ∙ regroup m (2 ^ (j - k)) (2 ^ k)

  -- k zeros at the end: a whole number of steps
  many_zeros : (m j : ℕ) → k ≤ j → gap (closest n (d * 2 ^ k) * (d * 2 ^ k)) n ≤ gap (m * 2 ^ j * d) n
  many_zeros m j h = rw (split m j h) (multiple n (d * 2 ^ k) (m * 2 ^ (j - k)) u_pos)

  -- fewer: it lies below 2 ^ (52 + k), a whole number of steps that is no more than n / d
  few_zeros : (m j : ℕ) → m < 2 ^ 53 → j < k → m * 2 ^ j * d ≤ 2 ^ (52 + k) * d
  few_zeros m j h l = mul-le-mul_right d (le_trans (le_of_lt (shl_lt 53 j h)) (pow_mono {i = 53 + j} {j = 52 + k} (omega arith)))

  nearer : (a b c : ℕ) → gap a n ≤ gap b n → c ≤ b → b ≤ n → gap a n ≤ gap c n
  nearer a b c h l g = omega arith

  pub best : (m j : ℕ) → m < 2 ^ 53 → gap (closest n (d * 2 ^ k) * (d * 2 ^ k)) n ≤ gap (m * 2 ^ j * d) n
  best m j h =
      elim (dec_le k j) [
        | yes l ↦ many_zeros m j l
        | no f ↦
            let l : j < k = lt_of_not-le f in
            nearer (closest n (d * 2 ^ k) * (d * 2 ^ k)) (1 * 2 ^ (52 + k) * d) (m * 2 ^ j * d)
            (many_zeros 1 (52 + k) (omega arith))
            (rw one-mul (few_zeros m j h l))
            (rw one-mul (lead (omega arith)))
      ]

-- the digits that `round` drops: those past the first 53 of the whole part
pub leads : (n d : ℕ) → 0 < d → 0 < size (n / d) - 53 → 2 ^ (52 + (size (n / d) - 53)) * d ≤ n
leads n d p h = (le-div_iff_mul-le p).0 (size_reaches (n / d) (52 + (size (n / d) - 53)) (omega arith))
