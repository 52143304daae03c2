-- The digits of a number: the last one, and those of a tenth in front of it.
-- Assumes nothing.
use mathlib.Core.Path.{◌≡◌, refl, sym, ap, ◌∙◌}
use mathlib.Core.Bool.{Bool, true, false}
use mathlib.Core.List.{List, [], ◌∷◌, ◌++◌}
use Prim.Native.Nat.{ℕ, zero, suc, ◌+◌, ◌*◌, ◌-◌, ◌/◌, ◌%◌, ◌^◌, ◌≤◌, ◌<◌}
use native.Mathlib.Nat.{not-suc-le-zero}
use native.Mathlib.Omega.{arith}
use lib.Dec.{ltb}
use lib.IntN.{ℤ, pos, negsuc, nat_abs}
use lib.Signed.{◌≤ℤ◌, ◌<ℤ◌}
use lib.ListN.{length, length-append}
use borrow.Author.Tests.{ltb-true, ltb-false, lt-ltb, le-ltb}
use Rattle.integers.proofs.Naturals.{<_pos}
use Rattle.decimals.specs.Decimal.{digit, minus, digits, decimal, signed_decimal, read_after, read}
use Rattle.decimals.specs.Demand.{Digits, AllDigits, NoZeroInFront, Short}

last_one : (k n : ℕ) → n < 10 → digits (suc k) n ≡ digit n ∷ []
unfolding digits
last_one k n h = rw (lt-ltb n 10 h) (ap (λ (d : ℕ). digit d ∷ []) (omega arith))

front : (k n : ℕ) → 10 ≤ n → digits (suc k) n ≡ digits k (n / 10) ++ (digit (n % 10) ∷ [])
unfolding digits
front k n h = rw (le-ltb n 10 h)

-- what holds of one digit, and of a digit after what it holds of, holds of every number
by_digits : (P : ℕ → List ℕ → Type 0) → ((n : ℕ) → n < 10 → P n (digit n ∷ []))
    → ((n : ℕ) (ds : List ℕ) → 10 ≤ n → P (n / 10) ds → P n (ds ++ (digit (n % 10) ∷ [])))
    → (k n : ℕ) → n < k → P n (digits k n)
by_digits P one more zero n h = absurd (omega arith)
by_digits P one more (suc k) n h = go (λ l. by_digits P one more k (n / 10) (omega arith)) (ltb n 10) refl
  where
    go : (10 ≤ n → P (n / 10) (digits k (n / 10))) → (b : Bool) → ltb n 10 ≡ b → P n (digits (suc k) n)
    go f true e = let l = ltb-true n 10 e in rw (last_one k n l) (one n l)
    go f false e = let l = ltb-false n 10 e in rw (front k n l) (more n (digits k (n / 10)) l (f l))

-- as many steps as one likes give the same digits
same_digits : (k n : ℕ) → n < k → (j : ℕ) → n < j → digits k n ≡ digits j n
same_digits = by_digits (λ n ds. (j : ℕ) → n < j → ds ≡ digits j n) one more
  where
    one : (n : ℕ) → n < 10 → (j : ℕ) → n < j → digit n ∷ [] ≡ digits j n
    one n l zero h = absurd (omega arith)
    one n l (suc j) h = sym (last_one j n l)

    more : (n : ℕ) (ds : List ℕ) → 10 ≤ n → ((j : ℕ) → n / 10 < j → ds ≡ digits j (n / 10)) → (j : ℕ) → n < j → ds ++ (digit (n % 10) ∷ []) ≡ digits j n
    more n ds l f zero h = absurd (omega arith)
    more n ds l f (suc j) h = ap (λ (cs : List ℕ). cs ++ (digit (n % 10) ∷ [])) (f j (omega arith)) ∙ sym (front j n l)

pub decimal_one : (n : ℕ) → n < 10 → decimal n ≡ digit (n % 10) ∷ []
unfolding decimal
decimal_one n h = last_one n n h ∙ ap (λ (d : ℕ). digit d ∷ []) (omega arith)

pub decimal_more : (n : ℕ) → 10 ≤ n → decimal n ≡ decimal (n / 10) ++ (digit (n % 10) ∷ [])
unfolding decimal
decimal_more n h = front n n h ∙ ap (λ (cs : List ℕ). cs ++ (digit (n % 10) ∷ [])) (same_digits n (n / 10) (omega arith) (suc (n / 10)) (omega arith))

-- ---- with a sign
pub natural_decimal : (z : ℤ) → pos 0 ≤ℤ z → decimal (nat_abs z) ≡ signed_decimal z
unfolding signed_decimal
natural_decimal (pos n) h = refl
natural_decimal (negsuc n) h = absurd h.le

pub negative_decimal : (z : ℤ) → z <ℤ pos 0 → minus ∷ decimal (nat_abs z) ≡ signed_decimal z
unfolding signed_decimal
negative_decimal (pos n) h = absurd (not-suc-le-zero (<_pos h))
negative_decimal (negsuc n) h = refl

-- ---- which digits, and how many
digits_append : (cs : List ℕ) (d : ℕ) → Digits cs → d < 10 → Digits (cs ++ (digit d ∷ []))
digits_append [] d h l = (omega arith, omega arith, tt)
digits_append (c ∷ cs) d h l = (h.0, h.1, digits_append cs d h.2 l)

pub all_digits : AllDigits
unfolding decimal
all_digits n =
    by_digits (λ n ds. Digits ds)
    (λ n l. (omega arith, omega arith, tt))
    (λ n ds l h. digits_append ds (n % 10) h (omega arith))
    (suc n) n (omega arith)

short_digits : (k n : ℕ) → n < k → (j : ℕ) → n < 10 ^ suc j → length (digits k n) ≤ suc j
short_digits = by_digits (λ n ds. (j : ℕ) → n < 10 ^ suc j → length ds ≤ suc j) (λ n l j h. omega arith) more
  where
    more : (n : ℕ) (ds : List ℕ) → 10 ≤ n → ((j : ℕ) → n / 10 < 10 ^ suc j → length ds ≤ suc j) → (j : ℕ) → n < 10 ^ suc j → length (ds ++ (digit (n % 10) ∷ [])) ≤ suc j
    more n ds l f zero h = absurd (omega arith)
    more n ds l f (suc j) h = omega (arith, length-append ds (digit (n % 10) ∷ []), f j (omega arith))

pub short : Short
unfolding decimal
short n k = short_digits (suc n) n (omega arith) k

front_digits : (k n : ℕ) → n < k → (j : ℕ) → length (digits k n) ≡ suc (suc j) → 10 ^ suc j ≤ n
front_digits = by_digits (λ n ds. (j : ℕ) → length ds ≡ suc (suc j) → 10 ^ suc j ≤ n) (λ n l j h. absurd (omega arith)) more
  where
    more : (n : ℕ) (ds : List ℕ) → 10 ≤ n → ((j : ℕ) → length ds ≡ suc (suc j) → 10 ^ suc j ≤ n / 10) → (j : ℕ) → length (ds ++ (digit (n % 10) ∷ [])) ≡ suc (suc j) → 10 ^ suc j ≤ n
    more n ds l f zero h = omega arith
    more n ds l f (suc j) h = omega (arith, f j (omega (arith, length-append ds (digit (n % 10) ∷ []))))

pub no_zero_in_front : NoZeroInFront
unfolding decimal
no_zero_in_front n k = front_digits (suc n) n (omega arith) k

-- ---- read again
read_append : (v : ℕ) (cs : List ℕ) (c : ℕ) → read_after v (cs ++ (c ∷ [])) ≡ 10 * read_after v cs + (c - digit 0)
unfolding read_after
read_append v [] c = refl
read_append v (d ∷ cs) c = read_append (10 * v + (d - digit 0)) cs c

pub read_decimal : (n : ℕ) → read (decimal n) ≡ n
unfolding decimal
read_decimal n =
    by_digits (λ n ds. read ds ≡ n)
    (λ n l. unfold read_after in omega arith)
    (λ n ds l h. read_append 0 ds (digit (n % 10)) ∙ omega arith)
    (suc n) n (omega arith)
