-- What is promised of numbers as text.
use Rattle.std.specs.Prelude.{◌≡◌, List, [], ◌∷◌, ℕ, suc, ◌^◌, ◌≤◌, ◌<◌, ℤ, length}
use Rattle.decimals.specs.Decimal.{digit, decimal, signed_decimal, read, read_signed}

-- a number is read back from its digits
abbrev pub ReadsBack : Type 0
ReadsBack = ((n : ℕ) → read (decimal n) ≡ n) × ((z : ℤ) → read_signed (signed_decimal z) ≡ z)

-- each is one of 0 to 9
abbrev pub Digits : List ℕ → Type 0
Digits [] = Unit {0}
Digits (c ∷ cs) = (digit 0 ≤ c) × (c ≤ digit 9) × Digits cs

abbrev pub AllDigits : Type 0
AllDigits = (n : ℕ) → Digits (decimal n)

-- with k digits more than one, the number is at least 10 to the power k: no zero stands in front
abbrev pub NoZeroInFront : Type 0
NoZeroInFront = (n k : ℕ) → length (decimal n) ≡ suc (suc k) → 10 ^ suc k ≤ n

-- with at most k digits, where it is below 10 to the power k
abbrev pub Short : Type 0
Short = (n k : ℕ) → n < 10 ^ suc k → length (decimal n) ≤ suc k
