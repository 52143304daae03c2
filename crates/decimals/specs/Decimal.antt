-- Numbers in decimal digits, as text, and as text is read.
-- Assumes nothing.
use Rattle.std.specs.Prelude.{cond, List, [], ◌∷◌, ◌++◌, ℕ, zero, suc, ◌+◌, ◌*◌, ◌-◌, ◌/◌, ◌%◌, ltb, eqb, ℤ, pos, negsuc, neg_ℤ}

-- the ASCII code of a digit, and of the sign
abbrev pub digit : ℕ → ℕ
digit d = 48 + d

abbrev pub minus : ℕ
minus = 45

-- the digits of n, of which there are at most k: those of n / 10, where it is not 0, and the last one
unfoldable pub digits : ℕ → ℕ → List ℕ
digits zero n = []
digits (suc k) n = let front = digits k (n / 10) in cond (ltb n 10) [] front ++ (digit (n % 10) ∷ [])

-- no number has more digits than this
unfoldable pub decimal : ℕ → List ℕ
decimal n = digits (suc n) n

unfoldable pub signed_decimal : ℤ → List ℕ
signed_decimal (pos n) = decimal n
signed_decimal (negsuc n) = minus ∷ decimal (suc n)

-- ---- read

-- what digits stand for, with v in front of them
unfoldable pub read_after : ℕ → List ℕ → ℕ
read_after v [] = v
read_after v (c ∷ cs) = read_after (10 * v + (c - digit 0)) cs

abbrev pub read : List ℕ → ℕ
read cs = read_after 0 cs

unfoldable pub read_signed : List ℕ → ℤ
read_signed [] = pos 0
read_signed (c ∷ cs) = cond (eqb c minus) (neg_ℤ (pos (read cs))) (pos (read (c ∷ cs)))
