-- The pieces of m times x, folded at 0 and H, from x = 0 to S.
-- Assumes nothing.
use Rattle.std.specs.Prelude.{cond, List, [], ◌∷◌, ◌++◌, ℕ, zero, suc, ◌+◌, ◌*◌, ◌-◌, ◌/◌, eqb, ltb, ℤ, pos}
use Rattle.folded_line.specs.Folded.{folded}

-- "Each piece includes its first end and excludes its last, but the final piece includes both": the kind of piece j of n
unfoldable pub kind_of : ℕ → ℕ → ℕ
kind_of n j = cond (eqb (suc j) n) 3 1

-- an end of a piece: x, and the folded value there
abbrev pub end_at : ℕ → ℕ → ℕ → List ℤ
end_at m h x = pos x ∷ pos (folded h (m * x)) ∷ []

module _ (m h s : ℕ) where
  -- how many pieces: the least number of stretches of height H that reach m times S
  unfoldable pub count : ℕ
  count = (m * s + (h - 1)) / h

  -- "Joints lie at jH/m", and the last one at S
  unfoldable pub joint : ℕ → ℕ
  joint j = let x = j * h / m in cond (ltb s x) s x

  -- piece j of n as five numbers, from a joint to the next
  unfoldable pub five : ℕ → ℕ → List ℤ
  five n j = pos (kind_of n j) ∷ (end_at m h (joint j) ++ end_at m h (joint (suc j)))

  -- the first k pieces of n
  unfoldable pub fives : ℕ → ℕ → List ℤ
  fives n zero = []
  fives n (suc j) = fives n j ++ five n j

  unfoldable pub line : List ℤ
  line = fives count count
