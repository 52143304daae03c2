-- A result in ten numbers of 64 bits, in the order of a sweep's fields.
use Rattle.std.specs.Prelude.{Bool, true, false, List, [], ◌∷◌, ℕ, ◌-◌, ℤ, pos, negsuc, Option, None, Some}
use Rattle.fractions.specs.declared.Point.{Point}
use Rattle.bentley_ottmann.specs.declared.Swept.{Swept}

-- "0 for no, 1 for yes"
abbrev pub flag : Bool → ℕ
flag true = 1
flag false = 0

-- "a number below zero stands as 2^64 more": -1 is 2^64 - 1
unfoldable pub word : ℤ → ℕ
word (pos n) = n
word (negsuc n) = 18446744073709551615 - n

-- "whether a point was visited, its x, y and d", all zero where none was
abbrev pub last_numbers : Option Point → List ℕ
last_numbers None = 0 ∷ 0 ∷ 0 ∷ 0 ∷ []
last_numbers (Some p) = 1 ∷ word p.x ∷ word p.y ∷ p.d ∷ []

-- "number, place, pairs, steps, ended, complete"
unfoldable pub numbers_of : Swept → List ℕ
numbers_of s = s.number ∷ s.place ∷ s.pairs ∷ s.steps ∷ flag s.ended ∷ flag s.complete ∷ last_numbers s.last
