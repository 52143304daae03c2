-- A piece taken out of a list of numbers, or put in, and what becomes of the numbers of the others and of the pairs.
use Rattle.std.specs.Prelude.{Bool, cond, not, ◌||◌, List, ◌++◌, map, ℕ, suc, ◌+◌, ◌*◌, ◌-◌, eqb, ltb, ℤ, take, drop}
use Rattle.sweep.specs.Lists.{Pair, keep}

-- the list without the five numbers of piece i
unfoldable pub cut_out : ℕ → List ℤ → List ℤ
cut_out i list = take (5 * i) list ++ drop (5 * i + 5) list

-- five numbers put in as piece i
unfoldable pub put_in : ℕ → List ℤ → List ℤ → List ℤ
put_in i five list = take (5 * i) list ++ (five ++ drop (5 * i) list)

-- "closing up the numbers": those above i are lowered by one
unfoldable pub lowered : ℕ → ℕ → ℕ
lowered i j = cond (ltb i j) (j - 1) j

abbrev pub lower_both : ℕ → Pair → Pair
lower_both i q = (lowered i q.0, lowered i q.1)

-- .. and back
unfoldable pub raised : ℕ → ℕ → ℕ
raised i j = cond (ltb j i) j (suc j)

abbrev pub raise_both : ℕ → Pair → Pair
raise_both i q = (raised i q.0, raised i q.1)

-- one of the two is piece i
unfoldable pub of_piece : ℕ → Pair → Bool
of_piece i q = eqb q.0 i || eqb q.1 i

-- "the old list without that piece's pairs, the rest in the same order"
unfoldable pub without : ℕ → List Pair → List Pair
without i l = map (lower_both i) (keep (λ q. not (of_piece i q)) l)
