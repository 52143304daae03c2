-- Charts laid end to end: the numbers of each in the list, its part of the lent bytes, and what the single call on each
-- answers and leaves. However many charts there are.
use Rattle.std.specs.Prelude.{Bool, cond, ◌&&◌, List, [], ◌∷◌, ◌++◌, ℕ, ◌+◌, ◌/◌, ◌%◌, eqb, leb, ℤ, take, drop}
use Rattle.charts.specs.Chart.{most}
use Rattle.charts.specs.Answer.{room}
use Rattle.bentley_ottmann.specs.declared.Swept.{Swept}
use Rattle.batch.specs.Numbers.{numbers_of}
use Rattle.batch.specs.Single.{swept_alone, left_alone}

-- "n(n-1) [bytes] .., a chart whose length is no multiple of five or that has more than 200 pieces needing none"
unfoldable pub need : ℕ → ℕ
need k = cond (eqb (k % 5) 0) (cond (leb (k / 5) most) (room (k / 5)) 0) 0

-- of charts of these lengths, added up: a number for each
unfoldable pub sum : (ℕ → ℕ) → List ℕ → ℕ
sum f [] = 0
sum f (k ∷ ks) = f k + sum f ks

-- how many numbers the charts have, and how many bytes they need
abbrev pub total : List ℕ → ℕ
total lengths = sum (λ k. k) lengths

abbrev pub needs : List ℕ → ℕ
needs lengths = sum need lengths

-- the lengths add up to the list, and the charts need no more than the lent bytes
unfoldable pub fits : List ℕ → ℕ → ℕ → Bool
fits lengths numbers lent = eqb (total lengths) numbers && leb (needs lengths) lent

-- a chart alone, with its own part lent
pub record Alone : Type 0 where
  pub swept : Swept
  pub left : List ℕ

abbrev pub alone : List ℤ → List ℕ → Alone
alone list lent = record { swept = swept_alone list lent; left = left_alone list lent }

-- "Each chart gets its own lent part of the pair bytes .., the parts end to end in chart order, and its own result"
unfoldable pub each : List ℕ → List ℤ → List ℕ → List Alone
each [] list lent = []
each (k ∷ ks) list lent = alone (take k list) (take (need k) lent) ∷ each ks (drop k list) (drop (need k) lent)

-- the parts as they are left, end to end, and the results
unfoldable pub lefts : List Alone → List ℕ
lefts [] = []
lefts (a ∷ more) = a.left ++ lefts more

unfoldable pub results : List Alone → List ℕ
results [] = []
results (a ∷ more) = numbers_of a.swept ++ results more
