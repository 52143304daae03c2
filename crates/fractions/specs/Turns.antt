-- Two fractions compared with pencil and paper, each line of the paper written out, and how many lines there are.
use Rattle.std.specs.Prelude.{Bool, false, cond, List, [], ◌∷◌, ℕ, zero, suc, ◌+◌, ◌/◌, ◌%◌, eqb, ltb, pos}
use Rattle.fractions.specs.Order.{order, and_then}
use Rattle.std.specs.declared.cmp.Ordering.{Ordering}
use Rattle.std.specs.declared.cmp.Ordering.TheVariants.{Equal}

-- two divisions side by side: of the first fraction the whole part and what is left, then of the second
pub record Line : Type 0 where
  pub whole : ℕ
  pub left : ℕ
  pub whole' : ℕ
  pub left' : ℕ

abbrev pub line_of : ℕ → ℕ → ℕ → ℕ → Line
line_of n d m e = record { whole = n / d; left = n % d; whole' = m / e; left' = m % e }

-- "until they differ or one is zero"
abbrev pub goes_on : Line → Bool
goes_on l = cond (eqb l.whole l.whole') (cond (ltb 0 l.left) (ltb 0 l.left') false) false

-- "whole parts first, then the remainders turned over": n over d against m over e, then e over what is left of m against d over what is left of n, since turned over the greater is the lesser. At most k lines
unfoldable pub lines_in : ℕ → ℕ → ℕ → ℕ → ℕ → List Line
lines_in zero n d m e = []
lines_in (suc k) n d m e = let more = lines_in k e (m % e) d (n % d) in line_of n d m e ∷ cond (goes_on (line_of n d m e)) more []

-- both divisors fall from line to line, so d and e together are enough
unfoldable pub lines_of : ℕ → ℕ → ℕ → ℕ → List Line
lines_of n d m e = lines_in (d + e) n d m e

-- the last line decides: by the whole parts, else by what is left
abbrev pub decided : Line → Ordering
decided l = and_then (order (pos l.whole) (pos l.whole')) (order (pos l.left) (pos l.left'))

unfoldable pub last_says : List Line → Ordering
last_says [] = Equal
last_says (l ∷ []) = decided l
last_says (l ∷ k ∷ ls) = last_says (k ∷ ls)

-- Fibonacci's numbers, by the two last ones
unfoldable pub fib_from : ℕ → ℕ → ℕ → ℕ
fib_from zero a b = a
fib_from (suc k) a b = fib_from k b (a + b)

unfoldable pub fib : ℕ → ℕ
fib k = fib_from k 0 1
