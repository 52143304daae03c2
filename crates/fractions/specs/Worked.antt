-- The worked examples of docs/COMPARISON.md, line by line.
use Rattle.std.specs.Prelude.{◌≡◌, [], ◌∷◌, ℕ, pos, negsuc, length}
use Rattle.fractions.specs.Fraction.{ratio_order}
use Rattle.fractions.specs.Turns.{Line, lines_of, fib}
use Rattle.std.specs.declared.cmp.Ordering.TheVariants.{Less, Greater}

-- a whole part and what is left, of the first fraction and of the second
abbrev pub line : ℕ → ℕ → ℕ → ℕ → Line
line p s q t = record { whole = p; left = s; whole' = q; left' = t }

pub record Worked : Type 0 where
  -- the x of two crossings, 45 over 17 and 81 over 31
  pub crossings : lines_of 45 17 81 31 ≡ line 2 11 2 19 ∷ line 1 12 1 6 ∷ line 1 5 1 7 ∷ line 1 5 1 1 ∷ line 5 0 1 2 ∷ []
  pub later : ratio_order (pos 45) 17 (pos 81) 31 ≡ Greater
  -- -7 over 3 and -9 over 4 have the floor -3, above which 2 over 3 and 3 over 4 are left
  pub lefts : lines_of 2 3 3 4 ≡ line 0 2 0 3 ∷ line 1 1 1 1 ∷ line 2 0 3 0 ∷ []
  pub earlier : ratio_order (negsuc 6) 3 (negsuc 8) 4 ≡ Less
  -- the longest with numbers below 2^33 under the lines: neighbours among Fibonacci's, and one of them beside itself
  pub longest : length (lines_of (fib 49) (fib 48) (fib 50) (fib 49)) ≡ 47
  pub beside_itself : length (lines_of (fib 50) (fib 49) (fib 50) (fib 49)) ≡ 48
