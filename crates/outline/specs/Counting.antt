-- The first number below n of which a question says yes, and how many there are.
use Rattle.std.specs.Prelude.{Bool, cond, ℕ, zero, suc, ◌+◌}

-- n where there is none
unfoldable pub first : (ℕ → Bool) → ℕ → ℕ
first f zero = 0
first f (suc n) = cond (f 0) 0 (suc (first (λ i. f (suc i)) n))

unfoldable pub count : (ℕ → Bool) → ℕ → ℕ
count f zero = 0
count f (suc n) = count f n + cond (f n) 1 0
