-- The greatest common divisor, by Euclid's steps.
use Rattle.std.specs.Prelude.{cond, ℕ, zero, suc, ◌%◌, eqb}
use Rattle.std.specs.Int.{◌∣◌}

-- what is asked of it: it divides both, and every number that divides both divides it
pub record Greatest (a b g : ℕ) : Type 0 where
  pub left : g ∣ a
  pub right : g ∣ b
  pub greatest : (k : ℕ) → k ∣ a → k ∣ b → k ∣ g

-- n steps, each from a and b to b and the remainder of a by b; by `let`, so that only the steps that are due are computed
unfoldable pub euclid : ℕ → ℕ → ℕ → ℕ
euclid zero a b = a
euclid (suc n) a b = let r = euclid n b (a % b) in cond (eqb b 0) a r

-- b falls at every step, so b and one more are enough
unfoldable pub gcd_of : ℕ → ℕ → ℕ
gcd_of a b = euclid (suc b) a b
