-- "A coordinate v is stored as 2v when v is 0 or more, else as -2v - 1", and back.
use Rattle.std.specs.Prelude.{cond, ℕ, ◌+◌, ◌*◌, ◌/◌, ◌%◌, eqb, ℤ, pos, negsuc}

-- `negsuc n` is -(n + 1), so that -2v - 1 is 2n + 1
unfoldable pub stored : ℤ → ℕ
stored (pos n) = 2 * n
stored (negsuc n) = 2 * n + 1

-- the coordinate that is stored as u
unfoldable pub signed_of : ℕ → ℤ
signed_of u = cond (eqb (u % 2) 0) (pos (u / 2)) (negsuc (u / 2))
