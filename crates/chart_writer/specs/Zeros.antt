-- How many groups of seven bits a number takes, from its leading zeros.
use Rattle.std.specs.Prelude.{cond, ℕ, ◌+◌, ◌-◌, ◌/◌, eqb}
use Rattle.std.specs.Int.Count.{count_leading_zeros}

-- so many binary digits, seven to a group; 0 has none, and takes one group
unfoldable pub groups_of : ℕ → ℕ
groups_of digits = cond (eqb digits 0) 1 ((digits + 6) / 7)

-- of a number below 2 to the power w: its digits are those below its leading zeros
unfoldable pub groups_by : ℕ → ℕ → ℕ
groups_by w v = groups_of (w - count_leading_zeros w v)
