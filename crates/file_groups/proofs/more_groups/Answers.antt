-- `more_groups`: the digits below the leading zeros, seven a group; 0 has none, and one group.
use mathlib.Core.Path.{◌≡◌}
use Prim.Native.Nat.{ℕ, ◌+◌, ◌-◌, ◌/◌, ◌^◌, ◌≤◌, ◌<◌}
use native.Mathlib.Omega.{arith}
use borrow.Author.Tests.{ne_eqb}
use lib.Count.{count_leading_zeros, leading_of_zero, leading_top}
use Rattle.chart_writer.specs.Zeros.{groups_of, groups_by}
use Rattle.file_groups.proofs.more_groups.Goals as goal
use Rattle.file_groups.proofs.more_groups.Goals.{Else-v-eq0}

-- a number that is not 0 has a digit
some_digit : (v : ℕ) → v < 2 ^ 32 → (v ≡ 0 → ⊥) → count_leading_zeros 32 v ≤ 31
some_digit v h z = omega (arith, (leading_top 32 v (omega arith) h).1)

by_seven : (z : ℕ) → z ≤ 31 → (31 - z) / 7 + 1 ≡ groups_of (32 - z)
unfolding groups_of
by_seven z h = rw (ne_eqb (32 - z) 0 (λ e. omega arith)) (omega arith)

digit : (c : Else-v-eq0) → count_leading_zeros 32 c.args.v ≤ 31
digit c = some_digit c.args.v c.ranges.v.fits c.if-v-eq0.false

pub overflow_sub-result : goal.overflow_sub-result
overflow_sub-result c = omega (arith, digit c)

pub returns-then-v-eq0 : goal.returns-then-v-eq0
unfolding groups_by groups_of
returns-then-v-eq0 c = rw (c.if-v-eq0.true, leading_of_zero)

pub returns : goal.returns
unfolding groups_by
returns c = by_seven (count_leading_zeros 32 c.args.v) (digit c)
