-- `quick_test::on_one_side` meets its contract: both signs are asked.
use mir.Facts.{to_z-of_z}
use Rattle.naive.specs.Sides.{one_side}
use Rattle.quick_test.proofs.on_one_side.Goals as goal

pub returns-then-d-gt0 : goal.returns-then-d-gt0
unfolding one_side
returns-then-d-gt0 c = let f = c.ranges in rw (to_z-of_z f.e, rw (to_z-of_z f.d) at c.if-d-gt0.true)

pub returns-then-d-lt0 : goal.returns-then-d-lt0
unfolding one_side
returns-then-d-lt0 c = let f = c.ranges in rw (to_z-of_z f.e, rw (to_z-of_z f.d) at c.if-d-gt0.false, rw (to_z-of_z f.d) at c.if-d-lt0.true)

pub returns-else-d-lt0 : goal.returns-else-d-lt0
unfolding one_side
returns-else-d-lt0 c = let f = c.ranges in rw (to_z-of_z f.d, rw (to_z-of_z f.d) at c.if-d-gt0.false, rw (to_z-of_z f.d) at c.if-d-lt0.false)
