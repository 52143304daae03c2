-- `coordinate`: any i32 is an i64.
use native.Mathlib.Omega.{arith}
use mir.Facts.{to_z-of_z}
use Rattle.replay.proofs.text.coordinate.Goals as goal

pub overflow_cast-v : goal.overflow_cast-v
overflow_cast-v c = let f = c.ranges.v in rw (to_z-of_z f) (record { sfits = omega (arith, f.sfits) })
