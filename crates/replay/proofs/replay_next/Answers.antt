-- `replay_next`: the part that is lent is as long as the file.
use mathlib.Core.Path.{sym}
use native.Mathlib.Omega.{arith}
use lib.Seq.{length-take-le}
use Rattle.replay.proofs.replay_next.Goals as goal

pub slice_bounds-replay_full-end-2 : goal.slice_bounds-replay_full-end-2
slice_bounds-replay_full-end-2 c =
    sym (length-take-le c.size_of-size.result c.args.space.now (omega arith))
