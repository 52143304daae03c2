-- The statements of specs/Coming, kept.
use Prim.Native.Nat.{◌*◌, ◌<◌}
use native.Mathlib.Omega.{arith}
use Rattle.full_steps.proofs.Promises.{ends_decide}
use Rattle.full_ends.proofs.Promises.{sorted_in_order}
use Rattle.full_ahead.specs.Coming.{LaneComes, EndComes, NoneComes}
use Rattle.full_ahead.proofs.Queue.{C, G, next_is_end, next_is_lane}
use Rattle.full_ahead.proofs.Starts.{none_left, end_starting, end_split, lane_starting, lane_split}

pub lane_comes : LaneComes
lane_comes n table m active lanes live passed r W Z h N l =
    record { next_is = next_is_lane W Z h r N l; starting = lane_starting W Z h r N l; split = lane_split W Z h r N l }

pub end_comes : EndComes
end_comes n table m active lanes live passed to W Z N P =
    let h : passed < 2 * n = omega (arith, P.begun, P.within, (sorted_in_order table n).count) in
    record { next_is = next_is_end W Z h N; starting = end_starting W Z h to P; split = end_split W Z h to P }

pub none_comes : NoneComes
none_comes n table m active lanes live W Z = (ends_decide (C W) (G W) m).1 (none_left W Z)
