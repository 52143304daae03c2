-- `print_list`: the sweep's pairs are in front of its bytes, and each part has room.
use mathlib.Core.Path.{sym}
use native.Mathlib.Omega.{arith}
use Prim.Native.Nat.{◌*◌}
use lib.Seq.{length-take-le}
use Rattle.listing_parts.proofs.Counts.{most_room}
use Rattle.listing_parts.proofs.Printed.{of_sweep, pairs_most, part_fits}
use Rattle.print_parts.proofs.print_list.Goals as goal

pub overflow_mul-bytes : goal.overflow_mul-bytes
overflow_mul-bytes c =
    let swept = of_sweep _ _ _ _ (omega (arith, most_room)) c.sweep-swept.ensures.0 c.sweep-swept.ensures.1 in
    record { fits = omega (arith, pairs_most _ _ _ _ c.requires swept) }

pub slice_bounds-pairs-end : goal.slice_bounds-pairs-end
slice_bounds-pairs-end c =
    let swept = of_sweep _ _ _ _ (omega (arith, most_room)) c.sweep-swept.ensures.0 c.sweep-swept.ensures.1 in
    omega (arith, pairs_most _ _ _ _ c.requires swept, c.sweep-swept.auto.pairs)

pub write_part-requires : goal.write_part-requires
write_part-requires c =
    let swept = of_sweep _ _ _ _ (omega (arith, most_room)) c.sweep-swept.ensures.0 c.sweep-swept.ensures.1 in
    omega (arith, part_fits _ _ _ _ c.requires swept c.loop-part.part, c.loop-part.invariant.1)

pub slice_bounds-write_part-end : goal.slice_bounds-write_part-end
slice_bounds-write_part-end c =
    let swept = of_sweep _ _ _ _ (omega (arith, most_room)) c.sweep-swept.ensures.0 c.sweep-swept.ensures.1 in
    sym (length-take-le (2 * c.sweep-swept.result.pairs) c.sweep-swept.new.pairs (omega (arith, pairs_most _ _ _ _ c.requires swept, c.sweep-swept.auto.pairs)))
