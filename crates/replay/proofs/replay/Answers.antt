-- `replay`: what was read is no more than the most pieces, so their numbers are in the list.
use native.Mathlib.Omega.{arith}
use mathlib.Core.Path.{sym}
use Prim.Native.Nat.{◌*◌}
use lib.Seq.{length-take-le}
use Rattle.chart_file.proofs.Counts.{bytes_given, read_most}
use Rattle.replay.proofs.replay.Goals as goal

pub overflow_mul-end : goal.overflow_mul-end
overflow_mul-end c =
    let bytes = bytes_given c.args.file.now (λ i. (c.type_inv.file i).fits) in
    record { fits = omega (arith, read_most _ _ _ _ bytes (omega arith) c.read-read.ensures) }

pub slice_bounds-list-end : goal.slice_bounds-list-end
slice_bounds-list-end c =
    let bytes = bytes_given c.args.file.now (λ i. (c.type_inv.file i).fits) in
    omega (arith, read_most _ _ _ _ bytes (omega arith) c.read-read.ensures, c.read-read.auto.list)

pub slice_bounds-answer-end : goal.slice_bounds-answer-end
slice_bounds-answer-end c =
    let bytes = bytes_given c.args.file.now (λ i. (c.type_inv.file i).fits) in
    sym (length-take-le (5 * c.read-read.result.count) c.read-read.new.list (omega (arith, read_most _ _ _ _ bytes (omega arith) c.read-read.ensures, c.read-read.auto.list)))
