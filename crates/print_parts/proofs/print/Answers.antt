-- `print`: what was read is no more than the most pieces, so their numbers are in the list.
use mathlib.Core.Path.{sym}
use native.Mathlib.Omega.{arith}
use Prim.Native.Nat.{◌*◌}
use lib.Seq.{length-take-le}
use Rattle.chart_file.proofs.Counts.{bytes_given, read_most}
use Rattle.listing_parts.proofs.Printed.{of_read}
use Rattle.print_parts.proofs.print.Goals as goal

pub overflow_mul-end : goal.overflow_mul-end
overflow_mul-end c =
    let bytes = bytes_given c.args.file.now (λ i. (c.type_inv.file i).fits) in
    record { fits = omega (arith, read_most _ _ _ _ bytes (omega arith) c.read-read.ensures) }

pub slice_bounds-list-end : goal.slice_bounds-list-end
slice_bounds-list-end c =
    let bytes = bytes_given c.args.file.now (λ i. (c.type_inv.file i).fits) in
    omega (arith, read_most _ _ _ _ bytes (omega arith) c.read-read.ensures, c.read-read.auto.list)

pub print_list-requires : goal.print_list-requires
print_list-requires c =
    of_read _ _ _ _ (bytes_given c.args.file.now (λ i. (c.type_inv.file i).fits)) (omega arith) c.read-read.ensures

pub slice_bounds-print_list-end : goal.slice_bounds-print_list-end
slice_bounds-print_list-end c =
    let bytes = bytes_given c.args.file.now (λ i. (c.type_inv.file i).fits) in
    sym (length-take-le (5 * c.read-read.result.count) c.read-read.new.list (omega (arith, read_most _ _ _ _ bytes (omega arith) c.read-read.ensures, c.read-read.auto.list)))
