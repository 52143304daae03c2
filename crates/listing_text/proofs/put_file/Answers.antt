-- `put_file` meets its contract: the reader refuses the file, or its chart stands in the list.
use mathlib.Core.Path.{sym, ap}
use native.Mathlib.Omega.{arith}
use Prim.Native.Nat.{◌*◌, ◌≤◌}
use lib.Seq.{length-take-le}
use Rattle.charts.specs.Chart.{most}
use Rattle.chart_file.proofs.Counts.{bytes_given, read_most}
use Rattle.decimals.specs.Text.{ascii}
use Rattle.decimals.proofs.Puts.{put_as}
use Rattle.listing.specs.Listing.{text_of, listing_of}
use Rattle.listing.proofs.Reader.{refused, charted}
use Rattle.listing_text.proofs.put_file.Goals as goal

pub returns-then-number-ne0 : goal.returns-then-number-ne0
unfolding listing_of text_of ascii
returns-then-number-ne0 c =
    let bytes = bytes_given c.args.file.now (λ i. omega (arith, c.type_inv.file i)) in
    put_as _ _ _ c.put_count.ensures (ap text_of (sym (refused _ bytes _ (omega arith) _ _ c.read-read.ensures c.if-number-ne0.true)))

pub overflow_mul-end : goal.overflow_mul-end
overflow_mul-end c =
    let bytes = bytes_given c.args.file.now (λ i. omega (arith, c.type_inv.file i)) in
    let few : c.read-read.result.count ≤ most = read_most _ _ _ _ bytes (omega arith) c.read-read.ensures in
    record { fits = omega arith }

pub slice_bounds-list-end : goal.slice_bounds-list-end
slice_bounds-list-end c =
    let bytes = bytes_given c.args.file.now (λ i. omega (arith, c.type_inv.file i)) in
    let few : c.read-read.result.count ≤ most = read_most _ _ _ _ bytes (omega arith) c.read-read.ensures in
    omega arith

pub slice_bounds-put_chart-end : goal.slice_bounds-put_chart-end
slice_bounds-put_chart-end c =
    let bytes = bytes_given c.args.file.now (λ i. omega (arith, c.type_inv.file i)) in
    let few : c.read-read.result.count ≤ most = read_most _ _ _ _ bytes (omega arith) c.read-read.ensures in
    sym (length-take-le (5 * c.read-read.result.count) c.read-read.new.list (omega arith))

pub put_chart-requires : goal.put_chart-requires
put_chart-requires c =
    let bytes = bytes_given c.args.file.now (λ i. omega (arith, c.type_inv.file i)) in
    (charted _ bytes _ (omega arith) _ _ c.read-read.ensures (omega arith)).accepted

pub returns : goal.returns
unfolding listing_of text_of
returns c =
    let bytes = bytes_given c.args.file.now (λ i. omega (arith, c.type_inv.file i)) in
    put_as _ _ _ c.put_chart.ensures (ap text_of (sym (charted _ bytes _ (omega arith) _ _ c.read-read.ensures (omega arith)).reads))
