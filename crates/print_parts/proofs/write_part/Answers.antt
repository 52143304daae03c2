-- `write_part` writes what `put_part` counts, which stands in front of the text.
use mathlib.Core.Path.{sym}
use lib.Seq.{length-take-le}
use Rattle.listing_parts.proofs.Within.{ends_within}
use Rattle.print_parts.proofs.write_part.Goals as goal

pub slice_bounds-write_all-end : goal.slice_bounds-write_all-end
slice_bounds-write_all-end c = ends_within _ _ _ _ c.put_part-end.ensures

pub slice_bounds-write_all-end-2 : goal.slice_bounds-write_all-end-2
slice_bounds-write_all-end-2 c = sym (length-take-le _ _ (ends_within _ _ _ _ c.put_part-end.ensures))
