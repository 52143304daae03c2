-- `put_end` meets its contract: across, and then up.
use borrow.Author.Rules.{rules}
use mathlib.Core.Path.{ap₂}
use mathlib.Core.List.{◌++◌}
use lib.IntN.{ℤ}
use Rattle.decimals.proofs.Puts.{put_then, put_as}
use Rattle.listing_lines.specs.Lines.{number_text, end_text}
use Rattle.listing_lines.proofs.Found.{low_found}
use Rattle.place_text.proofs.put_end.Goals as goal

pub returns : goal.returns
unfolding end_text
returns c =
    let p = c.args.p in
    put_as _ _ _ (put_then _ _ _ c.put_number-across.ensures c.put_number.ensures)
    (ap₂ (λ (v w : ℤ). number_text v ++ number_text w)
    (low_found c.units_of-x.result p.x p.d (search rules) c.units_of-x.ensures (search rules))
    (low_found c.units_of-y.result p.y p.d (search rules) c.units_of-y.ensures (search rules)))
