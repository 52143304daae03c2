-- `put_point` meets its contract: across, low and high, and then up.
use borrow.Author.Rules.{rules}
use mathlib.Core.List.{◌++◌}
use Rattle.decimals.proofs.Puts.{put_then, put_as}
use Rattle.listing_lines.specs.Lines.{number_text, point_text}
use Rattle.listing_lines.proofs.Found.{low_found, high_found}
use Rattle.place_text.proofs.put_point.Goals as goal

pub returns : goal.returns
unfolding point_text
returns c =
    let p = c.args.p in
    let x_is = low_found c.units_of-speed.result p.x p.d (search rules) c.units_of-speed.ensures (search rules) in
    let x_has = high_found c.units_of-speed.result p.x p.d (search rules) c.units_of-speed.ensures (search rules) in
    let y_is = low_found c.units_of-frequency.result p.y p.d (search rules) c.units_of-frequency.ensures (search rules) in
    let y_has = high_found c.units_of-frequency.result p.y p.d (search rules) c.units_of-frequency.ensures (search rules) in
    put_as _ _ _
    (put_then _ _ _ (put_then _ _ _ (put_then _ _ _ c.put_number-from.ensures c.put_number-across.ensures) c.put_number-up.ensures) c.put_number.ensures)
    (λ i. number_text (x_is i) ++ number_text (x_has i) ++ number_text (y_is i) ++ number_text (y_has i))
