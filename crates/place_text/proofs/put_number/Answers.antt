-- `put_number` meets its contract: a space and the number.
use mathlib.Core.Path.{ap}
use mathlib.Core.List.{◌++◌}
use lib.IntN.{ℤ}
use mir.Facts.{to_z-of_z}
use Rattle.decimals.specs.Text.{ascii}
use Rattle.decimals.specs.Decimal.{signed_decimal}
use Rattle.decimals.proofs.Puts.{put_then, put_as}
use Rattle.listing_lines.specs.Lines.{number_text}
use Rattle.place_text.proofs.put_number.Goals as goal

pub returns : goal.returns
unfolding number_text ascii
returns c =
    put_as _ _ _ (put_then _ _ _ c.put_byte-spaced.ensures c.put_integer.ensures)
    (ap (λ (z : ℤ). ascii " " ++ signed_decimal z) (to_z-of_z c.ranges.z))
