-- `put_place` meets its contract, case by case.
use mathlib.Core.Path.{sym, ap}
use Rattle.decimals.specs.Text.{ascii, put}
use Rattle.decimals.proofs.Puts.{put_then, put_as}
use Rattle.listing_lines.specs.Lines.{place_text}
use Rattle.place_text.proofs.put_place.Goals as goal

pub returns-in-Nothing : goal.returns-in-Nothing
unfolding place_text put
returns-in-Nothing c = rw c.in-Nothing.is

pub returns-in-At : goal.returns-in-At
unfolding place_text ascii
returns-in-At c =
    put_as _ _ _ (put_then _ _ _ c.put_word-said.ensures c.put_point.ensures) (ap place_text (sym c.in-At.is))

pub returns-in-Along : goal.returns-in-Along
unfolding place_text ascii
returns-in-Along c =
    put_as _ _ _ (put_then _ _ _ (put_then _ _ _ c.put_word-said-in-Along.ensures c.put_end-from.ensures) c.put_end.ensures)
    (ap place_text (sym c.in-Along.is))
