-- `put_complete` meets its contract, either way.
use mathlib.Core.Path.{sym, ap}
use Rattle.decimals.specs.Text.{ascii}
use Rattle.decimals.proofs.Puts.{put_as}
use Rattle.listing_lines.specs.Lines.{complete_line}
use Rattle.count_lines.proofs.put_complete.Goals as goal

pub returns-then-complete : goal.returns-then-complete
unfolding complete_line ascii
returns-then-complete c = put_as _ _ _ c.put_word.ensures (ap complete_line (sym c.if-complete.true))

pub returns : goal.returns
unfolding complete_line ascii
returns c = put_as _ _ _ c.put_word-2.ensures (ap complete_line (sym c.if-complete.false))
