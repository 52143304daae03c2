-- `piece_fault::is_off_range` meets its contract: x is asked, then y.
use mathlib.Core.Path.{◌≡◌, ◌∙◌, ap}
use lib.IntN.{neg_ℤ}
use mir.Facts.{to_z-of_z}
use Rattle.charts.specs.Fault.{range, outside, off_range}
use Rattle.charts.proofs.Numbers.{shown, or_yes, or_no}
use Rattle.piece_fault.proofs.is_off_range.Goals as goal
use Rattle.piece_fault.proofs.is_off_range.Goals.{After-is_outside, After-is_outside-else-is_outside}

-- what each call says of the coordinate itself
of_x : (c : After-is_outside) → c.is_outside.result ≡ outside (neg_ℤ range) range c.args.x
of_x c = c.is_outside.ensures ∙ ap (outside (neg_ℤ range) range) (to_z-of_z c.ranges.x)

of_y : (c : After-is_outside-else-is_outside) → c.is_outside-else-is_outside.result ≡ outside (neg_ℤ range) range c.args.y
of_y c = c.is_outside-else-is_outside.ensures ∙ ap (outside (neg_ℤ range) range) (to_z-of_z c.ranges.y)

pub returns-then-is_outside : goal.returns-then-is_outside
unfolding off_range
returns-then-is_outside c = or_yes (outside (neg_ℤ range) range c.args.y) (of_x c.before) c.if-is_outside.true

pub returns-else-is_outside : goal.returns-else-is_outside
unfolding off_range
returns-else-is_outside c = or_no (shown (of_x c.before.before) c.if-is_outside.false) (of_y c)
