-- `outline::is_off_peak` meets its contract: the range is asked first, then where x stops.
use mathlib.Core.Path.{◌≡◌, ◌∙◌, ap₂}
use lib.IntN.{pos}
use lib.Signed.{lt_z}
use mir.Facts.{to_z-of_z}
use Rattle.charts.specs.Fault.{off_range}
use Rattle.charts.proofs.Numbers.{shown, or_yes, or_no}
use Rattle.outline.specs.Outline.{off_peak}
use Rattle.outline.proofs.is_off_peak.Goals as goal
use Rattle.outline.proofs.is_off_peak.Goals.{After-is_off_range}

off : (c : After-is_off_range) → c.is_off_range.result ≡ off_range c.args.x c.args.y
off c = c.is_off_range.ensures ∙ ap₂ off_range (to_z-of_z c.ranges.x) (to_z-of_z c.ranges.y)

pub returns-then-is_off_range : goal.returns-then-is_off_range
unfolding off_peak
returns-then-is_off_range c = or_yes (lt_z (pos 32766) c.args.x) (off c.before) c.if-is_off_range.true

pub returns-else-is_off_range : goal.returns-else-is_off_range
unfolding off_peak
returns-else-is_off_range c = or_no (shown (off c.before) c.if-is_off_range.false) (rw (to_z-of_z c.ranges.x))
