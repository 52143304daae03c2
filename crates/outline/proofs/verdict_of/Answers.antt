-- `outline::verdict_of` meets its contract: each answer follows from the tests that failed before it.
use mathlib.Core.Path.{sym, ap₂, ◌∙◌}
use mir.Facts.{to_z-of_z}
use Rattle.outline.specs.Outline.{off_peak}
use Rattle.outline.proofs.Verdicts.{odd_count, too_few, too_many, an_outline, refused, off_corner, same_corner, off_peak', accepted}
use Rattle.outline.proofs.verdict_of.Goals as goal

pub returns-then-outline-ne0 : goal.returns-then-outline-ne0
returns-then-outline-ne0 c = rw c.at.ensures (refused c.args.outline.now c.args.x c.args.y (odd_count c.args.outline.now c.if-outline-ne0.true))

pub returns-then-n-lt-FEWEST : goal.returns-then-n-lt-FEWEST
returns-then-n-lt-FEWEST c = rw c.at-then-n-lt-FEWEST.ensures (refused c.args.outline.now c.args.x c.args.y (too_few c.args.outline.now c.if-n-lt-FEWEST.true))

pub returns-then-n-gt-MOST : goal.returns-then-n-gt-MOST
returns-then-n-gt-MOST c = rw c.at-then-n-gt-MOST.ensures (refused c.args.outline.now c.args.x c.args.y (too_many c.args.outline.now c.if-n-gt-MOST.true))

pub returns-then-off-n : goal.returns-then-off-n
returns-then-off-n c = rw c.at-then-off-n.ensures (off_corner c.args.outline.now c.args.x c.args.y (an_outline c.args.outline.now c.if-outline-ne0.false c.if-n-lt-FEWEST.false c.if-n-gt-MOST.false) c.first_off-off.ensures c.if-off-n.true)

pub returns-then-repeated-n : goal.returns-then-repeated-n
returns-then-repeated-n c = rw c.at-then-repeated-n.ensures (same_corner c.args.outline.now c.args.x c.args.y (an_outline c.args.outline.now c.if-outline-ne0.false c.if-n-lt-FEWEST.false c.if-n-gt-MOST.false) c.first_off-off.ensures c.if-off-n.false c.first_repeated-repeated.ensures c.if-repeated-n.true)

pub returns-then-is_off_peak : goal.returns-then-is_off_peak
returns-then-is_off_peak c = rw c.at-then-is_off_peak.ensures (off_peak' c.args.outline.now c.args.x c.args.y (an_outline c.args.outline.now c.if-outline-ne0.false c.if-n-lt-FEWEST.false c.if-n-gt-MOST.false) c.first_off-off.ensures c.if-off-n.false c.first_repeated-repeated.ensures c.if-repeated-n.false (sym (c.is_off_peak.ensures ∙ ap₂ off_peak (to_z-of_z c.ranges.x) (to_z-of_z c.ranges.y)) ∙ c.if-is_off_peak.true))

pub returns : goal.returns
returns c = accepted c.args.outline.now c.args.x c.args.y (an_outline c.args.outline.now c.if-outline-ne0.false c.if-n-lt-FEWEST.false c.if-n-gt-MOST.false) c.first_off-off.ensures c.if-off-n.false c.first_repeated-repeated.ensures c.if-repeated-n.false (sym (c.is_off_peak.ensures ∙ ap₂ off_peak (to_z-of_z c.ranges.x) (to_z-of_z c.ranges.y)) ∙ c.if-is_off_peak.false)
