-- `segment_test::touch` meets its contract: both questions are asked, one after the other.
use mathlib.Core.Path.{◌∙◌, sym}
use Rattle.line_segment.proofs.Answers.{touch_yes, touch_outside, touch_excluded}
use Rattle.segment_test.proofs.touch.Goals as goal
use Rattle.segment_test.proofs.touch.Goals.{else-e-via-then-e+else-inner_between, else-e-via-else-e}

pub returns-then-inner_between : goal.returns-then-inner_between
returns-then-inner_between c = touch_yes _ _ c.if-e.true (sym c.inner_between.ensures ∙ c.if-inner_between.true)

pub returns-else-e : goal.returns-else-e
returns-else-e c =
    elim c.else-e.branch [ else-e-via-then-e+else-inner_between w ↦ touch_outside _ _ (sym w.inner_between.ensures ∙ w.if-inner_between.false) | else-e-via-else-e w ↦ touch_excluded _ _ w.if-e.false ]
