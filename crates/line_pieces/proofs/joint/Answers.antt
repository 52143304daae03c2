-- `joint`: jH/m, or S where that comes first.
use mathlib.Core.Path.{sym}
use Rattle.folded_line.proofs.Verdicts.{joint_low, joint_high}
use Rattle.line_pieces.proofs.joint.Goals as goal

pub returns-then-line-x : goal.returns-then-line-x
returns-then-line-x c = sym (joint_high _ _ _ _ c.if-line-x.true)

pub returns-else-line-x : goal.returns-else-line-x
returns-else-line-x c = sym (joint_low _ _ _ _ c.if-line-x.false)
