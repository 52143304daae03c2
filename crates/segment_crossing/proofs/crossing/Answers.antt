-- `segment_crossing::crossing` meets its contract: Cramer's point, divided.
use borrow.Author.Rules.{rules}
use mathlib.Core.Path.{◌∙◌}
use mir.Syntax.{w64}
use mir.ValLaws.{to_z-of_z}
use Rattle.line_segment.proofs.CramersRule.{crossing_is}
use Rattle.segment_crossing.proofs.crossing.Goals as goal

pub returns : goal.returns
returns c =
    c.lowest.ensures
    ∙ crossing_is _ _ c.cramer-p.ensures (to_z-of_z w64 _ (search rules)) (to_z-of_z w64 _ (search rules))
