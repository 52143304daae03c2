-- `segment_holds::end_to_point` meets its contract: both times D.
use borrow.Author.Rules.{rules}
use mathlib.Core.Path.{◌∙◌}
use mir.Syntax.{w16, w64}
use mir.ValLaws.{to_z-of_z}
use Rattle.fractions.specs.Order.{order}
use Rattle.line_segment.proofs.Holding.{end_point_is}
use Rattle.line_segment.proofs.CramersRule.{back}
use Rattle.segment_holds.proofs.end_to_point.Goals as goal

pub scaled-requires : goal.scaled-requires
scaled-requires c = c.requires.d_small

pub scaled-requires-2 : goal.scaled-requires-2
scaled-requires-2 c = c.requires.d_small

pub returns : goal.returns
unfolding order
returns c =
    c.cmp.ensures
    ∙ end_point_is _ _ (back c.scaled.ensures.1 c.scaled.ensures.0 tt) (back c.scaled-2.ensures.1 c.scaled-2.ensures.0 tt) (to_z-of_z w16 _ (search rules)) (to_z-of_z w16 _ (search rules)) (to_z-of_z w64 _ (search rules)) (to_z-of_z w64 _ (search rules))
