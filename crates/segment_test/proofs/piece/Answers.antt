-- `segment_test::piece` meets its contract: the ends of the five numbers, joined.
use mathlib.Core.Path.{◌∙◌}
use mir.Syntax.{w16}
use mir.ValLaws.{to_z-of_z}
use Rattle.line_segment.specs.Piece.{piece_of, first_included, second_included}
use Rattle.segment_test.proofs.piece.Goals as goal

pub returns : goal.returns
unfolding piece_of first_included second_included
returns c =
    let f = c.ranges in
    c.join.ensures ∙ rw (to_z-of_z w16 _ f.x1, to_z-of_z w16 _ f.y1, to_z-of_z w16 _ f.x2, to_z-of_z w16 _ f.y2)
