-- `full_block::starts` meets its contract: the end is that of the array's piece.
use borrow.Author.Rules.{rules}
use mathlib.Core.Path.{ap, ap₂, ◌∙◌}
use mir.Syntax.{w16}
use lib.IntN.{ℤ}
use mir.ValLaws.{to_z-of_z}
use Rattle.fractions.specs.Point.{point_order, whole_of}
use Rattle.line_segment.specs.declared.LineSegment.{LineSegment}
use Rattle.line_segment.specs.Piece.{point_of}
use Rattle.sweep.specs.Ported.{is_equal}
use Rattle.full_block.proofs.starts.Goals as goal

pub returns : goal.returns
unfolding point_of
returns c =
    λ q m.
    let r = c.piece-s in
    let e = r.result.min in
    c.is_at.ensures q m
    ∙ ap₂ (λ (x : ℤ) (y : ℤ). is_equal (point_order (whole_of x y) q)) (to_z-of_z w16 e.x (search rules)) (to_z-of_z w16 e.y (search rules))
    ∙ ap (λ (s : LineSegment). is_equal (point_order (point_of s.min) q)) r.ensures
