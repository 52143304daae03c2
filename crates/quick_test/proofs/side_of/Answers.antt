-- `quick_test::side_of` meets its contract: the determinant is the side, over one.
use mathlib.Core.Path.{◌≡◌, ◌∙◌}
use mir.Syntax.{w64}
use Rattle.integers.proofs.Ring.{*ℤ_idr}
use Rattle.integers.proofs.Machine.{m_eq}
use Rattle.integers.proofs.Tests.{ranged}
use Rattle.orientation.specs.Turn.{det}
use Rattle.line_segment.specs.declared.EndPoint.{EndPoint}
use Rattle.line_segment.specs.declared.LineSegment.{LineSegment}
use Rattle.line_segment.specs.Piece.{point_of}
use Rattle.line_segment.specs.Geometry.{run, rise, side}
use Rattle.charts.proofs.Numbers.{told}
use Rattle.quick_test.proofs.side_of.Goals as goal
use Rattle.quick_test.proofs.side_of.Goals.{After-determinant}

-- the determinant of the two ends and a third point is the side on which that lies
det_side : (s : LineSegment) (e : EndPoint) → det s.min.x s.min.y s.max.x s.max.y e.x e.y ≡ side s (point_of e)
unfolding det side run rise point_of
det_side s e = simp *ℤ_idr

read : (c : After-determinant)
    → let a = c.args in
    c.determinant.result ≡ det a.s.min.x a.s.min.y a.s.max.x a.s.max.y a.e.x a.e.y
unfolding det
read c = c.determinant.ensures ∙ m_eq (search ranged depth 60 fits 20000) tt

pub returns : goal.returns
returns c =
    let a = c.args in
    told w64 c.determinant.result c.determinant.type_inv (read c ∙ det_side a.s a.e)
