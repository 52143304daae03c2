-- `outline::side_of` meets its contract: the piece of the corner and its next.
use mir.Syntax.{w16}
use Rattle.charts.proofs.Numbers.{told}
use Rattle.outline.specs.Outline.{side_of}
use Rattle.outline.proofs.side_of.Goals as goal

pub returns : goal.returns
unfolding side_of
returns c =
    let n1 = c.coordinate_at-x1 in
    let n2 = c.coordinate_at-y1 in
    let n3 = c.coordinate_at-x2 in
    let n4 = c.coordinate_at-y2 in
    rw (
      c.piece.ensures,
      ← c.next_of-j.ensures,
      told w16 n1.result n1.type_inv n1.ensures,
      told w16 n2.result n2.type_inv n2.ensures,
      told w16 n3.result n3.type_inv n3.ensures,
      told w16 n4.result n4.type_inv n4.ensures,
    )
