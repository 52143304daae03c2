-- `chart_pieces::piece_at` meets its contract: the piece of five numbers.
use mir.Syntax.{w16}
use Rattle.charts.specs.Piece.{piece_at}
use Rattle.charts.proofs.Numbers.{told}
use Rattle.chart_pieces.proofs.piece_at.Goals as goal

pub returns : goal.returns
unfolding piece_at
returns c =
    let k = c.kind_at-kind in
    let n1 = c.coordinate_at-x1 in
    let n2 = c.coordinate_at-y1 in
    let n3 = c.coordinate_at-x2 in
    let n4 = c.coordinate_at-y2 in
    rw (
      c.piece.ensures,
      k.ensures,
      told w16 n1.result n1.type_inv n1.ensures,
      told w16 n2.result n2.type_inv n2.ensures,
      told w16 n3.result n3.type_inv n3.ensures,
      told w16 n4.result n4.type_inv n4.ensures,
    )
