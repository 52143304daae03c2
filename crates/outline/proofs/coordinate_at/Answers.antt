-- `outline::coordinate_at` meets its contract: the number's coordinate.
use mathlib.Core.Path.{ap, ◌∙◌}
use mir.Syntax.{w16, w32}
use Rattle.charts.specs.Piece.{coordinate_of}
use Rattle.charts.proofs.Numbers.{told}
use Rattle.outline.proofs.coordinate_at.Goals as goal

pub returns : goal.returns
returns c =
    let n = c.number_at in
    let r = c.coordinate in
    told w16 r.result r.type_inv (r.ensures ∙ ap coordinate_of (told w32 n.result n.type_inv n.ensures))
