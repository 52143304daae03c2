-- `half_line::corner_at` meets its contract: both numbers as coordinates.
use mathlib.Core.Path.{ap, ◌∙◌}
use mir.Syntax.{w16}
use mir.Facts.{to_z-of_z}
use Rattle.charts.specs.Piece.{coordinate_of}
use Rattle.charts.proofs.Numbers.{told}
use Rattle.half_line.proofs.corner_at.Goals as goal

pub returns : goal.returns
returns c =
    let f = c.ranges in
    let u = c.coordinate in
    let v = c.coordinate-2 in
    rw (told w16 u.result u.type_inv (u.ensures ∙ ap coordinate_of (to_z-of_z f.x)), told w16 v.result v.type_inv (v.ensures ∙ ap coordinate_of (to_z-of_z f.y)))
