-- `chart_c::mirtalughe_open_add` meets its contract: the numbers come through as they are.
use mir.Facts.{to_z-of_z}
use Rattle.chart_c.proofs.mirtalughe_open_add.Goals as goal

pub returns : goal.returns
returns c =
    let f = c.ranges in
    rw (to_z-of_z f.kind, to_z-of_z f.x1, to_z-of_z f.y1, to_z-of_z f.x2, to_z-of_z f.y2) at c.add.ensures
