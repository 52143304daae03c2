-- `open_changes::put` meets its contract: five numbers copied to a place.
use mathlib.Core.Path.{refl, ◌∙◌}
use native.Mathlib.Omega.{arith}
use mir.Facts.{to_z-of_z}
use Rattle.std.proofs.lemmas.Slice.{put_mid-paste}
use Rattle.open_chart.specs.Memory.{five, written}
use Rattle.open_changes.proofs.put.Goals as goal

pub returns : goal.returns
unfolding written
returns c =
    let f = c.ranges in
    let a = c.args in
    put_mid-paste _ _ a.chart.now _ (five a.kind a.x1 a.y1 a.x2 a.y2) 5
    (c.copy_from_slice.ensures.after ∙ rw (to_z-of_z f.kind, to_z-of_z f.x1, to_z-of_z f.y1, to_z-of_z f.x2, to_z-of_z f.y2))
    (omega arith)
    refl
