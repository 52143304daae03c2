-- `chart_c::mirtalughe_region` meets its contract: the fields of what the region's call answers.
use mathlib.Core.Path.{ap, ap₂, ◌∙◌}
use mir.Facts.{to_z-of_z}
use Rattle.region.specs.Region.{region_answer_of}
use Rattle.c_records.specs.Regions.{located_of}
use Rattle.chart_c.proofs.mirtalughe_region.Goals as goal

pub returns : goal.returns
returns c =
    let a = c.args in
    let f = c.ranges in
    c.located_fields.ensures ∙ ap located_of (c.locate.ensures ∙ ap₂ (region_answer_of a.outline.now) (to_z-of_z f.x) (to_z-of_z f.y))
