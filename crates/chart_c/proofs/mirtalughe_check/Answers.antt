-- `chart_c::mirtalughe_check` meets its contract: it fills in the numbers of what the check says.
use mathlib.Core.Path.{◌∙◌, ap}
use Rattle.c_records.specs.Checks.{checked_as}
use Rattle.chart_c.proofs.mirtalughe_check.Goals as goal

pub returns : goal.returns
returns c = c.checked_fields.ensures ∙ ap checked_as c.check.ensures
