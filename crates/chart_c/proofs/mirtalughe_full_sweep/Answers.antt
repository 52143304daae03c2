-- `chart_c::mirtalughe_full_sweep` meets its contract: it fills in the numbers of what the sweep answers.
use mathlib.Core.Path.{◌∙◌, ap}
use Rattle.c_records.specs.Sweeps.{swept_fields}
use Rattle.chart_c.proofs.mirtalughe_full_sweep.Goals as goal

pub returns : goal.returns
unfolding swept_fields
returns c = let e = c.sweep-swept.ensures in (c.swept_fields.ensures ∙ ap swept_fields e.0, e.1)
