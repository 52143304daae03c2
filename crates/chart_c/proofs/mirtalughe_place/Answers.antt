-- `chart_c::mirtalughe_place` meets its contract: it fills in the values of what the pair call answers.
use mathlib.Core.Path.{◌∙◌, ap}
use Rattle.c_records.specs.Places.{placed_of}
use Rattle.chart_c.proofs.mirtalughe_place.Goals as goal

pub returns : goal.returns
unfolding placed_of
returns c = c.values.ensures ∙ ap placed_of c.pair_place-answer.ensures
