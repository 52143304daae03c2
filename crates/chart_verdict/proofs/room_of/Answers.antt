-- `chart_verdict::room_of` meets its contract: n(n-1) fits.
use mathlib.Core.Path.{refl, sym, ◌∙◌, ap}
use native.Mathlib.Omega.{arith}
use Rattle.charts.specs.Answer.{room}
use Rattle.charts.proofs.Room.{room_none, room_least}
use Rattle.chart_verdict.proofs.room_of.Goals as goal

pub returns-then-n-eq0 : goal.returns-then-n-eq0
returns-then-n-eq0 c = sym (ap room c.if-n-eq0.true ∙ room_none)

pub overflow_mul-result : goal.overflow_mul-result
unfolding room
overflow_mul-result c = omega (arith, room_least c.args.n 65536 c.requires)

pub returns : goal.returns
unfolding room
returns c = refl
