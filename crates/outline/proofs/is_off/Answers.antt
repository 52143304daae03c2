-- `outline::is_off` meets its contract: the two numbers are those of the corner.
use mathlib.Core.Path.{ap₂, ◌∙◌}
use mir.Syntax.{w32}
use Rattle.charts.specs.Fault.{off_range}
use Rattle.charts.proofs.Numbers.{told}
use Rattle.outline.specs.Outline.{off_at}
use Rattle.outline.proofs.is_off.Goals as goal

pub returns : goal.returns
unfolding off_at
returns c =
    let x = c.number_at in
    let y = c.number_at-2 in
    c.is_off_range.ensures ∙ ap₂ off_range (told w32 x.result x.type_inv x.ensures) (told w32 y.result y.type_inv y.ensures)
