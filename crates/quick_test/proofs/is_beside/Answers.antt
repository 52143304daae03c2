-- `quick_test::is_beside` meets its contract: both ends are on one side.
use mathlib.Core.Path.{ap₂, ◌∙◌}
use mir.Syntax.{w64}
use Rattle.charts.proofs.Numbers.{told}
use Rattle.naive.specs.Sides.{one_side, beside_of}
use Rattle.quick_test.proofs.is_beside.Goals as goal

pub returns : goal.returns
unfolding beside_of
returns c =
    let first = c.side_of in
    let last = c.side_of-2 in
    c.on_one_side.ensures ∙ ap₂ one_side (told w64 first.result first.type_inv first.ensures) (told w64 last.result last.type_inv last.ensures)
