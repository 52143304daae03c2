-- `quick_test::is_across` meets its contract: the ends are on two sides.
use mathlib.Core.Path.{ap₂, ◌∙◌}
use mir.Syntax.{w64}
use Rattle.charts.proofs.Numbers.{told}
use Rattle.naive.specs.Sides.{two_sides, across_of}
use Rattle.quick_test.proofs.is_across.Goals as goal

pub returns : goal.returns
unfolding across_of
returns c =
    let first = c.side_of in
    let last = c.side_of-2 in
    c.on_two_sides.ensures ∙ ap₂ two_sides (told w64 first.result first.type_inv first.ensures) (told w64 last.result last.type_inv last.ensures)
