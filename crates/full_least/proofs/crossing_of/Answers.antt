-- `full_least::crossing_of` meets its contract.
use mathlib.Core.Path.{ap, ◌∙◌}
use Rattle.ported_pieces.specs.Table.{rough_at}
use Rattle.full_lanes.proofs.Laning.{rough_is, first_lesser, second_lesser}
use Rattle.full_least.proofs.crossing_of.Goals as goal

pub returns-then-i-j : goal.returns-then-i-j
returns-then-i-j c =
    let s = c.args in
    rough_is s.table.now s.i s.j c.cramer.ensures c.piece.ensures c.piece-then-i-j.ensures
    ∙ ap (rough_at s.table.now) (first_lesser s.i s.j c.if-i-j.true)

pub returns-else-i-j : goal.returns-else-i-j
returns-else-i-j c =
    let s = c.args in
    rough_is s.table.now s.j s.i c.cramer-else-i-j.ensures c.piece-else-i-j.ensures c.piece-else-i-j-2.ensures
    ∙ ap (rough_at s.table.now) (second_lesser s.i s.j c.if-i-j.false)
