-- `outline::is_repeated` meets its contract: the four numbers are those of the corner and its next.
use mir.Syntax.{w32}
use Rattle.charts.proofs.Numbers.{told}
use Rattle.outline.specs.Outline.{same_at}
use Rattle.outline.proofs.is_repeated.Goals as goal

pub returns : goal.returns
unfolding same_at
returns c =
    let n1 = c.number_at in
    let n2 = c.number_at-2 in
    let n3 = c.number_at-3 in
    let n4 = c.number_at-4 in
    rw (
      c.has_same_ends.ensures,
      ← c.next_of-j.ensures,
      told w32 n1.result n1.type_inv n1.ensures,
      told w32 n2.result n2.type_inv n2.ensures,
      told w32 n3.result n3.type_inv n3.ensures,
      told w32 n4.result n4.type_inv n4.ensures,
    )
