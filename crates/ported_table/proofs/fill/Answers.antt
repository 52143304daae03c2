-- `ported_table::fill` meets its contract: below i the array holds the pieces of the list.
use mathlib.Core.Path.{◌≡◌, refl, sym, ◌∙◌}
use native.Mathlib.Omega.{arith}
use Rattle.ported_table.proofs.Filling.{filled_none, one_more}
use Rattle.ported_table.proofs.fill.Goals as goal

pub loop-i-init : goal.loop-i-init
loop-i-init c = (omega arith, refl, sym (filled_none c.args.list.now c.args.table.now))

pub write-requires : goal.write-requires
write-requires c = omega (arith, c.loop-i-test, c.requires)

pub loop-i-preserved : goal.loop-i-preserved
loop-i-preserved c =
    let list = c.args.list.now in (
      omega arith,
      c.write.auto.table ∙ c.loop-i.invariant.1,
      c.write.ensures ∙ one_more list c.args.table.now c.loop-i.table c.loop-i.i _ c.loop-i.invariant.2 c.piece_at.ensures,
    )

pub returns : goal.returns
returns c =
    let e : c.loop-i.i ≡ c.args.n = omega arith in
    rw e at c.loop-i.invariant.2
