-- `ported_examine::examine_all` meets its contract: the rest of the pass from here gives the same end.
use mathlib.Core.Path.{◌≡◌, refl, sym, ap, ◌∙◌}
use native.Mathlib.Omega.{arith}
use lib.ListN.{take}
use Rattle.std.specs.Slice.Iter.{windows_rest, windows_size}
use Rattle.ported_pieces.specs.Table.{chart_in}
use Rattle.sweep.specs.Lists.{adjacent}
use Rattle.sweep.specs.Step.{each}
use Rattle.ported_arrays.specs.Ledger.{examine}
use Rattle.ported_examine.proofs.Examinations.{adjacent_step, adjacent_end}
use Rattle.ported_examine.proofs.examine_all.Goals as goal

pub loop-pair-init : goal.loop-pair-init
loop-pair-init c =
    let same = c.into_iter-pair-iterator.ensures.into_iter_gives in
    let size : windows_size c.into_iter-pair-iterator.result ≡ 2 = rw same c.windows-pair-items.ensures.size in
    let all : windows_rest c.into_iter-pair-iterator.result ≡ take c.args.live c.args.active.now = rw same c.windows-pair-items.ensures.rest in
    (omega (arith, size), tt, size, λ n. rw all refl)

pub loop-pair-preserved : goal.loop-pair-preserved
loop-pair-preserved c =
    let i = c.loop-pair.invariant in
    let t = c.in-Some.ensures.steps in
    let size : windows_size c.next.new.self ≡ 2 = t.0 ∙ i.2 in (
      omega (arith, size),
      tt,
      size,
      λ n.
          let f = examine (chart_in n c.args.table.now) c.args.p in
          i.3 n
          ∙ adjacent_step f (windows_rest c.loop-pair.pair-iterator) c.in-Some.pair.now (windows_rest c.next.new.self) (windows_size c.loop-pair.pair-iterator) _ i.2 t.1.0 t.1.1 t.1.2
          ∙ ap (each f (adjacent (windows_rest c.next.new.self))) (sym (c.examine_two.ensures n)),
    )

pub returns : goal.returns
returns c n =
    let i = c.loop-pair.invariant in
    sym (i.3 n ∙ adjacent_end (examine (chart_in n c.args.table.now) c.args.p) (windows_rest c.loop-pair.pair-iterator) _ (omega (arith, i.2, c.in-None.ensures.steps.1.0)))
