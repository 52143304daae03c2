-- `sweep_charts`: the first charts are done, and the rest of what is lent is as it was.
use Prim.Native.Nat.{◌+◌, ◌-◌}
use native.Mathlib.Numerals.{add-one}
use native.Mathlib.Omega.{arith}
use lib.ListN.{get_or, length-take, length-drop}
use Rattle.batch_refusals.proofs.Laying.{none_done, ahead, turn, all_done}
use Rattle.sweep_batch.proofs.sweep_charts.Goals as goal

pub loop-length-init : goal.loop-length-init
loop-length-init c = let a = c.args in none_done a.list.now a.lengths.now a.pairs.now a.results.now

pub overflow_add-to : goal.overflow_add-to
overflow_add-to c =
    let n = ahead c.args.list.now c.args.lengths.now c.args.pairs.now c.args.results.now c.loop-length.length-index c.loop-length.pairs c.loop-length.results c.loop-length.from c.loop-length.at c.loop-length.first c.loop-length.invariant (omega arith) c.requires in
    omega (arith, n)

pub overflow_add-end : goal.overflow_add-end
overflow_add-end c =
    let n = ahead c.args.list.now c.args.lengths.now c.args.pairs.now c.args.results.now c.loop-length.length-index c.loop-length.pairs c.loop-length.results c.loop-length.from c.loop-length.at c.loop-length.first c.loop-length.invariant (omega arith) c.requires in
    omega (arith, n, c.need_of.ensures)

pub overflow_add-next : goal.overflow_add-next
overflow_add-next c =
    let n = ahead c.args.list.now c.args.lengths.now c.args.pairs.now c.args.results.now c.loop-length.length-index c.loop-length.pairs c.loop-length.results c.loop-length.from c.loop-length.at c.loop-length.first c.loop-length.invariant (omega arith) c.requires in
    omega (arith, n)

pub offset_bounds-list-from : goal.offset_bounds-list-from
offset_bounds-list-from c =
    let n = ahead c.args.list.now c.args.lengths.now c.args.pairs.now c.args.results.now c.loop-length.length-index c.loop-length.pairs c.loop-length.results c.loop-length.from c.loop-length.at c.loop-length.first c.loop-length.invariant (omega arith) c.requires in
    omega (arith, n)

pub slice_bounds-sweep_chart-end : goal.slice_bounds-sweep_chart-end
slice_bounds-sweep_chart-end c =
    let n = ahead c.args.list.now c.args.lengths.now c.args.pairs.now c.args.results.now c.loop-length.length-index c.loop-length.pairs c.loop-length.results c.loop-length.from c.loop-length.at c.loop-length.first c.loop-length.invariant (omega arith) c.requires in
    omega (arith, n)

pub slice_bounds-sweep_chart-end-in-loop-length : goal.slice_bounds-sweep_chart-end-in-loop-length
slice_bounds-sweep_chart-end-in-loop-length c =
    let n = ahead c.args.list.now c.args.lengths.now c.args.pairs.now c.args.results.now c.loop-length.length-index c.loop-length.pairs c.loop-length.results c.loop-length.from c.loop-length.at c.loop-length.first c.loop-length.invariant (omega arith) c.requires in
    omega (arith, n, c.need_of.ensures)

pub sweep_chart-requires : goal.sweep_chart-requires
sweep_chart-requires c =
    let n = ahead c.args.list.now c.args.lengths.now c.args.pairs.now c.args.results.now c.loop-length.length-index c.loop-length.pairs c.loop-length.results c.loop-length.from c.loop-length.at c.loop-length.first c.loop-length.invariant (omega arith) c.requires in
    simp (length-take, length-drop) (omega (arith, n))

pub loop-length-preserved : goal.loop-length-preserved
loop-length-preserved c =
    let l = c.loop-length in
    let k = get_or c.args.lengths.now l.length-index 0 in
    let n = c.need_of.result in
    turn c.args.list.now c.args.lengths.now c.args.pairs.now c.args.results.now l.length-index l.pairs l.results l.from l.at l.first l.invariant (omega arith) c.requires
    c.sweep_chart.new.pairs c.sweep_chart.new.res (l.from + k - l.from) (l.at + n - l.at) (l.first + 10 - l.first) (l.length-index + 1) (l.from + k) (l.at + n) (l.first + 10)
    (omega arith) (omega (arith, c.need_of.ensures)) (omega arith) (add-one l.length-index) (omega arith) (omega (arith, c.need_of.ensures)) (omega arith)
    c.sweep_chart.ensures.0 c.sweep_chart.auto.pairs c.sweep_chart.ensures.1

pub shape_of-pairs : goal.shape_of-pairs
shape_of-pairs c = c.loop-length.invariant.same_bytes

pub shape_of-results : goal.shape_of-results
shape_of-results c = c.loop-length.invariant.same_told

pub returns : goal.returns
returns c =
    let l = c.loop-length in
    let s = c.args in
    all_done s.list.now s.lengths.now s.pairs.now s.results.now l.length-index l.pairs l.results l.from l.at l.first l.invariant (omega arith)
