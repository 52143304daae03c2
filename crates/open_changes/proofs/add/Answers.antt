-- `open_changes::add` meets its contract: by what the piece, and then the places, say.
use Rattle.open_chart.proofs.Outcomes.{five_fault, added, adding_small, adding_faulted, adding_full, adding_at}
use Rattle.open_chart.specs.Memory.{places, five, lowest_free, written}
use Rattle.charts.specs.Chart.{fault_at}
use Rattle.charts.specs.Fault.{fault_of}
use Rattle.charts.specs.Refusal.{number}
use Rattle.charts.proofs.Refusals.{numbered}
use mir.Facts.{to_z-of_z}
use mathlib.Core.Path.{◌≡◌, sym, ap, ◌∙◌}
use Prim.Native.Nat.{ℕ}
use Rattle.open_chart.specs.Changes.{done_with}
use Rattle.open_chart.proofs.Lowest.{below}
use Rattle.open_changes.proofs.add.Goals as goal
use Rattle.open_changes.proofs.add.Goals.{In_default, After-put}

pub returns-then-chart-lt-NUMBERS : goal.returns-then-chart-lt-NUMBERS
returns-then-chart-lt-NUMBERS c =
    let a = c.args in
    let t = added a.chart.now (five a.kind a.x1 a.y1 a.x2 a.y2) _ (adding_small a.chart.now (five a.kind a.x1 a.y1 a.x2 a.y2) c.if-chart-lt-NUMBERS.true) in
    (c.refused.ensures ∙ t.0, t.1)

pub returns-in-Some : goal.returns-in-Some
returns-in-Some c =
    let a = c.args in
    let g = c.ranges in
    let f : number c.in-Some.reason ≡ fault_of a.kind a.x1 a.y1 a.x2 a.y2 = rw (c.in-Some.ensures, to_z-of_z g.kind, to_z-of_z g.x1, to_z-of_z g.y1, to_z-of_z g.x2, to_z-of_z g.y2) in
    let t = added a.chart.now (five a.kind a.x1 a.y1 a.x2 a.y2) _ (adding_faulted a.chart.now (five a.kind a.x1 a.y1 a.x2 a.y2) c.if-chart-lt-NUMBERS.false (number c.in-Some.reason) (five_fault a.kind a.x1 a.y1 a.x2 a.y2 ∙ sym f) (numbered c.in-Some.reason)) in
    (c.refused-in-Some.ensures ∙ t.0, t.1)

-- what the call says of the piece's numbers, where it finds no fault
no_fault : (c : In_default) → let a = c.args in fault_at (five a.kind a.x1 a.y1 a.x2 a.y2) 0 ≡ 0
no_fault c =
    let a = c.args in
    let g = c.ranges in
    five_fault a.kind a.x1 a.y1 a.x2 a.y2 ∙ sym (rw (to_z-of_z g.kind, to_z-of_z g.x1, to_z-of_z g.y1, to_z-of_z g.x2, to_z-of_z g.y2) at c.in_default.ensures)

pub returns-then-i-eq-PLACES : goal.returns-then-i-eq-PLACES
returns-then-i-eq-PLACES c =
    let a = c.args in
    let t = added a.chart.now (five a.kind a.x1 a.y1 a.x2 a.y2) _ (adding_full a.chart.now (five a.kind a.x1 a.y1 a.x2 a.y2) c.if-chart-lt-NUMBERS.false (no_fault c.before.before.before) (sym c.lowest_free-i.ensures ∙ c.if-i-eq-PLACES.true)) in
    (c.refused-then-i-eq-PLACES.ensures ∙ t.0, t.1)

pub put-requires : goal.put-requires
put-requires c =
    let chart = c.args.chart.now in
    (below chart c.lowest_free-i.result c.lowest_free-i.ensures c.if-i-eq-PLACES.false, c.if-chart-lt-NUMBERS.false)

-- what is put are the numbers as they were given
put_here : (p : After-put)
    → let a = p.args in
    p.put.new.chart ≡ written a.chart.now p.lowest_free-i.result (five a.kind a.x1 a.y1 a.x2 a.y2)
put_here p =
    let g = p.ranges in
    rw (p.put.ensures, to_z-of_z g.kind, to_z-of_z g.x1, to_z-of_z g.y1, to_z-of_z g.x2, to_z-of_z g.y2)

pub returns : goal.returns
returns c =
    let a = c.args in
    let e = c.lowest_free-i.ensures in
    let t = added a.chart.now (five a.kind a.x1 a.y1 a.x2 a.y2) _ (adding_at a.chart.now (five a.kind a.x1 a.y1 a.x2 a.y2) c.if-chart-lt-NUMBERS.false (no_fault c.before.before.before.before.before.before) (λ (q : lowest_free a.chart.now places ≡ places). c.if-i-eq-PLACES.false (e ∙ q))) in
    (c.done.ensures ∙ ap done_with e ∙ t.0, put_here c.before.before ∙ ap (λ (i : ℕ). written a.chart.now i (five a.kind a.x1 a.y1 a.x2 a.y2)) e ∙ t.1)
