-- `ported_queue::next_point` meets its contract.
use mathlib.Core.Path.{sym, ap, ◌∙◌}
use Rattle.std.specs.Prelude.{Some}
use Rattle.ported_queue.proofs.Nexts.{neither, end_only, pair_only, pair_first, end_first}
use Rattle.ported_queue.proofs.next_point.Goals as goal

pub returns-then-ends-passed : goal.returns-then-ends-passed
returns-then-ends-passed c n =
    let t = c.args.table.now in
    let es = c.args.ends.now in
    let ws = c.args.waiting.now in
    neither n t es ws c.args.passed c.args.head c.if-ends-passed.true c.if-waiting-head.true

pub returns-then-waiting-head : goal.returns-then-waiting-head
returns-then-waiting-head c n =
    let t = c.args.table.now in
    let es = c.args.ends.now in
    let ws = c.args.waiting.now in
    ap Some (c.end_point.ensures n) ∙ end_only n t es ws c.args.passed c.args.head c.if-ends-passed.false c.if-waiting-head.true

pub returns-then-ends-passed-2 : goal.returns-then-ends-passed-2
returns-then-ends-passed-2 c n =
    let t = c.args.table.now in
    let es = c.args.ends.now in
    let ws = c.args.waiting.now in
    ap Some (c.crossing.ensures n) ∙ pair_only n t es ws c.args.passed c.args.head c.if-ends-passed-2.true c.if-waiting-head.false

pub returns-then-crossing_before_end : goal.returns-then-crossing_before_end
returns-then-crossing_before_end c n =
    let t = c.args.table.now in
    let es = c.args.ends.now in
    let ws = c.args.waiting.now in
    ap Some (c.crossing-then-crossing_before_end.ensures n)
    ∙ pair_first n t es ws c.args.passed c.args.head c.if-ends-passed-2.false c.if-waiting-head.false
    (sym (c.crossing_before_end.ensures n) ∙ c.if-crossing_before_end.true)

pub returns : goal.returns
returns c n =
    let t = c.args.table.now in
    let es = c.args.ends.now in
    let ws = c.args.waiting.now in
    ap Some (c.end_point-2.ensures n)
    ∙ end_first n t es ws c.args.passed c.args.head c.if-ends-passed-2.false c.if-waiting-head.false
    (sym (c.crossing_before_end.ensures n) ∙ c.if-crossing_before_end.false)
