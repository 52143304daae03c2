-- `whole_parts::compare_above` meets its contract: where the whole parts differ, they decide; else what is left does, turned over.
use mathlib.Core.Path.{◌∙◌}
use native.Mathlib.Omega.{arith}
use Rattle.fractions.proofs.Orders.{nat_ordered}
use Rattle.fractions.proofs.Turns.{shorter}
use Rattle.fractions.proofs.WholeParts.{same_under, whole_apart, first_whole, second_whole, turned_over}
use Rattle.whole_parts.proofs.+compare_above.Goals as goal
use Rattle.whole_parts.proofs.+compare_above.Goals.{then-s-eq0-via-then-s-eq0, then-s-eq0-via-else-s-eq0+then-t-eq0}

pub returns-then-d-e : goal.returns-then-d-e
returns-then-d-e t c = c.cmp.ensures ∙ nat_ordered _ _ ∙ same_under _ _ _ _ c.requires.0 c.if-d-e.true

pub returns-then-p-q : goal.returns-then-p-q
returns-then-p-q t c = c.cmp-then-p-q.ensures ∙ nat_ordered _ _ ∙ whole_apart _ _ _ _ c.requires.0 c.requires.1 c.if-p-q.true

pub returns-then-s-eq0 : goal.returns-then-s-eq0
returns-then-s-eq0 t c =
    let h = c.requires in
    c.cmp-then-s-eq0.ensures ∙ nat_ordered _ _
    ∙ elim c.then-s-eq0.branch [
      | then-s-eq0-via-then-s-eq0 w ↦ first_whole _ _ _ _ h.0 h.1 c.if-p-q.false w.if-s-eq0.true
      | then-s-eq0-via-else-s-eq0+then-t-eq0 w ↦ second_whole _ _ _ _ h.0 h.1 c.if-p-q.false w.if-t-eq0.true
    ]

pub compare_above-requires : goal.compare_above-requires
compare_above-requires t c =
    let h = shorter c.args.n c.args.d c.args.m c.args.e c.requires.0 c.requires.1 c.if-p-q.false (omega arith) (omega arith) in
    (omega arith, (omega arith, omega arith))

pub returns : goal.returns
returns t c = c.compare_above.ensures ∙ turned_over _ _ _ _ c.requires.0 c.requires.1 c.if-p-q.false
