-- `whole_parts::compare_below` meets its contract: the lesser floor is the lesser, and where they are the same, what is left over it decides.
use mathlib.Core.Path.{◌∙◌}
use Rattle.fractions.proofs.Orders.{nat_ordered}
use Rattle.fractions.proofs.WholeParts.{same_under_below, floor_apart, floor_over}
use Rattle.whole_parts.proofs.compare_below.Goals as goal

pub returns-then-d-e : goal.returns-then-d-e
returns-then-d-e c = c.cmp.ensures ∙ nat_ordered _ _ ∙ same_under_below _ _ _ _ c.requires.0 c.if-d-e.true

pub returns-then-p-q : goal.returns-then-p-q
returns-then-p-q c =
    let h = c.requires in
    let p = c.floor_below-p.ensures in
    let q = c.floor_below-q.ensures in
    c.cmp-then-p-q.ensures ∙ nat_ordered _ _ ∙ floor_apart _ _ _ _ _ _ _ _ h.0 h.1 p.0 q.0 p.1 q.1 c.if-p-q.true

pub returns : goal.returns
returns c =
    let h = c.requires in
    c.compare_above.ensures ∙ floor_over _ _ _ _ _ _ _ _ h.0 h.1 c.floor_below-p.ensures.0 c.floor_below-q.ensures.0 c.if-p-q.false
