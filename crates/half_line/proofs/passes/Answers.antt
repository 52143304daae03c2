-- `half_line::passes` meets its contract: each branch knows on which sides the ends and the start lie.
use mathlib.Core.Path.{◌∙◌, ap, sym}
use Rattle.orientation.specs.Turn.{same_turn}
use Rattle.orientation.proofs.Signs.{same_is}
use Rattle.half_line.proofs.Answers.{passes_yes, passes_behind, passes_beside}
use Rattle.half_line.proofs.passes.Goals as goal

pub returns-then-eq-2 : goal.returns-then-eq-2
returns-then-eq-2 c =
    passes_yes _ _ _
    (ap (same_turn c.args.min) (sym c.reverse.ensures) ∙ sym (c.eq.ensures ∙ same_is _ _) ∙ c.if-eq.true)
    (ap (same_turn c.args.min) (sym c.reverse-then-eq.ensures) ∙ sym (c.eq-then-eq.ensures ∙ same_is _ _) ∙ c.if-eq-2.true)

pub returns-else-eq-2 : goal.returns-else-eq-2
returns-else-eq-2 c = passes_behind _ _ _ (ap (same_turn c.args.min) (sym c.reverse-then-eq.ensures) ∙ sym (c.eq-then-eq.ensures ∙ same_is _ _) ∙ c.if-eq-2.false)

pub returns-else-eq : goal.returns-else-eq
returns-else-eq c = passes_beside _ _ _ (ap (same_turn c.args.min) (sym c.reverse.ensures) ∙ sym (c.eq.ensures ∙ same_is _ _) ∙ c.if-eq.false)
