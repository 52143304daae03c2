-- `quick_test::meets` meets its contract: where sides settle it, by the meaning of the test, and else by its answer.
use mathlib.Core.Path.{sym, ap, ◌∙◌}
use Rattle.line_segment.specs.Demand.{says_yes}
use Rattle.naive.proofs.Apart.{beside_apart, across_meet}
use Rattle.quick_test.proofs.meets.Goals as goal

pub returns-then-is_beside : goal.returns-then-is_beside
returns-then-is_beside c = sym (beside_apart c.args.a c.args.b c.requires.0 c.requires.1 (sym c.is_beside.ensures ∙ c.if-is_beside.true))

pub returns-then-is_across-2 : goal.returns-then-is_across-2
returns-then-is_across-2 c =
    sym (across_meet c.args.a c.args.b c.requires.0 c.requires.1
    (sym c.is_across.ensures ∙ c.if-is_across.true)
    (sym c.is_across-then-is_across.ensures ∙ c.if-is_across-2.true))

pub returns-in-Nothing : goal.returns-in-Nothing
returns-in-Nothing c = sym (ap says_yes (sym c.intersect.ensures ∙ c.in-Nothing.is))

pub returns-in-Crossing : goal.returns-in-Crossing
returns-in-Crossing c = sym (ap says_yes (sym c.intersect.ensures ∙ c.in-Crossing.is))

pub returns-in-Overlap : goal.returns-in-Overlap
returns-in-Overlap c = sym (ap says_yes (sym c.intersect.ensures ∙ c.in-Overlap.is))
