-- `ported_examine::examine_pair` meets its contract: by the pair's mark.
use mathlib.Core.Path.{refl, sym, ◌∙◌}
use Rattle.ported_arrays.specs.Ledger.{mark}
use Rattle.ported_examine.proofs.Examinations.{examine_marked, examine_by}
use Rattle.ported_examine.proofs.examine_pair.Goals as goal

pub returns-then-mark_of-eq-FREE : goal.returns-then-mark_of-eq-FREE
unfolding mark
returns-then-mark_of-eq-FREE c n =
    c.examine_free.ensures n ∙ examine_by _ c.args.p _ _ (sym c.mark_of.ensures ∙ c.if-mark_of-eq-FREE.true) _ refl

pub returns-else-mark_of-eq-FREE : goal.returns-else-mark_of-eq-FREE
unfolding mark
returns-else-mark_of-eq-FREE c n = examine_marked _ c.args.p _ _ (λ h. c.if-mark_of-eq-FREE.false (c.mark_of.ensures ∙ h))
