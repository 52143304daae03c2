-- `ported_report::report_pair` meets its contract.
use mathlib.Core.Path.{sym, ap, ◌∙◌}
use Rattle.line_segment.specs.declared.Meeting.{Meeting}
use Rattle.sweep.specs.Chart.{meets}
use Rattle.sweep.specs.Ported.{kind_of}
use Rattle.ported_arrays.specs.Ledger.{mark}
use Rattle.ported_report.proofs.Reports.{report_listed, report_apart, report_lists}
use Rattle.ported_report.proofs.report_pair.Goals as goal

pub returns-then-mark_of-eq-LISTED-clause-listed : goal.returns-then-mark_of-eq-LISTED-clause-listed
unfolding mark
returns-then-mark_of-eq-LISTED-clause-listed c n = report_listed _ _ _ (sym c.mark_of.ensures ∙ c.if-mark_of-eq-LISTED.true)

pub returns-in-Nothing-clause-listed : goal.returns-in-Nothing-clause-listed
returns-in-Nothing-clause-listed c n = report_apart _ _ _ (ap kind_of (sym c.test.ensures ∙ c.in-Nothing.is))

pub returns-in-Crossing-clause-listed : goal.returns-in-Crossing-clause-listed
unfolding mark meets
returns-in-Crossing-clause-listed c n =
    c.list_pair.ensures.listed
    ∙ report_lists _ _ _ (λ h. c.if-mark_of-eq-LISTED.false (c.mark_of.ensures ∙ h)) (ap (λ (k : Meeting). meets (kind_of k)) (sym c.test.ensures ∙ c.in-Crossing.is))

pub returns-in-Overlap-clause-listed : goal.returns-in-Overlap-clause-listed
unfolding mark meets
returns-in-Overlap-clause-listed c n =
    c.list_pair-in-Overlap.ensures.listed
    ∙ report_lists _ _ _ (λ h. c.if-mark_of-eq-LISTED.false (c.mark_of.ensures ∙ h)) (ap (λ (k : Meeting). meets (kind_of k)) (sym c.test.ensures ∙ c.in-Overlap.is))
