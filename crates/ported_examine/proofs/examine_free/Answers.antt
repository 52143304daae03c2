-- `ported_examine::examine_free` meets its contract: each arm knows how the pieces meet.
use mathlib.Core.Path.{sym, ap, ◌∙◌}
use Rattle.sweep.specs.Ported.{kind_of}
use Rattle.ported_arrays.specs.Ledger.{examine_free}
use Rattle.ported_pieces.specs.Table.{chart_in}
use Rattle.ported_examine.proofs.Examinations.{free_by}
use Rattle.ported_examine.proofs.examine_free.Goals as goal

pub returns-in-Nothing : goal.returns-in-Nothing
unfolding examine_free
returns-in-Nothing c n = free_by (chart_in n c.args.table.now) c.args.p (c.args.i, c.args.j) _ (ap kind_of (sym c.test.ensures ∙ c.in-Nothing.is))

pub returns-in-Crossing : goal.returns-in-Crossing
returns-in-Crossing c n =
    c.examine_crossing.ensures n ∙ free_by _ c.args.p _ _ (ap kind_of (sym c.test.ensures ∙ c.in-Crossing.is))

pub returns-in-Overlap : goal.returns-in-Overlap
unfolding examine_free
returns-in-Overlap c n =
    c.list_pair.ensures.listed ∙ free_by (chart_in n c.args.table.now) c.args.p (c.args.i, c.args.j) _ (ap kind_of (sym c.test.ensures ∙ c.in-Overlap.is))
