-- `ported_report::report_row` meets its contract: the rest of the pass from here gives the same end.
use mathlib.Core.Path.{refl, sym, ap, ◌∙◌}
use mathlib.Core.List.{map}
use Prim.Native.Nat.{◌+◌}
use native.Mathlib.Omega.{arith}
use lib.ListN.{drop}
use Rattle.ported_pieces.specs.Table.{chart_in}
use Rattle.sweep.specs.Step.{each}
use Rattle.ported_arrays.specs.Ledger.{report}
use Rattle.ported_report.proofs.Reports.{row_step, row_end}
use Rattle.ported_report.proofs.report_row.Goals as goal

pub loop-j-init : goal.loop-j-init
loop-j-init c = record { listed = λ n. refl; kept = refl }

pub loop-j-preserved : goal.loop-j-preserved
loop-j-preserved c =
    record {
      listed =
          λ n.
          let f = report (chart_in n c.args.table.now) in
          c.loop-j.invariant.listed n
          ∙ row_step f c.args.i c.args.behind.now c.loop-j.j-index _ (omega arith)
          ∙ ap (each f (map (λ j. (c.args.i, j)) (drop (c.loop-j.j-index + 1) c.args.behind.now))) (sym (c.report_pair.ensures.listed n));
      kept = c.report_pair.ensures.kept ∙ c.loop-j.invariant.kept;
    }

pub returns-clause-listed : goal.returns-clause-listed
returns-clause-listed c n =
    sym (c.loop-j.invariant.listed n ∙ row_end (report (chart_in n c.args.table.now)) c.args.i c.args.behind.now c.loop-j.j-index _ (omega arith))
