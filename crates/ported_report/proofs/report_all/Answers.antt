-- `ported_report::report_all` meets its contract: the rest of the pass from here gives the same end.
use mathlib.Core.Path.{◌≡◌, refl, sym, ap, ◌∙◌}
use Prim.Native.Nat.{◌-◌}
use native.Mathlib.Omega.{arith}
use lib.ListN.{length, take, drop, length-drop}
use Rattle.std.proofs.lemmas.List.{take_all}
use Rattle.ported_pieces.specs.Table.{chart_in}
use Rattle.sweep.specs.Lists.{pairs}
use Rattle.sweep.specs.Step.{each}
use Rattle.ported_arrays.specs.Ledger.{report}
use Rattle.ported_report.proofs.Reports.{rows_step, rows_end}
use Rattle.ported_report.proofs.report_all.Goals as goal

pub loop-i-init : goal.loop-i-init
loop-i-init c =
    let h = c.args.h in
    let here = c.args.here.now in
    let all : take (length here - h) (drop h here) ≡ drop h here = take_all _ _ (omega (arith, length-drop h here)) in
    record { listed = λ n. rw all refl; kept = refl }

pub loop-i-preserved : goal.loop-i-preserved
loop-i-preserved c =
    record {
      listed =
          λ n.
          let f = report (chart_in n c.args.table.now) in
          c.loop-i.invariant.listed n
          ∙ rows_step f c.in-Some.i.now c.in-Some.behind.now c.loop-i.rest.now _ c.in-Some.ensures.cases.0
          ∙ ap (each f (pairs c.in-Some.behind.now)) (sym (c.report_row.ensures.listed n));
      kept = c.report_row.ensures.kept ∙ c.loop-i.invariant.kept;
    }

pub returns-clause-listed : goal.returns-clause-listed
returns-clause-listed c n =
    sym (c.loop-i.invariant.listed n ∙ rows_end (report (chart_in n c.args.table.now)) c.loop-i.rest.now _ c.in_default.ensures.cases)
