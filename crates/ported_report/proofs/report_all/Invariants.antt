use mathlib.Core.Path.{◌≡◌}
use Prim.Native.Nat.{ℕ}
use lib.ListN.{length, drop}
use Rattle.ported_pieces.specs.Table.{chart_in}
use Rattle.sweep.specs.Lists.{pairs}
use Rattle.sweep.specs.Step.{each}
use Rattle.ported_arrays.specs.Ledger.{report}
use Rattle.ported_ledger.specs.Books.{ledger_of}
use Rattle.ported_report.proofs.report_all.Given as goal

abbrev pub invariant-loop-i : goal.invariant-loop-i
invariant-loop-i l =
    record {
      listed : (n : ℕ) → each (report (chart_in n l.table)) (pairs (drop l.h l.here)) (ledger_of l.initial.book l.initial.bytes)
          ≡ each (report (chart_in n l.table)) (pairs l.rest) (ledger_of l.book l.bytes);
      kept : l.book.waiting ≡ l.initial.book.waiting;
    }

abbrev pub decreases-loop-i : goal.decreases-loop-i
decreases-loop-i l = length l.rest
