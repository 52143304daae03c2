use mathlib.Core.Path.{◌≡◌}
use mathlib.Core.List.{map}
use Prim.Native.Nat.{ℕ}
use lib.ListN.{drop}
use Rattle.ported_pieces.specs.Table.{chart_in}
use Rattle.sweep.specs.Step.{each}
use Rattle.ported_arrays.specs.Ledger.{report}
use Rattle.ported_ledger.specs.Books.{ledger_of}
use Rattle.ported_report.proofs.report_row.Given as goal

abbrev pub invariant-loop-j : goal.invariant-loop-j
invariant-loop-j l =
    record {
      listed : (n : ℕ) → each (report (chart_in n l.table)) (map (λ j. (l.i, j)) l.behind) (ledger_of l.initial.book l.initial.bytes)
          ≡ each (report (chart_in n l.table)) (map (λ j. (l.i, j)) (drop l.j-index l.behind)) (ledger_of l.book l.bytes);
      kept : l.book.waiting ≡ l.initial.book.waiting;
    }
