use mathlib.Core.Path.{◌≡◌}
use Prim.Native.Nat.{ℕ}
use lib.ListN.{take}
use Rattle.std.specs.Slice.Iter.{windows_rest, windows_size}
use Rattle.ported_pieces.specs.Table.{chart_in}
use Rattle.sweep.specs.Lists.{adjacent}
use Rattle.sweep.specs.Step.{each}
use Rattle.ported_arrays.specs.Ledger.{examine}
use Rattle.ported_ledger.specs.Books.{ledger_of}
use Rattle.ported_examine.proofs.examine_all.Given as goal

abbrev pub invariant-loop-pair : goal.invariant-loop-pair
invariant-loop-pair l =
    (goal.iterator-loop-pair).can_next l.pair-iterator × (goal.iterator-loop-pair).is_finite l.pair-iterator
    × (windows_size l.pair-iterator ≡ 2)
    × ((n : ℕ) → each (examine (chart_in n l.table) l.p) (adjacent (take l.live l.active)) (ledger_of l.initial.book l.initial.bytes)
    ≡ each (examine (chart_in n l.table) l.p) (adjacent (windows_rest l.pair-iterator)) (ledger_of l.book l.bytes))
