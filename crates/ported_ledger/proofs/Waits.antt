-- A pair begins to wait.
use mathlib.Core.Path.{◌≡◌, refl}
use mathlib.Core.Bool.{cond}
use mathlib.Core.List.{List}
use Prim.Native.Nat.{ℕ, ◌-◌}
use lib.Dec.{eqb}
use lib.ListN.{set, drop}
use Rattle.sweep.specs.Lists.{Pair, place}
use Rattle.sweep.specs.Chart.{Chart}
use Rattle.ported_arrays.specs.Numbers.{cell, crossing_before}
use Rattle.ported_arrays.specs.Ledger.{wait}
use Rattle.ported_ledger.specs.Views.{book, ledger}

-- the ledger after a pair begins to wait, from what its arrays are then
pub waits_by : (C : Chart) (q : Pair) (marks waiting bytes marks' later : List ℕ) (head end r : ℕ)
    → marks' ≡ set marks (cell q) 1 → r ≡ head - 1
    → later ≡ cond (eqb head 0) (drop head waiting) (place (crossing_before C) (cell q) (drop head waiting))
    → book marks' later r bytes end ≡ wait C q (ledger marks waiting head bytes end)
unfolding wait
waits_by C q marks waiting bytes marks' later head end r e f g = rw (e, f, g) refl
