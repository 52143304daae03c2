-- A run of stores from the start.
-- Assumes nothing.
use mathlib.Core.Path.{◌≡◌}
use mathlib.Core.List.{List}
use Prim.Native.Nat.{ℕ, ◌≤◌}
use lib.ListN.{length}
use lib.Seq.{sets}
use Rattle.charts.proofs.Stores.{sets_front}
use Rattle.naive.specs.Pairs.{over}

pub sets_over : (l xs : List ℕ) → length xs ≤ length l → sets l 0 xs ≡ over xs l
unfolding over
sets_over = sets_front
