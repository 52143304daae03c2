-- The arrays with which a run of the new mode begins: zeros, but for the ends in their order.
use mathlib.Core.Path.{◌≡◌, ◌∙◌}
use mathlib.Core.List.{List, ◌++◌}
use Prim.Native.Nat.{ℕ, ◌*◌}
use lib.IntN.{ℤ}
use lib.ListN.{length, take, drop, length-replicate}
use Rattle.charts.specs.Chart.{most}
use Rattle.full_ends.specs.Ends.{sorted_keys}
use Rattle.full_visit.specs.Carried.{Given}
use Rattle.ported_run.proofs.Beginning.{zeros, front_is}
use Rattle.full_run.specs.Running.{Begun}

pub begun : {n : ℕ} {table : List ℤ} {bytes : List ℕ} → Given n table bytes → (l : List ℕ) → length l ≡ length (take (2 * n) (zeros (2 * most))) → l ≡ sorted_keys table n
    → Begun n table (take (2 * n) (l ++ drop (2 * n) (zeros (2 * most)))) (zeros most) (zeros most) bytes
begun {n} K l e o =
    record {
      given = K;
      in_order = front_is n K.few l e ∙ o;
      actives = length-replicate {A = ℕ} most 0;
      beside = length-replicate {A = ℕ} most 0;
    }
