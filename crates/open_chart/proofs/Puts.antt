-- The five numbers of a place: read one after the other, and stored so.
-- Assumes nothing.
use mathlib.Core.Path.{◌≡◌}
use mathlib.Core.List.{List}
use Prim.Native.Nat.{ℕ, suc, ◌+◌, ◌*◌, ◌≤◌}
use native.Mathlib.Nat.{add-zero}
use native.Mathlib.Omega.{arith}
use lib.IntN.{ℤ, pos}
use lib.ListN.{length, get_or, set}
use lib.Seq.{sets-eq}
use Rattle.charts.specs.Fault.{fault_of}
use Rattle.charts.specs.Chart.{number_at, fault_at}
use Rattle.open_chart.specs.Memory.{five, written}

pub fault_here : (chart : List ℤ) (i : ℕ)
    → fault_of (get_or chart (5 * i) (pos 0)) (get_or chart (5 * i + 1) (pos 0)) (get_or chart (5 * i + 2) (pos 0)) (get_or chart (5 * i + 3) (pos 0)) (get_or chart (5 * i + 4) (pos 0)) ≡ fault_at chart i
unfolding fault_at number_at
fault_here chart i = rw (add-zero (5 * i))

pub five_written : (chart : List ℤ) (i : ℕ) (a b c d e : ℤ) → 5 * i + 5 ≤ length chart
    → set (set (set (set (set chart (5 * i) a) (5 * i + 1) b) (5 * i + 2) c) (5 * i + 3) d) (5 * i + 4) e ≡ written chart i (five a b c d e)
unfolding written
five_written chart i a b c d e h =
    let n1 : 5 * i + 1 ≡ suc (5 * i) = omega arith in
    let n2 : 5 * i + 2 ≡ suc (suc (5 * i)) = omega arith in
    let n3 : 5 * i + 3 ≡ suc (suc (suc (5 * i))) = omega arith in
    let n4 : 5 * i + 4 ≡ suc (suc (suc (suc (5 * i)))) = omega arith in
    rw (n1, n2, n3, n4) (sets-eq (five a b c d e) chart (5 * i) h)
