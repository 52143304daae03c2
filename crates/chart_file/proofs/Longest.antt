-- "The longest file has 2,602 bytes": 13 a piece and two for the count, and a full chart of the widest coordinates has as many.
use mathlib.Core.Path.{◌≡◌, refl, ap, ◌∙◌}
use mathlib.Core.List.{List, [], ◌∷◌, ◌++◌}
use Prim.Native.Nat.{ℕ, zero, suc, ◌+◌, ◌*◌, ◌/◌, ◌%◌, ◌≤◌, ◌<◌}
use native.Mathlib.Omega.{arith}
use lib.IntN.{ℤ, pos, negsuc}
use lib.ListN.{length, length-append}
use Rattle.charts.specs.Fault.{outside, off_range, eq_z, same_ends, fault_of}
use Rattle.charts.specs.Chart.{most, number_at, fault_at, pieces, verdict_of}
use Rattle.charts.specs.Verdict.{Accepted}
use Rattle.chart_file.specs.Groups.{spelled}
use Rattle.chart_file.specs.Coordinate.{stored}
use Rattle.chart_file.specs.Format.{groups, bytes_of, bytes_from, count_of, file_of, longest}
use Rattle.chart_file.specs.Reading.{due}
use Rattle.chart_file.specs.Demand.{NoLonger, SomeAsLong}
use Rattle.chart_file.proofs.Spelling.{length_spelled, spelled_stays}
use Rattle.chart_file.proofs.Files.{reads_exactly, chart_row, file_reads}

number_length : (c : ℕ) (v : ℤ) → length (bytes_of c v) ≤ groups
unfolding bytes_of
number_length zero v = omega arith
number_length (suc c) v = length_spelled groups _

kind_length : (c : ℕ) (v : ℤ) → c ≡ 0 → length (bytes_of c v) ≡ 1
unfolding bytes_of
kind_length zero v e = refl
kind_length (suc c) v e = absurd (omega arith)

list_length : (n i : ℕ) (xs : List ℤ) → i % 5 ≡ 0 → length xs ≡ 5 * n → length (bytes_from i xs) ≤ 13 * n
unfolding bytes_from
list_length zero i [] z l = omega arith
list_length zero i (x ∷ xs) z l = absurd (omega arith)
list_length (suc n) i [] z l = absurd (omega arith)
list_length (suc n) i (k ∷ []) z l = absurd (omega arith)
list_length (suc n) i (k ∷ a ∷ []) z l = absurd (omega arith)
list_length (suc n) i (k ∷ a ∷ b ∷ []) z l = absurd (omega arith)
list_length (suc n) i (k ∷ a ∷ b ∷ c ∷ []) z l = absurd (omega arith)
list_length (suc n) i (k ∷ a ∷ b ∷ c ∷ d ∷ xs) z l =
    rw (length-append, length-append, length-append, length-append, length-append)
    (omega (
      arith,
      kind_length (i % 5) k z,
      number_length (suc i % 5) a,
      number_length (suc (suc i) % 5) b,
      number_length (suc (suc (suc i)) % 5) c,
      number_length (suc (suc (suc (suc i))) % 5) d,
      list_length n (suc (suc (suc (suc (suc i))))) xs (omega arith) (omega arith),
    ))

-- a chart's count takes two groups at most
pub count_length : (n : ℕ) → n ≤ most → length (count_of n) ≤ 2
count_length n h = rw (spelled_stays 2 groups n (omega arith) (omega arith) (omega arith)) (length_spelled 2 n)

pub no_longer : NoLonger
no_longer s b list at e =
    let q = chart_row s list at ((reads_exactly s b (due list at)).0 e) in
    omega (
      arith,
      q.2.few,
      ap length q.2.file,
      length-append (count_of q.0) (bytes_from 0 list ++ []),
      length-append (bytes_from 0 list) [],
      count_length q.0 q.2.few,
      list_length q.0 0 list (omega arith) q.1,
    )

-- so is the file of a chart that the calls on lists accept
pub file_no_longer : (list : List ℤ) (n : ℕ) → verdict_of list ≡ Accepted n → length (file_of list) ≤ longest
file_no_longer list n e = let f = file_reads list n e in no_longer (file_of list) f.0 list _ f.1

-- n pieces of the widest coordinates
widest : ℕ → List ℤ
widest zero = []
widest (suc n) = pos 3 ∷ pos 32767 ∷ pos 32767 ∷ negsuc 32766 ∷ negsuc 32766 ∷ widest n

widest_many : (n : ℕ) → length (widest n) ≡ 5 * n
unfolding widest
widest_many zero = refl
widest_many (suc n) = omega (arith, widest_many n)

-- a piece has the numbers that it has without the first one
behind_first : (n i c : ℕ) → number_at (widest (suc n)) (suc i) c ≡ number_at (widest n) i c
unfolding number_at widest
behind_first n i c = let e : 5 * suc i + c ≡ suc (suc (suc (suc (suc (5 * i + c))))) = omega arith in rw e refl

first_sound : (n : ℕ) → fault_at (widest (suc n)) 0 ≡ 0
unfolding fault_at number_at fault_of off_range outside same_ends eq_z widest
first_sound n = refl

no_fault : (n i : ℕ) → i < n → fault_at (widest n) i ≡ 0
unfolding fault_at
no_fault zero i h = absurd (omega arith)
no_fault (suc n) zero h = first_sound n
no_fault (suc n) (suc i) h = rw (behind_first n i 0, behind_first n i 1, behind_first n i 2, behind_first n i 3, behind_first n i 4) (no_fault n i (omega arith))

none_refused : (n i : ℕ) → i ≤ n → pieces (widest n) i ≡ Accepted i
unfolding pieces
none_refused n zero h = refl
none_refused n (suc i) h = rw (none_refused n i (omega arith), no_fault n i (omega arith))

widest_chart : verdict_of (widest most) ≡ Accepted most
unfolding verdict_of
widest_chart = rw (widest_many most) (none_refused most most (omega arith))

-- each of its coordinates takes three groups
coordinate_length : (c : ℕ) (v : ℤ) → 0 < c → length (spelled groups (stored v)) ≡ 3 → length (bytes_of c v) ≡ 3
unfolding bytes_of
coordinate_length zero v h e = absurd (omega arith)
coordinate_length (suc c) v h e = e

three_each : (length (spelled groups (stored (pos 32767))) ≡ 3) × (length (spelled groups (stored (negsuc 32766))) ≡ 3)
unfolding spelled stored
three_each = (refl, refl)

numbers_length : (n i : ℕ) → i % 5 ≡ 0 → length (bytes_from i (widest n)) ≡ 13 * n
unfolding bytes_from widest
numbers_length zero i z = refl
numbers_length (suc n) i z =
    rw (length-append, length-append, length-append, length-append, length-append)
    (omega (
      arith,
      kind_length (i % 5) (pos 3) z,
      coordinate_length (suc i % 5) (pos 32767) (omega arith) three_each.0,
      coordinate_length (suc (suc i) % 5) (pos 32767) (omega arith) three_each.0,
      coordinate_length (suc (suc (suc i)) % 5) (negsuc 32766) (omega arith) three_each.1,
      coordinate_length (suc (suc (suc (suc i))) % 5) (negsuc 32766) (omega arith) three_each.1,
      numbers_length n (suc (suc (suc (suc (suc i))))) (omega arith),
    ))

two_groups : length (count_of most) ≡ 2
unfolding spelled
two_groups = refl

widest_length : length (file_of (widest most)) ≡ longest
unfolding file_of
widest_length =
    let n : length (widest most) / 5 ≡ most = omega (arith, widest_many most) in
    rw (n, length-append) (omega (arith, two_groups, numbers_length most 0 (omega arith)))

pub some_as_long : SomeAsLong
some_as_long =
    let f = file_reads (widest most) most widest_chart in
    (file_of (widest most), f.0, widest most, f.1 ∙ ap (due (widest most)) widest_length, widest_length)
