-- Files and charts: a file that is read is its chart's file, and the file of a chart is read as that chart.
use mathlib.Core.Path.{◌≡◌, refl, sym, ap, ◌∙◌, subst}
use mathlib.Core.Logic.{inl, inr}
use mathlib.Core.List.{List, [], ◌∷◌, ◌++◌, append-nil}
use Prim.Native.Nat.{ℕ, zero, suc, ◌+◌, ◌*◌, ◌/◌, ◌%◌, ◌≤◌, ◌<◌}
use native.Mathlib.Nat.{add-zero, zero-add}
use native.Mathlib.Omega.{arith}
use lib.IntN.{ℤ, pos}
use lib.ListN.{length, get_or, length-append}
use Rattle.charts.specs.Chart.{most, number_at, verdict_of}
use Rattle.charts.specs.Demand.{Row4, Row5, none, four, five, six, FaultOf, Sound}
use Rattle.charts.specs.Demand.{Due as ChartDue, done}
use Rattle.charts.specs.Verdict.{Accepted}
use Rattle.charts.proofs.Exactly.{refuses_exactly}
use Rattle.charts.proofs.Rows.{is_false, says_outside}
use Rattle.charts.proofs.Ranges.{kind_in}
use Rattle.chart_file.specs.Groups.{Bytes}
use Rattle.chart_file.specs.Format.{bytes_of, bytes_from, count_of, file_of}
use Rattle.chart_file.specs.Reading.{due}
use Rattle.chart_file.specs.Demand.{InRange, place_of, EndsEqual, Begins, Due, ReadsExactly, ReadsFile, FileReads, ReadsOnce}
use Rattle.chart_file.specs.Demand.{chart as due_chart}
use Rattle.chart_file.proofs.Forth.{due_met}
use Rattle.chart_file.proofs.Back.{due_given}
use Rattle.chart_file.proofs.Spelling.{bytes_spelled}
use Rattle.chart_file.proofs.Begun.{in_range}

pub reads_exactly : ReadsExactly
reads_exactly s b r = (λ e. subst (Due s) e (due_met s b), due_given s b r)

-- ---- the bytes of numbers in range

bytes_append : (s t : List ℕ) → Bytes s → Bytes t → Bytes (s ++ t)
bytes_append [] t a b = b
bytes_append (x ∷ s) t a b = (a.0, bytes_append s t a.1 b)

number_bytes : (c : ℕ) (v : ℤ) → InRange c v → Bytes (bytes_of c v)
unfolding bytes_of
number_bytes zero v r = (omega (arith, (kind_in v (is_false (says_outside (pos 0) (pos 3) v) r)).1), tt)
number_bytes (suc c) v r = bytes_spelled _ _

list_bytes : (i : ℕ) (xs : List ℤ) → ((j : ℕ) → j < length xs → InRange ((i + j) % 5) (get_or xs j (pos 0))) → Bytes (bytes_from i xs)
unfolding bytes_from
list_bytes i [] r = tt
list_bytes i (x ∷ xs) r =
    bytes_append (bytes_of (i % 5) x) (bytes_from (suc i) xs) (number_bytes (i % 5) x (subst (λ (k : ℕ). InRange (k % 5) x) (add-zero i) (r 0 (omega arith))))
    (list_bytes (suc i) xs (λ j h. let e : i + suc j ≡ suc i + j = omega arith in subst (λ (k : ℕ). InRange (k % 5) (get_or xs j (pos 0))) e (r (suc j) (omega arith))))

-- ---- a chart's verdict, and what its file begins with

-- a piece without fault: its numbers are in range and its ends differ
module _ (list : List ℤ) (i : ℕ) where
  ranged : ¬ Row4 (number_at list i 0) (number_at list i 1) (number_at list i 2) (number_at list i 3) (number_at list i 4)
      → ¬ Row5 (number_at list i 0) (number_at list i 1) (number_at list i 2) (number_at list i 3) (number_at list i 4)
      → (c : ℕ) → c < 5 → InRange c (number_at list i c)
  ranged a b zero q = a
  ranged a b (suc zero) q = λ o. b (inl (inl o))
  ranged a b (suc (suc zero)) q = λ o. b (inl (inr o))
  ranged a b (suc (suc (suc zero))) q = λ o. b (inr (inl o))
  ranged a b (suc (suc (suc (suc zero)))) q = λ o. b (inr (inr o))
  ranged a b (suc (suc (suc (suc (suc c))))) q = absurd (omega arith)

  sound_piece : (f : ℕ) → f ≡ 0 → FaultOf list i f → ((c : ℕ) → c < 5 → InRange c (number_at list i c)) × ¬ EndsEqual list i
  sound_piece f e (none a b d) = (ranged a b, d)
  sound_piece f e (four a) = absurd (omega arith)
  sound_piece f e (five a b) = absurd (omega arith)
  sound_piece f e (six a b d) = absurd (omega arith)

sound_begins : (list : List ℤ) (n : ℕ) → length list ≡ 5 * n → n ≤ most → Sound list n → Begins (file_of list) n n list []
unfolding file_of
sound_begins list n l h w = record {
  file = let e : length list / 5 ≡ n = omega arith in rw (e, append-nil);
  few = h;
  ranges = λ i c q m. (sound_piece list i 0 refl (w i (omega arith))).0 c q;
  lengths = λ i q. (sound_piece list i 0 refl (w i q)).1;
}

begins_sound : (s : List ℕ) (list : List ℤ) (n : ℕ) → length list ≡ 5 * n → Begins s n n list [] → verdict_of list ≡ Accepted n
begins_sound s list n l w =
    let r : (i : ℕ) → i < n → (c : ℕ) → c < 5 → InRange c (number_at list i c) = λ i q c h. w.ranges i c h (omega arith) in
    (refuses_exactly list (Accepted n)).1 (done n l w.few (λ i q. none (r i q 0 (omega arith)) (in_range list i (r i q)) (w.lengths i q)))

-- ---- the promises

pub chart_row : (s : List ℕ) (list : List ℤ) (at : ℕ) → Due s (due list at) → (n : ℕ) × (length list ≡ 5 * n) × Begins s n n list []
chart_row s list at (due_chart n xs l w) = (n, l, w)

sound_row : (list : List ℤ) (n : ℕ) → ChartDue list (Accepted n) → (length list ≡ 5 * n) × (n ≤ most) × Sound list n
sound_row list n (done m l h w) = (l, h, w)

pub reads_file : ReadsFile
unfolding file_of
reads_file s b list at e =
    let q = chart_row s list at ((reads_exactly s b (due list at)).0 e) in
    let n : q.0 ≡ length list / 5 = omega (arith, q.1) in
    (q.2.file ∙ rw (append-nil, n), begins_sound s list q.0 q.1 q.2 ∙ ap Accepted n)

-- every number of a chart is in range
pub chart_ranges : (list : List ℤ) (n : ℕ) → verdict_of list ≡ Accepted n → (j : ℕ) → j < length list → InRange (j % 5) (get_or list j (pos 0))
unfolding number_at
chart_ranges list n e j h =
    let q = sound_row list n ((refuses_exactly list (Accepted n)).0 e) in
    let w = sound_begins list n q.0 q.1 q.2 in
    let d : 5 * (j / 5) + j % 5 ≡ j = omega arith in
    subst (λ (k : ℕ). InRange (j % 5) (get_or list k (pos 0))) d (w.ranges (j / 5) (j % 5) (omega arith) (omega arith))

pub file_reads : FileReads
unfolding file_of
file_reads list n e =
    let q = sound_row list n ((refuses_exactly list (Accepted n)).0 e) in
    let w = sound_begins list n q.0 q.1 q.2 in
    let b : Bytes (file_of list) = bytes_append (count_of (length list / 5)) (bytes_from 0 list) (bytes_spelled _ _) (list_bytes 0 list (λ j h. rw zero-add (chart_ranges list n e j h))) in
    let c : length list / 5 ≡ n = omega (arith, q.0) in
    let l : place_of n list ≡ length (file_of list) = rw c (sym (length-append (count_of n) (bytes_from 0 list))) in
    (b, (reads_exactly (file_of list) b (due list (place_of n list))).1 (due_chart n list q.0 w) ∙ ap (due list) l)

pub reads_once : ReadsOnce
reads_once s s' b b' list at at' e e' = (reads_file s b list at e).0 ∙ sym (reads_file s' b' list at' e').0
