-- From a file's reading to the row of `Due` that it meets, number by number and piece by piece.
use mathlib.Core.Path.{◌≡◌, refl, sym, ap, ◌∙◌, subst}
use mathlib.Core.Bool.{Bool, true, false, cond}
use mathlib.Core.List.{List, [], ◌∷◌, ◌++◌}
use Prim.Native.Nat.{ℕ, zero, suc, ◌+◌, ◌*◌, ◌^◌, ◌≤◌, ◌<◌}
use native.Mathlib.Nat.{zero-add}
use native.Mathlib.Decide.{dec_lt}
use native.Mathlib.Omega.{arith}
use borrow.Author.Tests.{eqb-true, eqb-false, ltb-true, ltb-false}
use lib.Dec.{eqb, ltb}
use lib.IntN.{ℤ}
use lib.ListN.{length, get_or, take, drop, length-append, drop_of_length-le}
use lib.Seq.{take_all, take-append-le, drop-cons, drop-append_seam}
use Rattle.charts.specs.Chart.{most, number_at, fault_at}
use Rattle.chart_file.specs.Found.{Groups, Value, Fault, Number}
use Rattle.chart_file.specs.Groups.{groups_at, Bytes}
use Rattle.chart_file.specs.Format.{groups, bytes_of, bytes_from, count_of}
use Rattle.chart_file.specs.Reading.{Reading, due, stopped, limited, count_at, counted, stands_at, joined, more, numbers, with_length, piece, pieces, ended, reading_of}
use Rattle.chart_file.specs.Demand.{InRange, Amiss, place_of, EndsEqual, Begins, Due, count_fault, count, number, extra, chart, InGroups, ends, unended, padded}
use Rattle.chart_file.specs.Demand.{number as inside}
use Rattle.chart_file.specs.Demand.{piece as due_piece}
use Rattle.chart_file.proofs.Marks.{groups_exactly}
use Rattle.chart_file.proofs.OneNumber.{Stands, well, ill, number_row}
use Rattle.chart_file.proofs.Begun.{place_one, rest_there, begins_more, fault_ends, ends_fault}

module _ (s : List ℕ) (b : Bytes s) (n : ℕ) where
  -- c numbers of piece p are read after the numbers ys, or a row is met
  Reached : ℕ → ℕ → List ℤ → Reading → Type 0
  Reached p c ys (due xs at) = (length xs ≡ 5 * p + c) × (take (5 * p) xs ≡ ys) × (at ≡ place_of n xs) × Begins s n p xs (drop at s)
  Reached p c ys (stopped f q) = Due s (stopped f q)

  one_more : (p c : ℕ) (ys : List ℤ) → p < n → c < 5 → (r : Reading) → Reached p c ys r → Reached p (suc c) ys (more (stands_at s c) r)
  unfolding Reached more joined
  one_more p c ys h q (stopped f k) w = w
  one_more p c ys h q (due xs at) w = go (stands_at s c at) (number_row s at c b)
    where
      go : (v : Number) → Stands s at c v → Reached p (suc c) ys (joined xs at v)
      go v (well d z rest r e) =
          let xs' = xs ++ (z ∷ []) in
          let at' : at + length (bytes_of c z) ≡ place_of n xs' = ap (λ (k : ℕ). k + length (bytes_of c z)) w.2 ∙ sym (place_one n p c xs z w.0 q) in
          let w' : Begins s n p xs' rest = begins_more s n p c xs z rest q w.0 r (subst (Begins s n p xs) e w.3) in (
            omega (arith, length-append xs (z ∷ []), w.0),
            take-append-le (5 * p) xs (z ∷ []) (omega (arith, w.0)) ∙ w.1,
            at',
            subst (Begins s n p xs') (sym (ap (λ (k : ℕ). drop k s) at' ∙ rest_there s n p xs' rest w')) w',
          )
      go v (ill d f a) =
          subst (λ (k : ℕ). Due s (stopped f k)) (sym w.2)
          (number n p c f xs (drop at s) h q w.0 w.3 (subst (λ (k : ℕ). Amiss (drop at s) k c f) w.2 a))

  all_numbers : (p c : ℕ) (ys : List ℤ) → p < n → c ≤ 5 → (r : Reading) → Reached p 0 ys r → Reached p c ys (numbers s c r)
  unfolding numbers
  all_numbers p zero ys h q r w = w
  all_numbers p (suc c) ys h q r w = one_more p c ys h q (numbers s c r) (all_numbers p c ys h (omega arith) r w)

  -- p pieces are read, or a row is met
  Got : ℕ → Reading → Type 0
  Got p (due xs at) = (length xs ≡ 5 * p) × (at ≡ place_of n xs) × Begins s n p xs (drop at s)
  Got p (stopped f q) = Due s (stopped f q)

  one_piece : (p : ℕ) → p < n → (r : Reading) → Got p r → Got (suc p) (piece s p r)
  unfolding Reached Got piece with_length
  one_piece p h (stopped f q) w = w
  one_piece p h (due xs at) w = go (numbers s 5 (due xs at)) (all_numbers p 5 xs h (omega arith) (due xs at) (omega (arith, w.0), take_all (5 * p) xs (omega (arith, w.0)), w.1, w.2))
    where
      test : (t : Bool) (ys : List ℤ) (k : ℕ) → eqb (fault_at ys p) 0 ≡ t → Reached p 5 xs (due ys k) → Got (suc p) (cond t (due ys k) (stopped 6 at))
      test true ys k e v =
          let r : (c : ℕ) → c < 5 → InRange c (number_at ys p c) = λ c l. v.3.ranges p c l (omega (arith, v.0)) in (
            omega (arith, v.0),
            v.2,
            record {
              file = v.3.file;
              few = v.3.few;
              ranges = v.3.ranges;
              lengths = λ i l. elim (dec_lt i p) [
                | yes y ↦ v.3.lengths i y
                | no y ↦ let z : p ≡ i = omega arith in subst (λ (j : ℕ). ¬ EndsEqual ys j) z (λ m. ends_fault ys p r m (eqb-true (fault_at ys p) 0 e))
              ];
            },
          )
      test false ys k e v =
          let r : (c : ℕ) → c < 5 → InRange c (number_at ys p c) = λ c l. v.3.ranges p c l (omega (arith, v.0)) in
          subst (λ (j : ℕ). Due s (stopped 6 j)) (ap (place_of n) v.1 ∙ sym w.1)
          (due_piece n p ys (drop k s) h v.0 v.3 (fault_ends ys p r (eqb-false (fault_at ys p) 0 e)))

      go : (r : Reading) → Reached p 5 xs r → Got (suc p) (with_length p at r)
      go (stopped f q) v = v
      go (due ys k) v = test (eqb (fault_at ys p) 0) ys k refl v

  all_pieces : (from : ℕ) → from ≡ length (count_of n) → Begins s n 0 [] (drop from s) → (p : ℕ) → p ≤ n → Got p (pieces s from p)
  unfolding Got pieces bytes_from
  all_pieces from e w zero h = (omega arith, omega arith, w)
  all_pieces from e w (suc p) h = one_piece p h (pieces s from p) (all_pieces from e w p (omega arith))

  after_pieces : (r : Reading) → Got n r → Due s (ended (length s) r)
  unfolding Got ended
  after_pieces (stopped f q) w = w
  after_pieces (due xs at) w = go (ltb at (length s)) refl
    where
      go : (t : Bool) → ltb at (length s) ≡ t → Due s (cond t (stopped 7 at) (due xs at))
      go true e =
          subst (λ (j : ℕ). Due s (stopped 7 j)) (sym w.1)
          (extra n xs (get_or s at 0) (drop (suc at) s) w.0 (subst (Begins s n n xs) (drop-cons s at 0 (ltb-true at (length s) e)) w.2))
      go false e =
          subst (λ (j : ℕ). Due s (due xs j)) (sym w.1)
          (chart n xs w.0 (subst (Begins s n n xs) (drop_of_length-le s (ltb-false at (length s) e)) w.2))

  -- the count is read, and the pieces follow it
  after_count : (rest : List ℕ) → s ≡ count_of n ++ rest → n ≤ most → (from : ℕ) → from ≡ length (count_of n) → Due s (ended (length s) (pieces s from n))
  unfolding bytes_from
  after_count rest e h from f =
      let d : drop from s ≡ rest = rw (f, e) (drop-append_seam (count_of n) rest) in
      after_pieces (pieces s from n)
      (all_pieces from f (record { file = rw d e; few = h; ranges = λ i c q l. absurd (omega arith); lengths = λ i q. absurd (omega arith) }) n (omega arith))

pub due_met : (s : List ℕ) → Bytes s → Due s (reading_of s)
unfolding reading_of count_at limited counted
due_met s b = go (groups_at groups s 0) ((groups_exactly groups s 0 (omega arith) b (groups_at groups s 0)).0 refl)
  where
    test : (x : Bool) (n : ℕ) (rest : List ℕ) → ltb most n ≡ x → n < 128 ^ groups → s ≡ count_of n ++ rest → Due s (counted s (cond x (Fault 3) (Value n (0 + length (count_of n)))))
    test true n rest e m h = count n rest m h (ltb-true most n e)
    test false n rest e m h = after_count s b n rest h (ltb-false most n e) (0 + length (count_of n)) (zero-add (length (count_of n)))

    go : (g : Groups) → InGroups groups s 0 g → Due s (counted s (limited g))
    go g (inside n rest m h) = test (ltb most n) n rest refl m h
    go g (ends n h l m) = count_fault 1 (ends n h l m)
    go g (unended m) = count_fault 2 (unended m)
    go g (padded n p h l m z) = count_fault 2 (padded n p h l m z)
