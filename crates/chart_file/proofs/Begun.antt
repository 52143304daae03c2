-- What a file begins with: how `Begins` grows by a number and shrinks to a front.
use mathlib.Core.Path.{◌≡◌, refl, sym, ap, ◌∙◌, subst}
use mathlib.Core.Logic.{◌⊎◌, ⊎_elim}
use mathlib.Core.List.{List, [], ◌∷◌, ◌++◌, append-nil, append_assoc}
use Prim.Native.Nat.{ℕ, suc, ◌+◌, ◌*◌, ◌%◌, ◌≤◌, ◌<◌}
use native.Mathlib.Nat.{add-zero, zero-add}
use native.Mathlib.Decide.{dec_lt}
use native.Mathlib.Omega.{arith}
use lib.IntN.{ℤ, pos}
use lib.ListN.{length, get_or, drop, length-append, get_or-append}
use lib.Seq.{drop-append_seam, get_or-append_seam}
use Rattle.charts.specs.Chart.{number_at, fault_at}
use Rattle.charts.specs.Demand.{Off, none, four, five, six}
use Rattle.charts.specs.Demand.{Fault as Faulty}
use Rattle.charts.proofs.Rows.{fault_due, fault_given}
use Rattle.chart_file.specs.Format.{bytes_of, bytes_from, count_of}
use Rattle.chart_file.specs.Demand.{InRange, place_of, EndsEqual, Begins}

-- ---- bytes of lists

pub bytes_append : (i : ℕ) (xs ys : List ℤ) → bytes_from i (xs ++ ys) ≡ bytes_from i xs ++ bytes_from (i + length xs) ys
unfolding bytes_from
bytes_append i [] ys = rw add-zero
bytes_append i (x ∷ xs) ys =
    let e : i + suc (length xs) ≡ suc i + length xs = omega arith in
    rw (e, bytes_append (suc i) xs ys) (sym (append_assoc (bytes_of (i % 5) x) (bytes_from (suc i) xs) (bytes_from (suc i + length xs) ys)))

pub bytes_one : (p c : ℕ) (xs : List ℤ) (v : ℤ) → length xs ≡ 5 * p + c → c < 5 → bytes_from 0 (xs ++ (v ∷ [])) ≡ bytes_from 0 xs ++ bytes_of c v
unfolding bytes_from
bytes_one p c xs v l h =
    let e : (0 + length xs) % 5 ≡ c = omega arith in
    bytes_append 0 xs (v ∷ []) ∙ rw (e, append-nil)

pub place_one : (n p c : ℕ) (xs : List ℤ) (v : ℤ) → length xs ≡ 5 * p + c → c < 5 → place_of n (xs ++ (v ∷ [])) ≡ place_of n xs + length (bytes_of c v)
place_one n p c xs v l h = rw (bytes_one p c xs v l h) (omega (arith, length-append (bytes_from 0 xs) (bytes_of c v)))

-- ---- numbers of lists

kept : (xs ys : List ℤ) (i c : ℕ) → 5 * i + c < length xs → number_at (xs ++ ys) i c ≡ number_at xs i c
unfolding number_at
kept xs ys i c h = get_or-append xs ys (pos 0) (5 * i + c) h

added : (xs : List ℤ) (v : ℤ) (i c : ℕ) → 5 * i + c ≡ length xs → number_at (xs ++ (v ∷ [])) i c ≡ v
unfolding number_at
added xs v i c e = ap (λ (j : ℕ). get_or (xs ++ (v ∷ [])) j (pos 0)) e ∙ get_or-append_seam xs v [] (pos 0)

ends_kept : (xs ys : List ℤ) (i : ℕ) → 5 * i + 4 < length xs → EndsEqual (xs ++ ys) i → EndsEqual xs i
ends_kept xs ys i h e = (sym (kept xs ys i 1 (omega arith)) ∙ e.0 ∙ kept xs ys i 3 (omega arith), sym (kept xs ys i 2 (omega arith)) ∙ e.1 ∙ kept xs ys i 4 h)

ends_back : (xs ys : List ℤ) (i : ℕ) → 5 * i + 4 < length xs → EndsEqual xs i → EndsEqual (xs ++ ys) i
ends_back xs ys i h e = (kept xs ys i 1 (omega arith) ∙ e.0 ∙ sym (kept xs ys i 3 (omega arith)), kept xs ys i 2 (omega arith) ∙ e.1 ∙ sym (kept xs ys i 4 h))

-- ---- what a file begins with

module _ (s : List ℕ) (n p : ℕ) where
  pub rest_there : (xs : List ℤ) (rest : List ℕ) → Begins s n p xs rest → drop (place_of n xs) s ≡ rest
  rest_there xs rest b =
      let front : List ℕ = count_of n ++ bytes_from 0 xs in
      let e : place_of n xs ≡ length front = sym (length-append (count_of n) (bytes_from 0 xs)) in
      rw (e, b.file, ← append_assoc) (drop-append_seam front rest)

  pub begins_more : (c : ℕ) (xs : List ℤ) (v : ℤ) (rest : List ℕ) → c < 5 → length xs ≡ 5 * p + c → InRange c v → Begins s n p xs (bytes_of c v ++ rest) → Begins s n p (xs ++ (v ∷ [])) rest
  begins_more c xs v rest h l r b = record {
    file = b.file ∙ ap (λ (t : List ℕ). count_of n ++ t) (sym (append_assoc (bytes_from 0 xs) (bytes_of c v) rest) ∙ ap (λ (t : List ℕ). t ++ rest) (sym (bytes_one p c xs v l h)));
    few = b.few;
    ranges = λ i d q m. elim (dec_lt (5 * i + d) (length xs)) [
      | yes y ↦ subst (InRange d) (sym (kept xs (v ∷ []) i d y)) (b.ranges i d q y)
      | no y ↦
          let m' : 5 * i + d ≡ length xs = omega (arith, length-append xs (v ∷ [])) in
          let e : c ≡ d = omega arith in
          subst (InRange d) (sym (added xs v i d m')) (subst (λ (k : ℕ). InRange k v) e r)
    ];
    lengths = λ i q e. b.lengths i q (ends_kept xs (v ∷ []) i (omega arith) e);
  }

  pub begins_front : (xs ys : List ℤ) (rest : List ℕ) → 5 * p ≤ length xs → Begins s n p (xs ++ ys) rest → Begins s n p xs (bytes_from (length xs) ys ++ rest)
  begins_front xs ys rest h b = record {
    file = b.file ∙ rw (bytes_append 0 xs ys, zero-add (length xs), append_assoc (bytes_from 0 xs) (bytes_from (length xs) ys) rest);
    few = b.few;
    ranges = λ i c q l. subst (InRange c) (kept xs ys i c l) (b.ranges i c q (omega (arith, length-append xs ys)));
    lengths = λ i q e. b.lengths i q (ends_back xs ys i (omega arith) e);
  }

-- ---- the fault of a piece whose numbers are in range

module _ (xs : List ℤ) (p : ℕ) (r : (c : ℕ) → c < 5 → InRange c (number_at xs p c)) where
  pub in_range : (Off (number_at xs p 1) ⊎ Off (number_at xs p 2)) ⊎ (Off (number_at xs p 3) ⊎ Off (number_at xs p 4)) → ⊥
  in_range = ⊎_elim (⊎_elim (r 1 (omega arith)) (r 2 (omega arith))) (⊎_elim (r 3 (omega arith)) (r 4 (omega arith)))

  pub no_fault : (EndsEqual xs p → ⊥) → fault_at xs p ≡ 0
  unfolding fault_at
  no_fault e = fault_given _ _ _ _ _ 0 (none (r 0 (omega arith)) in_range e)

  pub fault_ends : (fault_at xs p ≡ 0 → ⊥) → EndsEqual xs p
  unfolding fault_at
  fault_ends = go (fault_at xs p) (fault_due _ _ _ _ _)
    where
      go : (f : ℕ) → Faulty (number_at xs p 0) (number_at xs p 1) (number_at xs p 2) (number_at xs p 3) (number_at xs p 4) f → (f ≡ 0 → ⊥) → EndsEqual xs p
      go f (none a b d) e = absurd (e refl)
      go f (four a) e = absurd (r 0 (omega arith) a)
      go f (five a b) e = absurd (in_range b)
      go f (six a b d) e = d

  pub ends_fault : EndsEqual xs p → fault_at xs p ≡ 0 → ⊥
  unfolding fault_at
  ends_fault h e = absurd (omega (arith, e, fault_given (number_at xs p 0) (number_at xs p 1) (number_at xs p 2) (number_at xs p 3) (number_at xs p 4) 6 (six (r 0 (omega arith)) in_range h)))
