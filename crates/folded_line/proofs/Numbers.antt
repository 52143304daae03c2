-- The numbers of the list that is drawn, and its pieces: each is the one from a joint to the next.
-- Assumes nothing.
use mathlib.Core.Path.{◌≡◌, refl, sym, ap, ◌∙◌}
use mathlib.Core.Bool.{Bool, true, false, cond}
use Prim.Native.Nat.{ℕ, zero, suc, ◌+◌, ◌*◌, ◌/◌, ◌%◌, ◌≤◌, ◌<◌}
use native.Mathlib.Omega.{arith}
use borrow.Author.Tests.{le-ltb, ltb-true, ltb-false, eq-eqb, ne_eqb, eqb-true, eqb-false}
use lib.Dec.{eqb, ltb}
use lib.IntN.{pos, neg_ℤ}
use lib.ListN.{length, get_or, get_or-append}
use lib.Seq.{get_or-append-add}
use Rattle.integers.proofs.Naturals.{pos-<}
use Rattle.fractions.specs.Order.{order}
use Rattle.line_segment.specs.declared.LineSegment.{LineSegment}
use Rattle.line_segment.specs.Piece.{join_by, join_of, piece_of, first_included, second_included}
use Rattle.line_segment.proofs.Ends.{end_order_is, less_first}
use Rattle.charts.specs.Fault.{range, outside}
use Rattle.charts.specs.Chart.{number_at}
use Rattle.charts.specs.Piece.{coordinate_of}
use Rattle.charts.specs.Piece.{kind_of as chart_kind}
use Rattle.charts.proofs.Ranges.{kind_kept, coordinate_kept}
use Rattle.folded_line.specs.Folded.{folded}
use Rattle.folded_line.specs.Line.{kind_of, joint, five, fives}
use Rattle.folded_line.proofs.Stores.{fives_length}

-- ---- ranges
pub in_range : (x : ℕ) → x ≤ 32767 → outside (neg_ℤ range) range (pos x) ≡ false
unfolding outside
in_range x l = rw (le-ltb 32767 x l)

pub kind_in_range : (k : ℕ) → k ≤ 3 → outside (pos 0) (pos 3) (pos k) ≡ false
unfolding outside
kind_in_range k l = rw (le-ltb 3 k l, le-ltb k 0 (omega arith))

-- the kinds
pub kind_last : (n j : ℕ) → suc j ≡ n → kind_of n j ≡ 3
unfolding kind_of
kind_last n j e = rw (eq-eqb (suc j) n e)

pub kind_other : (n j : ℕ) → (suc j ≡ n → ⊥) → kind_of n j ≡ 1
unfolding kind_of
kind_other n j e = rw (ne_eqb (suc j) n e)

module _ (m h s n : ℕ) where
  -- number c of piece i stands where it is due
  pub number_of : (k i c : ℕ) → i < k → c < 5 → number_at (fives m h s n k) i c ≡ get_or (five m h s n i) c (pos 0)
  unfolding number_at fives
  number_of zero i c l u = absurd (omega arith)
  number_of (suc k) i c l u = go (ltb i k) refl (λ (g : i < k). number_of k i c g u)
    where
      go : (t : Bool) → ltb i k ≡ t → (i < k → get_or (fives m h s n k) (5 * i + c) (pos 0) ≡ get_or (five m h s n i) c (pos 0)) → get_or (fives m h s n (suc k)) (5 * i + c) (pos 0) ≡ get_or (five m h s n i) c (pos 0)
      go true e f =
          let g = ltb-true i k e in
          get_or-append (fives m h s n k) (five m h s n k) (pos 0) (5 * i + c) (let z = fives_length m h s n k in omega arith) ∙ f g
      go false e f =
          let g = ltb-false i k e in
          let q : i ≡ k = omega arith in
          ap (λ (z : ℕ). get_or (fives m h s n (suc k)) z (pos 0)) {x = 5 * i + c} {y = length (fives m h s n k) + c} (let z = fives_length m h s n k in omega arith)
          ∙ get_or-append-add (fives m h s n k) (five m h s n k) c (pos 0)
          ∙ ap (λ (z : ℕ). get_or (five m h s n z) c (pos 0)) (sym q)

  pub number_0 : (j : ℕ) → j < n → number_at (fives m h s n n) j 0 ≡ pos (kind_of n j)
  unfolding five
  number_0 j l = number_of n j 0 l (omega arith)

  pub number_1 : (j : ℕ) → j < n → number_at (fives m h s n n) j 1 ≡ pos (joint m h s j)
  unfolding five
  number_1 j l = number_of n j 1 l (omega arith)

  pub number_2 : (j : ℕ) → j < n → number_at (fives m h s n n) j 2 ≡ pos (folded h (m * joint m h s j))
  unfolding five
  number_2 j l = number_of n j 2 l (omega arith)

  pub number_3 : (j : ℕ) → j < n → number_at (fives m h s n n) j 3 ≡ pos (joint m h s (suc j))
  unfolding five
  number_3 j l = number_of n j 3 l (omega arith)

  pub number_4 : (j : ℕ) → j < n → number_at (fives m h s n n) j 4 ≡ pos (folded h (m * joint m h s (suc j)))
  unfolding five
  number_4 j l = number_of n j 4 l (omega arith)

-- ---- a piece of five numbers that runs to the right
module _ (k x1 y1 x2 y2 : ℕ) where
  abbrev pub segment : LineSegment
  segment =
      record {
        min = record { x = pos x1; y = pos y1; included = first_included k };
        max = record { x = pos x2; y = pos y2; included = second_included k };
      }

  pub segment_of : x1 < x2 → piece_of k (pos x1) (pos y1) (pos x2) (pos y2) ≡ segment
  unfolding piece_of join_of join_by
  segment_of l = rw (end_order_is segment.min segment.max ∙ sym (less_first (order (pos y1) (pos y2)) (pos-< l)))

  pub as_given : k ≤ 3 → x1 ≤ 32767 → y1 ≤ 32767 → x2 ≤ 32767 → y2 ≤ 32767 → x1 < x2
      → piece_of (chart_kind (pos k)) (coordinate_of (pos x1)) (coordinate_of (pos y1)) (coordinate_of (pos x2)) (coordinate_of (pos y2)) ≡ segment
  as_given a b c d e l =
      rw (kind_kept (pos k) (kind_in_range k a), coordinate_kept (pos x1) (in_range x1 b), coordinate_kept (pos y1) (in_range y1 c), coordinate_kept (pos x2) (in_range x2 d), coordinate_kept (pos y2) (in_range y2 e))
      (segment_of l)

-- the ends that a kind includes
pub first_in : (n j : ℕ) → first_included (kind_of n j) ≡ true
unfolding first_included kind_of
first_in n j = go (eqb (suc j) n)
  where
    go : (t : Bool) → eqb (cond t 3 1 % 2) 1 ≡ true
    go true = refl
    go false = refl

pub second_in : (n j : ℕ) → suc j ≡ n → second_included (kind_of n j) ≡ true
unfolding second_included
second_in n j e = rw (kind_last n j e) refl

pub second_out : (n j : ℕ) → second_included (kind_of n j) ≡ true → suc j ≡ n
unfolding second_included
second_out n j i = go (eqb (suc j) n) refl
  where
    go : (t : Bool) → eqb (suc j) n ≡ t → suc j ≡ n
    go true e = eqb-true (suc j) n e
    go false e = absurd (let f : false ≡ true = sym (ap (λ (k : ℕ). eqb (k / 2 % 2) 1) (kind_other n j (eqb-false (suc j) n e))) ∙ i in let z : ◌≡◌ {A = ℕ} 0 1 = cc in omega arith)

pub kind_small : (n j : ℕ) → kind_of n j ≤ 3
unfolding kind_of
kind_small n j = go (eqb (suc j) n)
  where
    go : (t : Bool) → cond t 3 1 ≤ 3
    go true = omega arith
    go false = omega arith
