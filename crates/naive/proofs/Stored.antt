-- The pieces of a list in an array: one more stored, and the array's test is the list's.
-- Assumes nothing.
use mathlib.Core.Path.{◌≡◌, refl, sym, ap, ◌∙◌, subst}
use mathlib.Core.List.{List, [], ◌∷◌}
use mathlib.Core.Logic.{⊎_elim}
use Prim.Native.Nat.{ℕ, zero, suc, ◌+◌, ◌<◌}
use native.Mathlib.Nat.{eq-or-lt_of_le}
use native.Mathlib.Numerals.{add-one}
use native.Mathlib.Omega.{arith}
use lib.IntN.{ℤ}
use lib.ListN.{length, get_or, take, set, length-append, get_or-append}
use lib.Seq.{take-suc-set, get_or-take, get_or_at}
use Rattle.line_segment.specs.declared.LineSegment.{LineSegment}
use Rattle.line_segment.specs.Piece.{HasLength}
use Rattle.charts.specs.Verdict.{Accepted}
use Rattle.charts.specs.Chart.{verdict_of}
use Rattle.charts.specs.Piece.{piece_at}
use Rattle.charts.proofs.Accepted.{pieces_have_length}
use Rattle.naive.specs.AllPairs.{meets, pairs_of}
use Rattle.naive.specs.Decoded.{pieces_of, blank, meets_in}
use Rattle.naive.specs.Sides.{Long}
use Rattle.naive.specs.Pairs.{rows}
use Rattle.naive.proofs.Rows.{rows_same}

module _ (list : List ℤ) where
  pub pieces_none : pieces_of list 0 ≡ []
  unfolding pieces_of
  pieces_none = refl

  pub piece_stored : (all : List LineSegment) (i : ℕ) (s : LineSegment) → i < length all → take i all ≡ pieces_of list i → s ≡ piece_at list i
      → take (i + 1) (set all i s) ≡ pieces_of list (i + 1)
  unfolding pieces_of
  piece_stored all i s h e f = rw (add-one, take-suc-set, e, f)

  pieces_length : (n : ℕ) → length (pieces_of list n) ≡ n
  unfolding pieces_of
  pieces_length zero = refl
  pieces_length (suc n) = length-append (pieces_of list n) (piece_at list n ∷ []) ∙ omega (arith, pieces_length n)

  pub piece_of : (n i : ℕ) → i < n → get_or (pieces_of list n) i blank ≡ piece_at list i
  unfolding pieces_of
  piece_of zero i h = absurd (omega arith)
  piece_of (suc n) i h =
      ⊎_elim
      (λ (e : i ≡ n). get_or_at (pieces_of list n) (piece_at list n) [] blank i (pieces_length n ∙ sym e) ∙ ap (piece_at list) (sym e))
      (λ (l : i < n). get_or-append (pieces_of list n) (piece_at list n ∷ []) blank i (omega (arith, pieces_length n)) ∙ piece_of n i l)
      (eq-or-lt_of_le {n = i} {m = n} (omega arith))

  -- the array holds the first n pieces, so it lists the same pairs
  module _ (all : List LineSegment) (n : ℕ) (stored : take n all ≡ pieces_of list n) where
    at : (i : ℕ) → i < n → get_or all i blank ≡ piece_at list i
    at i h = sym (get_or-take n all i blank h) ∙ ap (λ (l : List LineSegment). get_or l i blank) stored ∙ piece_of n i h

    pub same_test : (a b : ℕ) → a < n → b < n → meets_in all a b ≡ meets list a b
    unfolding meets meets_in
    same_test a b h l = rw (at a h, at b l)

    pub same_pairs : rows (meets_in all) n ≡ pairs_of list n
    unfolding pairs_of
    same_pairs = rows_same (meets_in all) (meets list) n (λ a b h l. same_test a b h (omega arith))

    -- an accepted chart's pieces have some length
    pub stored_long : verdict_of list ≡ Accepted n → Long all n
    stored_long e = record { long = λ i h. subst HasLength (sym (at i h)) (pieces_have_length list n i e h) }
