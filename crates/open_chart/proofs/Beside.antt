-- The used pieces beside each other in an array: each under its name, all of some length, and their pairs.
-- Assumes nothing.
use mathlib.Core.Path.{◌≡◌, refl, sym, ap, ◌∙◌, subst}
use mathlib.Core.Bool.{true}
use mathlib.Core.List.{List, [], ◌∷◌, ◌++◌, map}
use mathlib.Core.List.Memᴰ.{head as here}
use mathlib.Core.List.Memᴰ.{tail as there}
use mathlib.Core.List.{Memᴰ as In}
use Prim.Native.Nat.{ℕ, zero, suc, ◌*◌, ◌<◌, ◌≤◌}
use native.Mathlib.Omega.{arith}
use borrow.Author.Tests.{eqb-true}
use lib.IntN.{ℤ, pos}
use lib.ListN.{length, get_or, drop, length-drop, length-map, length-append, get_or-append}
use lib.Seq.{get_or-take, take-append_seam, drop-append_seam}
use Rattle.line_segment.specs.declared.LineSegment.{LineSegment}
use Rattle.line_segment.specs.Piece.{piece_of, HasLength}
use Rattle.charts.specs.Verdict.{Accepted}
use Rattle.charts.specs.Chart.{number_at, fault_at, pieces, verdict_of}
use Rattle.charts.specs.Piece.{piece_at}
use Rattle.charts.proofs.Accepted.{pieces_as_given, pieces_have_length}
use Rattle.naive.specs.Pairs.{Pair, rows, bytes, over}
use Rattle.naive.specs.AllPairs.{meets}
use Rattle.naive.specs.Decoded.{blank, meets_in}
use Rattle.naive.specs.Sides.{Long}
use Rattle.naive.proofs.Rows.{bytes_length, rows_same}
use Rattle.naive.proofs.Listed.{rows_say}
use Rattle.open_chart.specs.Memory.{places, five, is_used, used_below}
use Rattle.open_chart.specs.Listing.{open_pairs, Gathered, named, renamed}
use Rattle.open_chart.proofs.Counts.{count, count_most, count_less, nth_used, all_used}
use Rattle.open_chart.proofs.Names.{both, bytes_named, beside, rows_named}

-- ---- a used place has a piece of some length: its five numbers are a chart of one piece
alone : (chart : List ℤ) (i : ℕ) → List ℤ
alone chart i = five (number_at chart i 0) (number_at chart i 1) (number_at chart i 2) (number_at chart i 3) (number_at chart i 4)

alone_accepted : (chart : List ℤ) (i : ℕ) → fault_at chart i ≡ 0 → verdict_of (alone chart i) ≡ Accepted 1
unfolding verdict_of pieces fault_at number_at alone
alone_accepted chart i e = rw e

pub used_long : (chart : List ℤ) (i : ℕ) → is_used chart i ≡ true → HasLength (piece_at chart i)
unfolding is_used piece_at number_at alone
used_long chart i e = pieces_have_length (alone chart i) 1 0 (alone_accepted chart i (eqb-true (fault_at chart i) 0 e)) (omega arith)

pub used_as_given : (chart : List ℤ) (i : ℕ) → is_used chart i ≡ true
    → (kind : ℕ) × (number_at chart i 0 ≡ pos kind)
    × (piece_at chart i ≡ piece_of kind (number_at chart i 1) (number_at chart i 2) (number_at chart i 3) (number_at chart i 4))
unfolding is_used piece_at number_at alone
used_as_given chart i e = pieces_as_given (alone chart i) 1 0 (alone_accepted chart i (eqb-true (fault_at chart i) 0 e)) (omega arith)

get_d_mapped : {A B : Type 0} (f : A → B) (l : List A) (k : ℕ) (d : A) (e : B) → k < length l → get_or (map f l) k e ≡ f (get_or l k d)
get_d_mapped f [] k d e h = absurd (omega arith)
get_d_mapped f (x ∷ l) zero d e h = refl
get_d_mapped f (x ∷ l) (suc k) d e h = get_d_mapped f l k d e (omega arith)

module _ (chart : List ℤ) (all : List LineSegment) (names : List ℕ) (n : ℕ) (g : Gathered chart places all names n) where
  pub few : n ≤ places
  few = omega (arith, g.counted, count_most chart places)

  name_at : (k : ℕ) → k < n → named names k ≡ get_or (used_below chart places) k 0
  name_at k h = sym (get_or-take n names k 0 h) ∙ ap (λ (l : List ℕ). get_or l k 0) g.numbers

  piece_at' : (k : ℕ) → k < n → get_or all k blank ≡ piece_at chart (named names k)
  piece_at' k h =
      sym (get_or-take n all k blank h) ∙ ap (λ (l : List LineSegment). get_or l k blank) g.pieces
      ∙ get_d_mapped (piece_at chart) (used_below chart places) k 0 blank (omega (arith, g.counted)) ∙ ap (piece_at chart) (sym (name_at k h))

  pub gathered_long : Long all n
  gathered_long = record {
    long = λ k h.
        subst HasLength (sym (piece_at' k h ∙ ap (piece_at chart) (name_at k h)))
        (used_long chart _ (all_used chart places k (omega (arith, g.counted))));
  }

  -- ---- their pairs, renamed
  same_test : (a b : ℕ) → a < n → b < n → meets_in all a b ≡ beside chart names a b
  unfolding meets_in meets
  same_test a b h l = rw (piece_at' a h, piece_at' b l)

  pub gathered_pairs : map (both names) (rows (meets_in all) n) ≡ open_pairs chart
  unfolding open_pairs
  gathered_pairs =
      ap (map (both names)) (rows_same (meets_in all) (beside chart names) n (λ a b h l. same_test a b h (omega arith)) ∙ ap (rows (beside chart names)) g.counted)
      ∙ sym (rows_named chart names places (λ i h u. let l = count_less chart places i h u in name_at (count chart i) (omega (arith, g.counted)) ∙ nth_used chart places i h u))

-- ---- bytes of pairs below n are below n
bytes_below : (n : ℕ) (ps : List Pair) → ((p : Pair) → In p ps → (p.0 < n) × (p.1 < n)) → (i : ℕ) → i < length (bytes ps) → get_or (bytes ps) i 0 < n
unfolding bytes
bytes_below n [] f i h = absurd (omega arith)
bytes_below n (p ∷ ps) f zero h = (f p (here refl)).0
bytes_below n (p ∷ ps) f (suc zero) h = (f p (here refl)).1
bytes_below n (p ∷ ps) f (suc (suc i)) h = bytes_below n ps (λ q m. f q (there m)) i (omega arith)

module _ (all : List LineSegment) (n : ℕ) where
  -- the bytes of the pairs of an array of n pieces
  abbrev pub made : List ℕ
  made = bytes (rows (meets_in all) n)

  made_below : (i : ℕ) → i < length made → get_or made i 0 < n
  made_below = bytes_below n (rows (meets_in all) n) (λ p m. let r = rows_say (meets_in all) n p m in (r.below, omega (arith, r.below, r.greater)))

  -- ---- written over lent bytes, k pairs
  module _ (lent pairs : List ℕ) (k : ℕ) (fits : length made ≤ length lent) (counted : k ≡ length (rows (meets_in all) n)) (stands : pairs ≡ over made lent) where
    pub twice : 2 * k ≡ length made
    twice = omega (arith, bytes_length (rows (meets_in all) n))

    over_length : length (over made lent) ≡ length lent
    unfolding over
    over_length = length-append made (drop (length made) lent) ∙ omega (arith, length-drop (length made) lent)

    pub written_in : 2 * k ≤ length pairs
    written_in = rw stands (omega (arith, over_length, twice))

    front : (i : ℕ) → i < length made → get_or (over made lent) i 0 ≡ get_or made i 0
    unfolding over
    front i h = get_or-append made (drop (length made) lent) 0 i h

    pub written_below : (i : ℕ) → i < 2 * k → get_or pairs i 0 < n
    written_below i h = let l : i < length made = omega (arith, twice) in subst (λ (b : ℕ). b < n) (sym (ap (λ (ps : List ℕ). get_or ps i 0) stands ∙ front i l)) (made_below i l)

    -- and then renamed
    pub written_renamed : (names : List ℕ) → renamed names (2 * k) pairs ≡ over (bytes (map (both names) (rows (meets_in all) n))) lent
    unfolding renamed over
    written_renamed names =
        rw (twice, stands, take-append_seam made (drop (length made) lent), drop-append_seam made (drop (length made) lent), bytes_named names (rows (meets_in all) n))
        (ap (λ (m : ℕ). map (named names) made ++ drop m lent) (sym (length-map made (named names))))
