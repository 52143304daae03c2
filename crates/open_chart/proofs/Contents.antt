-- Changes in memory are changes of the places in mind.
-- Assumes nothing.
use mathlib.Core.Path.{◌≡◌, refl, sym, ap, ◌∙◌, subst}
use mathlib.Core.Bool.{Bool, true, false}
use mathlib.Core.List.{List, [], ◌∷◌}
use mathlib.Core.Logic.{◌≢◌}
use Prim.Native.Nat.{ℕ, zero, suc, ◌+◌, ◌<◌, ◌≤◌}
use native.Mathlib.Nat.{add-zero}
use native.Mathlib.Omega.{arith}
use borrow.Author.Tests.{eqb-true, eqb-false, ltb-true, ltb-false, ne_eqb}
use lib.Dec.{T, eqb, ltb}
use lib.IntN.{ℤ, negsuc}
use lib.ListN.{length, get_or, set, length-set}
use lib.Seq.{get_or-set_same, get_or-set_other, set_out, set-get_or, ext_get_or}
use Rattle.line_segment.specs.declared.LineSegment.{LineSegment}
use Rattle.charts.specs.Fault.{outside, off_range, same_ends, eq_z, fault_of}
use Rattle.charts.specs.Chart.{number_at, fault_at}
use Rattle.charts.specs.Piece.{piece_at}
use Rattle.open_chart.specs.Memory.{places, memory, five, vacant, is_used, lowest_free, written}
use Rattle.open_chart.specs.Changes.{after_adding, after_dropping}
use Rattle.open_chart.specs.Model.{Content, free, piece, content_at, contents_from, contents, Add, Drop, lowest, changed}
use Rattle.open_chart.proofs.Lowest.{lowest_most, lowest_below, lowest_here}
use Rattle.open_chart.proofs.Outcomes.{added, adding_faulted, adding_full, adding_at, dropped, dropping_unknown, dropping_free, dropping_at}
use Rattle.open_chart.proofs.Alters.{content_here, content_other}

pub case : {P : Type 0} (t : Bool) → (t ≡ true → P) → (t ≡ false → P) → P
case true f g = f refl
case false f g = g refl

-- a piece is not nothing
abbrev held : Content → Bool
held free = false
held (piece s) = true

clash : (s : LineSegment) → piece s ≡ free → ⊥
clash s e = subst T (ap (λ (c : Content). held c) e) tt

-- ---- the list of places
pub contents_length : (chart : List ℤ) (n i : ℕ) → length (contents_from chart n i) ≡ n
unfolding contents_from
contents_length chart zero i = refl
contents_length chart (suc n) i = ap suc (contents_length chart n (suc i))

contents_from_lem : (chart : List ℤ) (n i k : ℕ) → k < n → get_or (contents_from chart n i) k free ≡ content_at chart (i + k)
unfolding contents_from
contents_from_lem chart zero i k h = absurd (omega arith)
contents_from_lem chart (suc n) i zero h = ap (λ (m : ℕ). content_at chart m) (sym (add-zero i))
contents_from_lem chart (suc n) i (suc k) h = contents_from_lem chart n (suc i) k (omega arith) ∙ ap (λ (m : ℕ). content_at chart m) (omega arith)

pub contents_at : (chart : List ℤ) (k : ℕ) → k < places → get_or (contents chart) k free ≡ content_at chart k
contents_at chart k h = contents_from_lem chart places 0 k h ∙ ap (λ (m : ℕ). content_at chart m) (omega arith)

module _ (chart : List ℤ) (i : ℕ) where
  pub used_content : is_used chart i ≡ true → content_at chart i ≡ free → ⊥
  used_content u e = clash (piece_at chart i) (rw u at e)

  pub free_content : is_used chart i ≡ false → content_at chart i ≡ free
  free_content u = rw u

-- ---- five numbers written at a place
module _ (chart : List ℤ) (h : memory ≤ length chart) (i : ℕ) (l : i < places) (a b c d e : ℤ) where
  pub contents_written : contents (written chart i (five a b c d e)) ≡ set (contents chart) i (content_at (five a b c d e) 0)
  contents_written =
      ext_get_or free (contents (written chart i (five a b c d e))) (set (contents chart) i (content_at (five a b c d e) 0))
      (contents_length (written chart i (five a b c d e)) places 0 ∙ sym (length-set (contents chart) i (content_at (five a b c d e) 0) ∙ contents_length chart places 0))
      (λ k m. at k (subst (λ (n : ℕ). k < n) (contents_length (written chart i (five a b c d e)) places 0) m))
    where
      at : (k : ℕ) → k < places → get_or (contents (written chart i (five a b c d e))) k free ≡ get_or (set (contents chart) i (content_at (five a b c d e) 0)) k free
      at k m =
          case (eqb k i)
          (λ q.
          let p = eqb-true k i q in
          contents_at (written chart i (five a b c d e)) k m ∙ ap (λ (n : ℕ). content_at (written chart i (five a b c d e)) n) p
          ∙ content_here chart i a b c d e (omega arith)
          ∙ sym (ap (λ (n : ℕ). get_or (set (contents chart) i (content_at (five a b c d e) 0)) n free) p
          ∙ get_or-set_same (contents chart) i (content_at (five a b c d e) 0) free (subst (λ (n : ℕ). i < n) (sym (contents_length chart places 0)) l)))
          (λ q.
          let p : k ≢ i = eqb-false k i q in
          contents_at (written chart i (five a b c d e)) k m ∙ content_other chart i a b c d e (omega arith) k p
          ∙ sym (get_or-set_other (contents chart) i k (content_at (five a b c d e) 0) free p ∙ contents_at chart k m))

-- ---- the lowest free place
lowest_is : (l : List Content) (i : ℕ) → i ≤ length l → ((j : ℕ) → j < i → get_or l j free ≡ free → ⊥) → (i < length l → get_or l i free ≡ free) → lowest l ≡ i
unfolding lowest
lowest_is [] i h f g = omega arith
lowest_is (free ∷ l) zero h f g = refl
lowest_is (free ∷ l) (suc i) h f g = absurd (f 0 (omega arith) refl)
lowest_is (piece s ∷ l) zero h f g = absurd (clash s (g (omega arith)))
lowest_is (piece s ∷ l) (suc i) h f g = ap suc (lowest_is l i (omega arith) (λ j k. f (suc j) (omega arith)) (λ k. g (omega arith)))

pub lowest_agrees : (chart : List ℤ) → lowest (contents chart) ≡ lowest_free chart places
lowest_agrees chart =
    let n = contents_length chart places 0 in
    let m = lowest_most chart places in
    lowest_is (contents chart) (lowest_free chart places) (omega arith)
    (λ j h e. used_content chart j (lowest_below chart places j h) (sym (contents_at chart j (omega arith)) ∙ e))
    (λ h. contents_at chart (lowest_free chart places) (omega arith) ∙ free_content chart (lowest_free chart places) (lowest_here chart places (omega arith)))

-- leaving the lowest free place free changes nothing
lowest_left : (l : List Content) → set l (lowest l) free ≡ l
unfolding lowest
lowest_left [] = refl
lowest_left (free ∷ l) = refl
lowest_left (piece s ∷ l) = ap (λ (r : List Content). piece s ∷ r) (lowest_left l)

-- ---- a place that a call leaves free
pub vacant_unused : is_used vacant 0 ≡ false
unfolding is_used fault_at number_at fault_of outside off_range same_ends eq_z
vacant_unused = refl

pub vacant_free : content_at vacant 0 ≡ free
vacant_free = free_content vacant 0 vacant_unused

-- ---- one change
module _ (chart : List ℤ) (h : memory ≤ length chart) where
  module _ (a b c d e : ℤ) where
    -- no piece
    no_use : ¬ (fault_at (five a b c d e) 0 ≡ 0) → is_used (five a b c d e) 0 ≡ false
    unfolding is_used
    no_use n = ne_eqb (fault_at (five a b c d e) 0) 0 n

    unadded : ¬ (fault_at (five a b c d e) 0 ≡ 0) → contents (after_adding chart (five a b c d e)) ≡ changed (contents chart) (Add a b c d e)
    unadded n =
        ap contents (sym (added chart (five a b c d e) _ (adding_faulted chart (five a b c d e) h _ refl n)).1)
        ∙ sym (ap (set (contents chart) (lowest (contents chart))) (free_content (five a b c d e) 0 (no_use n)) ∙ lowest_left (contents chart))

    -- no place
    unplaced : fault_at (five a b c d e) 0 ≡ 0 → lowest_free chart places ≡ places → contents (after_adding chart (five a b c d e)) ≡ changed (contents chart) (Add a b c d e)
    unplaced f q =
        ap contents (sym (added chart (five a b c d e) _ (adding_full chart (five a b c d e) h f q)).1)
        ∙ sym (set_out (contents chart) (lowest (contents chart)) (content_at (five a b c d e) 0) (omega (arith, contents_length chart places 0, lowest_agrees chart)))

    placed : fault_at (five a b c d e) 0 ≡ 0 → ¬ (lowest_free chart places ≡ places) → contents (after_adding chart (five a b c d e)) ≡ changed (contents chart) (Add a b c d e)
    placed f q =
        ap contents (sym (added chart (five a b c d e) _ (adding_at chart (five a b c d e) h f q)).1)
        ∙ contents_written chart h (lowest_free chart places) (omega (arith, lowest_most chart places)) a b c d e
        ∙ ap (λ (i : ℕ). set (contents chart) i (content_at (five a b c d e) 0)) (sym (lowest_agrees chart))

    pub add_step : contents (after_adding chart (five a b c d e)) ≡ changed (contents chart) (Add a b c d e)
    add_step =
        case (eqb (fault_at (five a b c d e) 0) 0)
        (λ f.
        case (eqb (lowest_free chart places) places) (λ q. unplaced (eqb-true (fault_at (five a b c d e) 0) 0 f) (eqb-true (lowest_free chart places) places q))
        (λ q. placed (eqb-true (fault_at (five a b c d e) 0) 0 f) (eqb-false (lowest_free chart places) places q)))
        (λ f. unadded (eqb-false (fault_at (five a b c d e) 0) 0 f))

  module _ (i : ℕ) where
    unknown : places ≤ i → contents (after_dropping chart i) ≡ changed (contents chart) (Drop i)
    unknown k =
        ap contents (sym (dropped chart i _ (dropping_unknown chart i h k)).1)
        ∙ sym (set_out (contents chart) i free (omega (arith, contents_length chart places 0)))

    undropped : i < places → is_used chart i ≡ false → contents (after_dropping chart i) ≡ changed (contents chart) (Drop i)
    undropped k u =
        ap contents (sym (dropped chart i _ (dropping_free chart i h k u)).1)
        ∙ sym (ap (set (contents chart) i) (sym (contents_at chart i k ∙ free_content chart i u)) ∙ set-get_or (contents chart) i free)

    freed : i < places → is_used chart i ≡ true → contents (after_dropping chart i) ≡ changed (contents chart) (Drop i)
    freed k u =
        ap contents (sym (dropped chart i _ (dropping_at chart i h k u)).1)
        ∙ contents_written chart h i k (negsuc 0) (negsuc 0) (negsuc 0) (negsuc 0) (negsuc 0) ∙ ap (set (contents chart) i) vacant_free

    pub drop_step : contents (after_dropping chart i) ≡ changed (contents chart) (Drop i)
    drop_step =
        case (ltb i places)
        (λ k. case (is_used chart i) (freed (ltb-true i places k)) (undropped (ltb-true i places k)))
        (λ k. unknown (ltb-false i places k))
