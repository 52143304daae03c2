-- Sequences of changes: what stands at the places, and the list of pairs worked out afresh.
-- Assumes nothing.
use mathlib.Core.Path.{◌≡◌, refl, sym, ap, ap₂, ◌∙◌, subst}
use mathlib.Core.Bool.{Bool, true, false, cond, ◌&&◌}
use mathlib.Core.List.{List, [], ◌∷◌}
use Prim.Native.Nat.{ℕ, ◌+◌, ◌*◌, ◌<◌, ◌≤◌}
use native.Mathlib.Omega.{arith}
use borrow.Author.Tests.{eqb-true, eqb-false, ltb-true, ltb-false}
use lib.Dec.{eqb, ltb}
use lib.IntN.{ℤ, pos, negsuc}
use lib.ListN.{length, get_or, drop, replicate, length-replicate, get_or-replicate, get_or-append}
use lib.Seq.{ext_get_or}
use Rattle.line_segment.specs.declared.LineSegment.{LineSegment}
use Rattle.line_segment.specs.Segment.{intersect_of}
use Rattle.line_segment.specs.Demand.{says_yes}
use Rattle.charts.specs.Chart.{number_at, fault_at}
use Rattle.charts.specs.Piece.{piece_at}
use Rattle.naive.specs.Pairs.{rows}
use Rattle.naive.specs.AllPairs.{meets}
use Rattle.naive.proofs.Rows.{rows_same}
use Rattle.open_chart.specs.Memory.{places, memory, five, vacant, is_used, lowest_free}
use Rattle.open_chart.specs.Changes.{emptied, after_adding, after_dropping}
use Rattle.open_chart.specs.Listing.{meets_on, open_pairs}
use Rattle.open_chart.specs.Model.{Content, free, piece, content_at, contents, Change, Add, Drop, changed_all, after, after_all, asked, afresh}
use Rattle.open_chart.specs.Demand.{KeepsLength, BeginsEmpty, StaysTrue, ListsAfresh}
use Rattle.open_chart.proofs.Lowest.{lowest_most}
use Rattle.open_chart.proofs.Outcomes.{added, adding_small, adding_faulted, adding_full, adding_at, dropped, dropping_small, dropping_unknown, dropping_free, dropping_at, empty_large}
use Rattle.open_chart.proofs.Alters.{same_content, written_length}
use Rattle.open_chart.proofs.Contents.{case, contents_length, contents_at, vacant_free, add_step, drop_step}

-- ---- the memory keeps its length
module _ (chart : List ℤ) where
  add_length : (a b c d e : ℤ) → length (after_adding chart (five a b c d e)) ≡ length chart
  add_length a b c d e =
      case (ltb (length chart) memory)
      (λ s. ap length (sym (added chart (five a b c d e) _ (adding_small chart (five a b c d e) (ltb-true (length chart) memory s))).1))
      (λ s.
      let h = ltb-false (length chart) memory s in
      case (eqb (fault_at (five a b c d e) 0) 0)
      (λ f.
      let g = eqb-true (fault_at (five a b c d e) 0) 0 f in
      case (eqb (lowest_free chart places) places)
      (λ q. ap length (sym (added chart (five a b c d e) _ (adding_full chart (five a b c d e) h g (eqb-true (lowest_free chart places) places q))).1))
      (λ q.
      let n = eqb-false (lowest_free chart places) places q in
      ap length (sym (added chart (five a b c d e) _ (adding_at chart (five a b c d e) h g n)).1)
      ∙ written_length chart (lowest_free chart places) a b c d e (omega (arith, lowest_most chart places))))
      (λ f. ap length (sym (added chart (five a b c d e) _ (adding_faulted chart (five a b c d e) h _ refl (eqb-false (fault_at (five a b c d e) 0) 0 f))).1)))

  drop_length : (i : ℕ) → length (after_dropping chart i) ≡ length chart
  drop_length i =
      case (ltb (length chart) memory)
      (λ s. ap length (sym (dropped chart i _ (dropping_small chart i (ltb-true (length chart) memory s))).1))
      (λ s.
      let h = ltb-false (length chart) memory s in
      case (ltb i places)
      (λ k.
      let l = ltb-true i places k in
      case (is_used chart i)
      (λ u.
      ap length (sym (dropped chart i _ (dropping_at chart i h l u)).1)
      ∙ written_length chart i (negsuc 0) (negsuc 0) (negsuc 0) (negsuc 0) (negsuc 0) (omega arith))
      (λ u. ap length (sym (dropped chart i _ (dropping_free chart i h l u)).1)))
      (λ k. ap length (sym (dropped chart i _ (dropping_unknown chart i h (ltb-false i places k))).1)))

pub keeps_length : KeepsLength
keeps_length chart (Add a b c d e) = add_length chart a b c d e
keeps_length chart (Drop i) = drop_length chart i

-- ---- an empty chart
emptied_at : (chart : List ℤ) (i k : ℕ) → i < places → k < 5 → number_at (emptied chart) i k ≡ number_at vacant 0 k
unfolding number_at emptied
emptied_at chart i k h l =
    get_or-append (replicate memory (negsuc 0)) (drop memory chart) (pos 0) (5 * i + k) (omega (arith, length-replicate memory (negsuc 0)))
    ∙ get_or-replicate memory (5 * i + k) (negsuc 0) (pos 0) (omega arith)
    ∙ sym (get_or-replicate 5 (5 * 0 + k) (negsuc 0) (pos 0) (omega arith))

pub begins_empty : BeginsEmpty
begins_empty chart h =
    ap contents (sym (empty_large chart h).1)
    ∙ ext_get_or free (contents (emptied chart)) (replicate places free) (contents_length (emptied chart) places 0 ∙ sym (length-replicate places free))
    (λ k m.
    let l : k < places = subst (λ (n : ℕ). k < n) (contents_length (emptied chart) places 0) m in
    contents_at (emptied chart) k l ∙ same_content (emptied chart) vacant k 0 (λ t b. emptied_at chart k t l b) ∙ vacant_free
    ∙ sym (get_or-replicate places k free free l))

-- ---- one change after the other
one_step : (chart : List ℤ) (c : Change) → memory ≤ length chart → contents (after chart c) ≡ changed_all (contents chart) (c ∷ [])
one_step chart (Add a b c d e) h = add_step chart h a b c d e
one_step chart (Drop i) h = drop_step chart h i

pub stays_true : StaysTrue
stays_true chart [] h = refl
stays_true chart (c ∷ cs) h =
    stays_true (after chart c) cs (omega (arith, keeps_length chart c)) ∙ ap (λ (l : List Content). changed_all l cs) (one_step chart c h)

-- ---- the list of pairs
asked_so : (s t m : Bool) (p q : LineSegment) → m ≡ says_yes (intersect_of p q) → ((s && t) && m) ≡ asked (cond s (piece p) free) (cond t (piece q) free)
asked_so true true m p q e = e
asked_so true false m p q e = refl
asked_so false t m p q e = refl

meets_so : (chart : List ℤ) (a b : ℕ) → meets_on chart a b ≡ asked (content_at chart a) (content_at chart b)
unfolding meets_on meets
meets_so chart a b = asked_so (is_used chart a) (is_used chart b) _ (piece_at chart a) (piece_at chart b) refl

pub pairs_afresh : (chart : List ℤ) → open_pairs chart ≡ afresh (contents chart)
unfolding open_pairs
pairs_afresh chart =
    rows_same (meets_on chart) (λ a b. asked (get_or (contents chart) a free) (get_or (contents chart) b free)) places
    (λ a b h l. meets_so chart a b ∙ sym (ap₂ asked (contents_at chart a h) (contents_at chart b (omega arith))))
    ∙ ap (rows (λ a b. asked (get_or (contents chart) a free) (get_or (contents chart) b free))) (sym (contents_length chart places 0))

pub lists_afresh : ListsAfresh
lists_afresh chart changes h = pairs_afresh (after_all chart changes) ∙ ap afresh (stays_true chart changes h)
