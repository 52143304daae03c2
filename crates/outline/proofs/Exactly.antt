-- The verdict given to an outline and a peak is the one that is due: the proof of `RefusesExactly`. Assumes nothing.
use mathlib.Core.Path.{◌≡◌, refl, sym, ap, subst, ◌∙◌}
use mathlib.Core.Bool.{Bool, true, false, not, ◌||◌}
use mathlib.Core.List.{List}
use Prim.Native.Nat.{ℕ, ◌/◌, ◌%◌}
use native.Mathlib.Omega.{arith}
use borrow.Author.Tests.{eqb-true, ltb-false}
use lib.Dec.{eqb, ltb}
use lib.IntN.{ℤ, pos}
use lib.ListN.{length}
use Rattle.line_segment.proofs.Booleans.{no, clash}
use Rattle.charts.specs.Verdict.{Verdict}
use Rattle.charts.specs.Verdict.{Accepted}
use Rattle.charts.proofs.Rows.{Says, is_true, is_false, says_lt, says_eq, says_or, says_and, says_off}
use Rattle.charts.specs.Fault.{same_ends}
use Rattle.outline.specs.Counting.{first}
use Rattle.outline.specs.Outline.{fewest, most, number_at, off_at, same_at, off_peak, no_outline, verdict_of}
use Rattle.outline.specs.Demand.{Corners, OffCorner, SameCorner, NoneBelow, OffPeak, Due, fifteen, off, same, peak, done, RefusesExactly}
use Rattle.outline.proofs.First.{None, Finds, at, nowhere, found, none, finds}
use Rattle.outline.proofs.Peaks.{or_false}
use Rattle.outline.proofs.Verdicts.{an_outline, refused, off_corner, same_corner, off_peak', accepted}

module _ (outline : List ℤ) where
  says_off_corner : (i : ℕ) → Says (off_at outline i) (OffCorner outline i)
  unfolding off_at
  says_off_corner i = says_off (number_at outline i 0) (number_at outline i 1)

  says_same_corner : (n i : ℕ) → Says (same_at outline n i) (SameCorner outline n i)
  unfolding same_at same_ends
  says_same_corner n i = says_and (says_eq _ _) (says_eq _ _)

  says_off_peak : (x y : ℤ) → Says (off_peak x y) (OffPeak outline x y)
  unfolding off_peak
  says_off_peak x y = says_or (says_off x y) (says_lt (pos 32766) x)

  -- none below, as the tests and as the rows say it
  none_off : {n : ℕ} → None (off_at outline) n → NoneBelow outline n (OffCorner outline)
  none_off h i l = (says_off_corner i).no (h i l)

  off_none : {n : ℕ} → NoneBelow outline n (OffCorner outline) → None (off_at outline) n
  off_none h i l = is_false (says_off_corner i) (h i l)

  none_same : (m : ℕ) {n : ℕ} → None (same_at outline m) n → NoneBelow outline n (SameCorner outline m)
  none_same m h i l = (says_same_corner m i).no (h i l)

  same_none : (m : ℕ) {n : ℕ} → NoneBelow outline n (SameCorner outline m) → None (same_at outline m) n
  same_none m h i l = is_false (says_same_corner m i) (h i l)

  halved : {n : ℕ} → Corners outline n → length outline / 2 ≡ n
  halved c = let e = c.numbers in omega arith

  fine : {n : ℕ} → Corners outline n → no_outline outline ≡ false
  fine c = let e = c.numbers in let h = c.enough in let k = c.not_more in an_outline outline (omega arith) (omega arith) (omega arith)

  corners : no_outline outline ≡ false → Corners outline (length outline / 2)
  unfolding no_outline
  corners e =
      let p = or_false (not (eqb (length outline % 2) 0)) (ltb (length outline / 2) fewest || ltb most (length outline / 2)) e in
      let q = or_false (ltb (length outline / 2) fewest) (ltb most (length outline / 2)) p.1 in
      let even : length outline % 2 ≡ 0 = eqb-true _ _ (yes (eqb (length outline % 2) 0) p.0) in
      record { numbers = omega arith; enough = ltb-false _ _ q.0; not_more = ltb-false _ _ q.1 }
    where
      yes : (b : Bool) → not b ≡ false → b ≡ true
      yes true h = refl
      yes false h = no (cc)

  module _ (x y : ℤ) where
    -- ---- due, so given
    bad : (b : Bool) → no_outline outline ≡ b → ((n : ℕ) → ¬ Corners outline n) → no_outline outline ≡ true
    bad true e h = e
    bad false e h = absurd (h (length outline / 2) (corners e))

    module _ {n : ℕ} (c : Corners outline n) where
      off_first : {k : ℕ} → k ≡ first (off_at outline) n → k ≡ first (off_at outline) (length outline / 2)
      off_first {k} e = subst (λ (m : ℕ). k ≡ first (off_at outline) m) (sym (halved c)) e

      same_first : {k : ℕ} → k ≡ first (same_at outline n) n → k ≡ first (same_at outline (length outline / 2)) (length outline / 2)
      same_first {k} e = subst (λ (m : ℕ). k ≡ first (same_at outline m) m) (sym (halved c)) e

    given : (v : Verdict) → Due outline x y v → verdict_of outline x y ≡ v
    given v (fifteen h) = sym (refused outline x y (bad (no_outline outline) refl h))
    given v (off n i c l h o) =
        let q = halved c in
        sym (off_corner outline x y (fine c) (off_first c (sym (found (off_at outline) i n l (off_none h) (is_true (says_off_corner i) o)))) (omega arith))
    given v (same n i c h l k s) =
        let q = halved c in
        sym (same_corner outline x y (fine c) (off_first c (sym (none (off_at outline) n (off_none h)))) (omega arith)
        (same_first c (sym (found (same_at outline n) i n l (same_none n k) (is_true (says_same_corner n i) s)))) (omega arith))
    given v (peak n c h k p) =
        let q = halved c in
        sym (off_peak' outline x y (fine c) (off_first c (sym (none (off_at outline) n (off_none h)))) (omega arith)
        (same_first c (sym (none (same_at outline n) n (same_none n k)))) (omega arith) (is_true (says_off_peak x y) p))
    given v (done n c h k p) =
        let q = halved c in
        sym (accepted outline x y (fine c) (off_first c (sym (none (off_at outline) n (off_none h)))) (omega arith)
        (same_first c (sym (none (same_at outline n) n (same_none n k)))) (omega arith) (is_false (says_off_peak x y) p)) ∙ ap Accepted q

    -- ---- given, so due
    abbrev size : ℕ
    size = length outline / 2

    module _ (e : no_outline outline ≡ false) where
      last : (b : Bool) → off_peak x y ≡ b → None (off_at outline) size → size ≡ first (off_at outline) size
          → None (same_at outline size) size → size ≡ first (same_at outline size) size → Due outline x y (verdict_of outline x y)
      last true p h q k r = subst (Due outline x y) (off_peak' outline x y e q (omega arith) r (omega arith) p) (peak size (corners e) (none_off h) (none_same size k) ((says_off_peak x y).yes p))
      last false p h q k r = subst (Due outline x y) (accepted outline x y e q (omega arith) r (omega arith) p) (done size (corners e) (none_off h) (none_same size k) ((says_off_peak x y).no p))

      second : None (off_at outline) size → size ≡ first (off_at outline) size → (m : ℕ) → m ≡ first (same_at outline size) size → Finds (same_at outline size) size m → Due outline x y (verdict_of outline x y)
      second h q m r (at i l k s) = subst (Due outline x y) (same_corner outline x y e q (omega arith) r l) (same size i (corners e) (none_off h) l (none_same size k) ((says_same_corner size i).yes s))
      second h q m r (nowhere k) = last (off_peak x y) refl h q k r

      begin : (m : ℕ) → m ≡ first (off_at outline) size → Finds (off_at outline) size m → Due outline x y (verdict_of outline x y)
      begin m q (at i l h o) = subst (Due outline x y) (off_corner outline x y e q l) (off size i (corners e) l (none_off h) ((says_off_corner i).yes o))
      begin m q (nowhere h) = second h q (first (same_at outline size) size) refl (finds (same_at outline size) size)

    due : (b : Bool) → no_outline outline ≡ b → Due outline x y (verdict_of outline x y)
    due true e = subst (Due outline x y) (refused outline x y e) (fifteen (λ n c. clash (sym (fine c) ∙ e)))
    due false e = begin e (first (off_at outline) size) refl (finds (off_at outline) size)

pub refuses_exactly : RefusesExactly
refuses_exactly outline x y v = (λ e. subst (Due outline x y) e (due outline x y (no_outline outline) refl), given outline x y v)
