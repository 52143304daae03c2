-- The promises of specs/Demand.
-- Assumes nothing.
use mathlib.Core.Path.{◌≡◌, refl, sym, ap, ◌∙◌, subst}
use mathlib.Core.Bool.{Bool, true, false, cond, not, ◌&&◌}
use mathlib.Core.List.{List, [], ◌∷◌, ◌++◌}
use mathlib.Core.List.Memᴰ.{cases_cons}
use mathlib.Core.List.Memᴰ.{head as here}
use mathlib.Core.List.Memᴰ.{not-nil}
use mathlib.Core.List.{Memᴰ as In}
use mathlib.Core.Logic.{◌⊎◌, inl, inr, ⊎_elim, ◌↔◌, ◌≢◌}
use Prim.Native.Nat.{ℕ, zero, suc, ◌/◌, ◌≤◌, ◌<◌}
use native.Mathlib.Nat.{eq-or-lt_of_le}
use native.Mathlib.Omega.{arith}
use borrow.Author.Tests.{leb-true, leb-false, eqb-true, eqb-false}
use lib.Dec.{eqb, leb}
use lib.IntN.{ℤ}
use lib.ListN.{length}
use Rattle.line_segment.proofs.Promises.{says_yes_exactly}
use Rattle.charts.specs.Chart.{verdict_of}
use Rattle.charts.specs.Piece.{piece_at}
use Rattle.charts.specs.Verdict.{Accepted as Going}
use Rattle.charts.proofs.Accepted.{pieces_have_length}
use Rattle.naive.specs.AllPairs.{meets}
use Rattle.naive.specs.Pairs.{Pair, rows}
use Rattle.naive.specs.Demand.{Pairwise, Before}
use Rattle.naive.proofs.Listed.{rows_say, rows_have, rows_ascend}
use Rattle.std.specs.Prelude.{Option, None, Some}
use Rattle.supplied.specs.declared.EntryFault.{EntryFault}
use Rattle.supplied.specs.declared.EntryFault.TheVariants.{NoPiece, Itself, Apart, Repeated}
use Rattle.supplied.specs.Entries.{one, other, top, low, first_of, told_at, Faulty, number_of, named, fault_of, fault_at, faults, missing}
use Rattle.supplied.specs.Checking.{told, held_to}
use Rattle.supplied.specs.Demand.{Meets, AtFault, no_piece, itself, apart, repeated, Good, Lacks, Due, fault, lacks, accepted, RefusesInOrder, SaysWhatIsDue}
use Rattle.supplied.proofs.Entries.{in_order}
use Rattle.supplied.proofs.Outcomes.{checked_refused, checked_held}
use Rattle.supplied.proofs.Refusals.{supplied_accepted, supplied_refused, supplied_odd}
use Rattle.supplied.proofs.Sides.{sides, meet_given, meet_ordered, named_given, named_ordered, named_yes, named_has}

clash : {A : Type 0} → ◌≡◌ {A = ℕ} 0 1 → A
clash z = absurd (omega arith)

-- ---- the first of the faults
module _ (bytes : List ℕ) (test : ℕ → ℕ → Bool) (n : ℕ) where
  -- up to entry m: the first fault
  record Fails (m i : ℕ) (k : EntryFault) : Type 0 where
    below : i < m
    earlier : (j : ℕ) → j < i → fault_at bytes test n j ≡ None
    here_fails : fault_at bytes test n i ≡ Some k

  abbrev Clean : ℕ → Type 0
  Clean m = (j : ℕ) → j < m → fault_at bytes test n j ≡ None

  one_more : (m : ℕ) → Clean m → fault_at bytes test n m ≡ None → Clean (suc m)
  one_more m h e j l = ⊎_elim (λ (q : j ≡ m). ap (fault_at bytes test n) q ∙ e) (λ (k : j < m). h j k) (eq-or-lt_of_le {n = j} {m = m} (omega arith))

  abbrev Found : ℕ → Option Faulty → Type 0
  Found m None = Clean m
  Found m (Some (i, k)) = Fails m i k

  found : (m : ℕ) → Found m (first_of (faults bytes test n m))
  unfolding faults
  found zero = λ j l. absurd (omega arith)
  found (suc m) = go (faults bytes test n m) (found m) (fault_at bytes test n m) refl
    where
      go : (l : List Faulty) → Found m (first_of l) → (o : Option EntryFault) → fault_at bytes test n m ≡ o → Found (suc m) (first_of (l ++ told_at m o))
      go (p ∷ l) f o e = record { below = (let h = f.below in omega arith); earlier = f.earlier; here_fails = f.here_fails }
      go [] f None e = one_more m f e
      go [] f (Some k) e = record { below = omega arith; earlier = f; here_fails = e }

-- ---- the first of the rows
module _ (test : ℕ → ℕ → Bool) (n : ℕ) where
  abbrev Leads : Option Pair → Type 0
  Leads None = (p : Pair) → ¬ In p (rows test n)
  Leads (Some q) = In q (rows test n) × ((p : Pair) → In p (rows test n) → (p ≡ q) ⊎ Before q p)

  leads : Leads (first_of (rows test n))
  leads = go (rows test n) (rows_ascend test n) refl
    where
      go : (l : List Pair) → Pairwise Before l → rows test n ≡ l → Leads (first_of l)
      go [] h e = λ p m. not-nil (subst (λ (l : List Pair). In p l) e m)
      go (q ∷ l) h e = (subst (λ (l : List Pair). In q l) (sym e) (here refl), λ p m. ⊎_elim (λ w. inl w) (λ w. inr (h.0 p w)) (cases_cons (subst (λ (l : List Pair). In p l) e m)))

-- ---- an entry
module _ (list : List ℤ) (n : ℕ) (bytes : List ℕ) (sound : verdict_of list ≡ Going n) where
  meets_says : (a b : ℕ) → a < n → b < n → (meets list a b ≡ true) ↔ Meets list n bytes a b
  unfolding meets
  meets_says a b h l = says_yes_exactly (piece_at list a) (piece_at list b) (pieces_have_length list n a sound h) (pieces_have_length list n b sound l)

  module _ (i : ℕ) where
    abbrev x : ℕ
    x = one bytes i

    abbrev y : ℕ
    y = other bytes i

    abbrev a : ℕ
    a = top bytes i

    abbrev b : ℕ
    b = low bytes i

    both_pieces : a < n → (x < n) × (y < n)
    both_pieces h = let o = in_order x y in ⊎_elim (λ w. let p = w.0 in let q = w.1 in (omega arith, omega arith)) (λ w. let p = w.0 in let q = w.1 in (omega arith, omega arith)) (sides x y)

    differ : ¬ (a ≡ b) → x ≢ y
    differ d e = ⊎_elim (λ w. d (w.0 ∙ e ∙ sym w.1)) (λ w. d (w.0 ∙ sym e ∙ sym w.1)) (sides x y)

    same : a ≡ b → x ≡ y
    same e = ⊎_elim (λ w. sym w.0 ∙ e ∙ w.1) (λ w. sym w.1 ∙ sym e ∙ w.0) (sides x y)

    outside : n ≤ a → (n ≤ x) ⊎ (n ≤ y)
    outside h = ⊎_elim (λ w. let p = w.0 in inl (omega arith)) (λ w. let p = w.0 in inr (omega arith)) (sides x y)

    ordered : ¬ (a ≡ b) → b < a
    ordered d = let o = in_order x y in omega arith

    -- what a fault, or none, says of the entry
    abbrev Judged : Option EntryFault → Type 0
    Judged None = Good list n bytes i
    Judged (Some k) = AtFault list n bytes i (number_of k)

    -- the fault that the definition gives is the one that the entry has
    judge : Judged (fault_at bytes (meets list) n i)
    unfolding fault_at fault_of
    judge = go (leb n a) refl (eqb a b) refl (meets list a b) refl (named bytes i a b) refl
      where
        go : (t : Bool) → leb n a ≡ t → (u : Bool) → eqb a b ≡ u → (v : Bool) → meets list a b ≡ v → (w : Bool) → named bytes i a b ≡ w
            → Judged (cond t (Some NoPiece) (cond u (Some Itself) (cond v (cond w (Some Repeated) None) (Some Apart))))
        go true p u q v r w s = no_piece (outside (leb-true _ _ p))
        go false p true q v r w s = itself (both_pieces (leb-false _ _ p)).0 (same (eqb-true _ _ q))
        go false p false q false r w s =
            let k = both_pieces (leb-false _ _ p) in
            let o = in_order x y in
            let h : a < n = leb-false _ _ p in
            apart k.0 k.1 (differ (eqb-false _ _ q)) (λ m. clash (ap (λ (t : Bool). cond t 1 0) (sym r ∙ (meets_says a b h (omega arith)).1 (meet_ordered list n bytes i m))))
        go false p false q true r true s =
            let k = both_pieces (leb-false _ _ p) in
            let o = in_order x y in
            let h : a < n = leb-false _ _ p in
            repeated k.0 k.1 (differ (eqb-false _ _ q)) (meet_given list n bytes i ((meets_says a b h (omega arith)).0 r)) (named_given list n bytes i i (named_yes list n bytes i a b s))
        go false p false q true r false s =
            let k = both_pieces (leb-false _ _ p) in
            let o = in_order x y in
            let h : a < n = leb-false _ _ p in
            record {
              first_piece = k.0;
              second_piece = k.1;
              two = differ (eqb-false _ _ q);
              meeting = meet_given list n bytes i ((meets_says a b h (omega arith)).0 r);
              new = λ m. clash (ap (λ (t : Bool). cond t 1 0) (sym s ∙ named_has list n bytes i a b (ordered (eqb-false _ _ q)) (named_ordered list n bytes i i m)));
            }

    entry_good : fault_at bytes (meets list) n i ≡ None → Good list n bytes i
    entry_good e = subst Judged e judge

    entry_fault : (k : EntryFault) → fault_at bytes (meets list) n i ≡ Some k → AtFault list n bytes i (number_of k)
    entry_fault k e = subst Judged e judge

  -- ---- the missing pairs
  abbrev test : ℕ → ℕ → Bool
  test a b = not (named bytes (length bytes / 2) a b) && meets list a b

  lacks_in : (a b : ℕ) → Lacks list n bytes a b → In (a, b) (rows test n)
  lacks_in a b l =
      let g = l.greater in
      let p = l.piece in
      rows_have test n a b p g (go (named bytes (length bytes / 2) a b) refl ((meets_says a b p (omega arith)).1 l.meeting))
    where
      go : (t : Bool) → named bytes (length bytes / 2) a b ≡ t → meets list a b ≡ true → (not t && meets list a b) ≡ true
      go true e m = absurd (l.unnamed (named_yes list n bytes _ a b e))
      go false e m = m

  in_lacks : (a b : ℕ) → In (a, b) (rows test n) → Lacks list n bytes a b
  in_lacks a b m = go (named bytes (length bytes / 2) a b) refl (rows_say test n (a, b) m).met
    where
      g : b < a
      g = (rows_say test n (a, b) m).greater

      p : a < n
      p = (rows_say test n (a, b) m).below

      go : (t : Bool) → named bytes (length bytes / 2) a b ≡ t → (not t && meets list a b) ≡ true → Lacks list n bytes a b
      go true e h = clash (ap (λ (t : Bool). cond t 1 0) h)
      go false e h = record {
        greater = g;
        piece = p;
        meeting = (meets_says a b p (let k = g in let l = p in omega arith)).0 h;
        unnamed = λ d. clash (ap (λ (t : Bool). cond t 1 0) (sym e ∙ named_has list n bytes _ a b g d));
      }

  not_before : (a b c d : ℕ) → Before (c, d) (a, b) → (◌≡◌ {A = Pair} (c, d) (a, b)) ⊎ Before (a, b) (c, d) → ⊥
  not_before a b c d (inl h) (inl e) = let q : c ≡ a = ap (λ (r : Pair). r.0) e in absurd (omega arith)
  not_before a b c d (inr h) (inl e) = let q : d ≡ b = ap (λ (r : Pair). r.1) e in let k = h.1 in absurd (omega arith)
  not_before a b c d (inl h) (inr (inl k)) = absurd (omega arith)
  not_before a b c d (inl h) (inr (inr k)) = let q = k.0 in absurd (omega arith)
  not_before a b c d (inr h) (inr (inl k)) = let q = h.0 in absurd (omega arith)
  not_before a b c d (inr h) (inr (inr k)) = let q = h.1 in let r = k.1 in absurd (omega arith)

  -- ---- what is said is due
  due : Due list n bytes (held_to (meets list) n bytes)
  unfolding held_to missing
  due = go (first_of (faults bytes (meets list) n (length bytes / 2))) (found bytes (meets list) n (length bytes / 2)) (first_of (rows test n)) (leads test n)
    where
      go : (f : Option Faulty) → Found bytes (meets list) n (length bytes / 2) f → (m : Option Pair) → Leads test n m → Due list n bytes (told f m)
      go (Some (i, k)) F m L = fault i (number_of k) F.below (λ j h. entry_good j (F.earlier j h)) (entry_fault i k F.here_fails)
      go None F None L = accepted (λ j h. entry_good j (F j h)) (λ a b l. L (a, b) (lacks_in a b l))
      go None F (Some (a, b)) L = lacks a b (λ j h. entry_good j (F j h)) (in_lacks a b L.0) (λ c d h l. not_before a b c d h (L.1 (c, d) (lacks_in c d l)))

pub says_what_is_due : SaysWhatIsDue
says_what_is_due list n bytes e h = subst (Due list n bytes) (checked_held list bytes n (supplied_accepted list (length bytes) n e h)) (due list n bytes e)

pub refuses_in_order : RefusesInOrder
refuses_in_order list bytes = record {
  list_fault = λ k p e. sym (checked_refused list bytes k p (supplied_refused list (length bytes) k p e));
  odd = λ n e h. sym (checked_refused list bytes 16 0 (supplied_odd list (length bytes) n e h));
}
