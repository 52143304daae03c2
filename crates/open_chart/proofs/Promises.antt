-- The promises of specs/Demand on one change and one listing.
-- Assumes nothing.
use mathlib.Core.Path.{◌≡◌, refl, sym, ap, ◌∙◌, subst}
use mathlib.Core.Bool.{Bool, true, false, ◌&&◌}
use mathlib.Core.List.Memᴰ
use mathlib.Core.List.{List}
use mathlib.Core.List.Memᴰ.{append_cases as cases}
use mathlib.Core.List.Memᴰ.{eq_of_singleton as only}
use mathlib.Core.List.Memᴰ.{head as here}
use mathlib.Core.List.Memᴰ.{not-nil}
use mathlib.Core.List.{Memᴰ as In}
use mathlib.Core.Logic.{◌↔◌, ◌≢◌, ⊎_elim}
use Prim.Native.Nat.{ℕ, zero, suc, ◌*◌, ◌+◌, ◌<◌, ◌≤◌}
use native.Mathlib.Nat.{eq-or-lt_of_le}
use native.Mathlib.Omega.{arith}
use borrow.Author.Tests.{eqb-true, eqb-false, ltb-true, ltb-false, eq-eqb}
use lib.Dec.{T, eqb, ltb}
use lib.IntN.{ℤ, negsuc}
use lib.ListN.{length}
use Rattle.line_segment.specs.Demand.{Meet}
use Rattle.line_segment.proofs.Promises.{says_yes_exactly}
use Rattle.charts.specs.Verdict.{Verdict}
use Rattle.charts.specs.Verdict.{Accepted, Refused}
use Rattle.charts.specs.Answer.{room}
use Rattle.charts.specs.Chart.{number_at, fault_at}
use Rattle.charts.specs.Demand.{Fault, FaultOf}
use Rattle.charts.specs.Piece.{piece_at}
use Rattle.charts.proofs.Rows.{fault_due, fault_given}
use Rattle.naive.specs.AllPairs.{meets}
use Rattle.naive.proofs.Listed.{rows_say, rows_have, rows_ascend, once}
use Rattle.open_chart.specs.Memory.{places, memory, five, vacant, is_used, used_below, lowest_free, written}
use Rattle.open_chart.specs.Changes.{adding, dropping}
use Rattle.open_chart.specs.Listing.{meets_on, open_pairs, listing_on}
use Rattle.open_chart.specs.Demand.{Used, LowestFree, AddDue, DropDue, ListDue, AddsExactly, DropsExactly, ListsWhenRoomy, CountsUsed, PiecesAsGiven, RefusedAltersNothing, AltersOnePlace, AddsAfterDropping, ListsExactly, ListsInOrder, ListsOnce}
use Rattle.open_chart.proofs.Gathers.{below_none, below_used, below_free}
use Rattle.open_chart.proofs.Lowest.{lowest_most, lowest_below, lowest_here, used_up, found}
use Rattle.open_chart.proofs.Outcomes.{five_fault, added, adding_small, adding_faulted, adding_full, adding_at, dropped, dropping_small, dropping_unknown, dropping_free, dropping_at, listing_small, listing_tight, listing_goes}
use Rattle.open_chart.proofs.Beside.{used_long, used_as_given}
use Rattle.open_chart.proofs.Alters.{same_used, numbers_here, numbers_other, written_length}
use Rattle.open_chart.proofs.Contents.{case, vacant_unused}

-- ---- used, by the rows of the table
module _ (chart : List ℤ) (i : ℕ) where
  fault_at_due : FaultOf chart i (fault_at chart i)
  unfolding fault_at
  fault_at_due = fault_due (number_at chart i 0) (number_at chart i 1) (number_at chart i 2) (number_at chart i 3) (number_at chart i 4)

  pub used_sound : is_used chart i ≡ true → FaultOf chart i 0
  unfolding is_used
  used_sound e = subst (FaultOf chart i) (eqb-true (fault_at chart i) 0 e) fault_at_due

  pub sound_used : FaultOf chart i 0 → is_used chart i ≡ true
  unfolding is_used fault_at
  sound_used f = eq-eqb (fault_at chart i) 0 (fault_given (number_at chart i 0) (number_at chart i 1) (number_at chart i 2) (number_at chart i 3) (number_at chart i 4) 0 f)

  pub free_faulted : is_used chart i ≡ false → ¬ FaultOf chart i 0
  free_faulted e f = subst T (sym (sound_used f) ∙ e) tt

  -- what is not used is free
  pub unused_free : ¬ FaultOf chart i 0 → is_used chart i ≡ false
  unused_free n = case (is_used chart i) (λ u. absurd (n (used_sound u))) (λ u. u)

-- ---- adding
module _ (chart : List ℤ) (a b c d e : ℤ) where
  due_of : (k : ℕ) → fault_at (five a b c d e) 0 ≡ k → Fault a b c d e k
  due_of k q = subst (Fault a b c d e) (sym (five_fault a b c d e) ∙ q) (fault_due a b c d e)

  given_of : (k : ℕ) → Fault a b c d e k → fault_at (five a b c d e) 0 ≡ k
  given_of k f = five_fault a b c d e ∙ fault_given a b c d e k f

  add_given : (v : Verdict) → AddDue chart a b c d e v → adding chart (five a b c d e) ≡ v
  add_given v (AddDue.eight h) = adding_small chart (five a b c d e) h
  add_given v (AddDue.faulted h k f) = adding_faulted chart (five a b c d e) h (suc k) (given_of (suc k) f) (λ z. omega arith)
  add_given v (AddDue.full h f u) = adding_full chart (five a b c d e) h (given_of 0 f) (used_up chart places (λ j l. sound_used chart j (u j l).1))
  add_given v (AddDue.at h f i l) =
      let r = found chart i places (used_up chart i (λ j m. sound_used chart j (l.below j m).1)) (unused_free chart i (λ s. l.unused (l.known, s))) l.known in
      adding_at chart (five a b c d e) h (given_of 0 f) (λ q. omega (arith, l.known, r, q)) ∙ ap (λ (k : ℕ). Accepted k) r

  lowest_due : ¬ (lowest_free chart places ≡ places) → LowestFree chart (lowest_free chart places)
  lowest_due n =
      let l : lowest_free chart places < places = omega (arith, lowest_most chart places) in
      record { known = l; unused = λ u. free_faulted chart (lowest_free chart places) (lowest_here chart places l) u.1; below = λ j m. (omega arith, used_sound chart j (lowest_below chart places j m)) }

  large_due : memory ≤ length chart → AddDue chart a b c d e (adding chart (five a b c d e))
  large_due h = go (fault_at (five a b c d e) 0) refl
    where
      go : (k : ℕ) → fault_at (five a b c d e) 0 ≡ k → AddDue chart a b c d e (adding chart (five a b c d e))
      go zero q =
          case (eqb (lowest_free chart places) places)
          (λ w.
          let p = eqb-true (lowest_free chart places) places w in
          subst (AddDue chart a b c d e) (sym (adding_full chart (five a b c d e) h q p)) (AddDue.full h (due_of 0 q) (λ i l. (l, used_sound chart i (lowest_below chart places i (omega arith))))))
          (λ w.
          let p = eqb-false (lowest_free chart places) places w in
          subst (AddDue chart a b c d e) (sym (adding_at chart (five a b c d e) h q p)) (AddDue.at h (due_of 0 q) (lowest_free chart places) (lowest_due p)))
      go (suc k) q = subst (AddDue chart a b c d e) (sym (adding_faulted chart (five a b c d e) h (suc k) q (λ z. omega arith))) (AddDue.faulted h k (due_of (suc k) q))

  add_due : AddDue chart a b c d e (adding chart (five a b c d e))
  add_due =
      case (ltb (length chart) memory)
      (λ s. let h = ltb-true (length chart) memory s in subst (AddDue chart a b c d e) (sym (adding_small chart (five a b c d e) h)) (AddDue.eight h))
      (λ s. large_due (ltb-false (length chart) memory s))

pub adds_exactly : AddsExactly
adds_exactly chart a b c d e v = (λ q. subst (AddDue chart a b c d e) q (add_due chart a b c d e), add_given chart a b c d e v)

-- ---- dropping
module _ (chart : List ℤ) (i : ℕ) where
  drop_unused : memory ≤ length chart → ¬ Used chart i → dropping chart i ≡ Refused 18 0
  drop_unused h n =
      case (ltb i places)
      (λ k. let l = ltb-true i places k in dropping_free chart i h l (unused_free chart i (λ f. n (l, f))))
      (λ k. dropping_unknown chart i h (ltb-false i places k))

  drop_given : (v : Verdict) → DropDue chart i v → dropping chart i ≡ v
  drop_given v (DropDue.eight h) = dropping_small chart i h
  drop_given v (DropDue.eighteen h n) = drop_unused h n
  drop_given v (DropDue.at h u) = dropping_at chart i h u.0 (sound_used chart i u.1)

  drop_due : DropDue chart i (dropping chart i)
  drop_due =
      case (ltb (length chart) memory)
      (λ s. let h = ltb-true (length chart) memory s in subst (DropDue chart i) (sym (dropping_small chart i h)) (DropDue.eight h))
      (λ s.
      let h = ltb-false (length chart) memory s in
      case (ltb i places)
      (λ k.
      let l = ltb-true i places k in
      case (is_used chart i)
      (λ u. subst (DropDue chart i) (sym (dropping_at chart i h l u)) (DropDue.at h (l, used_sound chart i u)))
      (λ u. subst (DropDue chart i) (sym (dropping_free chart i h l u)) (DropDue.eighteen h (λ w. free_faulted chart i u w.1))))
      (λ k. let l = ltb-false i places k in subst (DropDue chart i) (sym (dropping_unknown chart i h l)) (DropDue.eighteen h (λ w. omega (arith, w.0)))))

pub drops_exactly : DropsExactly
drops_exactly chart i v = (λ q. subst (DropDue chart i) q (drop_due chart i), drop_given chart i v)

-- ---- listing
module _ (chart : List ℤ) (lent : ℕ) where
  list_given : (v : Verdict) → ListDue chart lent v → listing_on chart lent ≡ v
  list_given v (ListDue.eight h) = listing_small chart lent h
  list_given v (ListDue.tight h k) = listing_tight chart lent h k
  list_given v (ListDue.roomy h k) = listing_goes chart lent h k

  list_due : ListDue chart lent (listing_on chart lent)
  list_due =
      case (ltb (length chart) memory)
      (λ s. let h = ltb-true (length chart) memory s in subst (ListDue chart lent) (sym (listing_small chart lent h)) (ListDue.eight h))
      (λ s.
      let h = ltb-false (length chart) memory s in
      let need = room (length (used_below chart places)) in
      case (ltb lent need)
      (λ k. let l = ltb-true lent need k in subst (ListDue chart lent) (sym (listing_tight chart lent h l)) (ListDue.tight h l))
      (λ k. let l = ltb-false lent need k in subst (ListDue chart lent) (sym (listing_goes chart lent h l)) (ListDue.roomy h l)))

pub lists_when_roomy : ListsWhenRoomy
lists_when_roomy chart lent v = (λ q. subst (ListDue chart lent) q (list_due chart lent), list_given chart lent v)

module _ (chart : List ℤ) where
  in_used : (n i : ℕ) → In i (used_below chart n) → (i < n) × (is_used chart i ≡ true)
  in_used zero i m = absurd (not-nil (subst (λ (l : List ℕ). In i l) (below_none chart) m))
  in_used (suc n) i m =
      case (is_used chart n)
      (λ u.
      ⊎_elim
      (λ o. let r = in_used n i o in (omega (arith, r.0), r.1))
      (λ o. let q : i ≡ n = only o in (omega arith, ap (is_used chart) q ∙ u))
      (cases (used_below chart n) (subst (λ (l : List ℕ). In i l) (below_used chart n u) m)))
      (λ u. let r = in_used n i (subst (λ (l : List ℕ). In i l) (below_free chart n u) m) in (omega (arith, r.0), r.1))

  used_in : (n i : ℕ) → i < n → is_used chart i ≡ true → In i (used_below chart n)
  used_in zero i h v = absurd (omega arith)
  used_in (suc n) i h v =
      ⊎_elim
      (λ (q : i ≡ n). subst (λ (l : List ℕ). In i l) (sym (below_used chart n (ap (is_used chart) (sym q) ∙ v))) (Memᴰ.append_right (used_below chart n) (here q)))
      (λ (l : i < n).
      case (is_used chart n)
      (λ u. subst (λ (l : List ℕ). In i l) (sym (below_used chart n u)) (Memᴰ.append_left _ (used_in n i l v)))
      (λ u. subst (λ (l : List ℕ). In i l) (sym (below_free chart n u)) (used_in n i l v)))
      (eq-or-lt_of_le {n = i} {m = n} (omega arith))

pub counts_used : CountsUsed
counts_used chart i = (
  λ m. let r = in_used chart places i m in (r.0, used_sound chart i r.1),
  λ u. used_in chart places i u.0 (sound_used chart i u.1),
)

pub pieces_as_given : PiecesAsGiven
pieces_as_given chart i u = used_as_given chart i (sound_used chart i u.1)

-- ---- what a change leaves
pub refused_alters_nothing : RefusedAltersNothing
refused_alters_nothing chart k = (λ a b c d e q. sym (added chart (five a b c d e) _ q).1, λ i q. sym (dropped chart i _ q).1)

-- an accepted change has its place within the memory
module _ (chart : List ℤ) (i : ℕ) where
  add_within : (a b c d e : ℤ) → adding chart (five a b c d e) ≡ Accepted i → 5 * i + 5 ≤ length chart
  add_within a b c d e q = go ((adds_exactly chart a b c d e (Accepted i)).0 q)
    where
      go : AddDue chart a b c d e (Accepted i) → 5 * i + 5 ≤ length chart
      go (AddDue.at h f i l) = omega (arith, l.known)

  drop_used : dropping chart i ≡ Accepted i → (memory ≤ length chart) × Used chart i
  drop_used q = go i ((drops_exactly chart i (Accepted i)).0 q)
    where
      go : (j : ℕ) → DropDue chart i (Accepted j) → (memory ≤ length chart) × Used chart i
      go j (DropDue.at h u) = (h, u)

pub alters_one_place : AltersOnePlace
alters_one_place chart i j k n l = (
  λ a b c d e q.
      ap (λ (m : List ℤ). number_at m j k) (sym (added chart (five a b c d e) _ q).1) ∙ numbers_other chart i a b c d e (add_within chart i a b c d e q) j k n l,
  λ q.
      let u = drop_used chart i q in
      ap (λ (m : List ℤ). number_at m j k) (sym (dropped chart i _ q).1)
      ∙ numbers_other chart i (negsuc 0) (negsuc 0) (negsuc 0) (negsuc 0) (negsuc 0) (omega (arith, u.0, u.1.0)) j k n l,
)

-- ---- adding after dropping
module _ (chart : List ℤ) (i : ℕ) (h : memory ≤ length chart) (l : i < places) where
  abbrev left : List ℤ
  left = written chart i vacant

  left_length : memory ≤ length left
  left_length = omega (arith, written_length chart i (negsuc 0) (negsuc 0) (negsuc 0) (negsuc 0) (negsuc 0) (omega arith))

  left_free : is_used left i ≡ false
  left_free = same_used left vacant i 0 (λ k m. numbers_here chart i (negsuc 0) (negsuc 0) (negsuc 0) (negsuc 0) (negsuc 0) (omega arith) k m) ∙ vacant_unused

  left_other : (j : ℕ) → j ≢ i → is_used left j ≡ is_used chart j
  left_other j n = same_used left chart j j (λ k m. numbers_other chart i (negsuc 0) (negsuc 0) (negsuc 0) (negsuc 0) (negsuc 0) (omega arith) j k n m)

  -- the lowest free place is not beyond i
  not_beyond : lowest_free left places ≤ i
  not_beyond =
      case (ltb i (lowest_free left places))
      (λ q. absurd (subst T (sym (lowest_below left places i (ltb-true i (lowest_free left places) q)) ∙ left_free) tt))
      (λ q. ltb-false i (lowest_free left places) q)

  at_dropped : ((m : ℕ) → m < i → Used chart m) → lowest_free left places ≡ i
  at_dropped f =
      found left i places (used_up left i (λ j m. left_other j (λ q. omega (arith, q)) ∙ sound_used chart j (f j m).1)) left_free l

  again : (a b c d e : ℤ) → Fault a b c d e 0 → adding left (five a b c d e) ≡ Accepted (lowest_free left places)
  again a b c d e f = adding_at left (five a b c d e) left_length (given_of left a b c d e 0 f) (λ q. omega (arith, not_beyond, q))

pub adds_after_dropping : AddsAfterDropping
adds_after_dropping chart i a b c d e q f =
    let u = drop_used chart i q in
    let h = u.0 in
    let l = u.1.0 in (
      lowest_free (left chart i h l) places,
      ap (λ (m : List ℤ). adding m (five a b c d e)) (sym (dropped chart i _ q).1) ∙ again chart i h l a b c d e f,
      not_beyond chart i h l,
      at_dropped chart i h l,
    )

-- ---- the list
pub lists_in_order : ListsInOrder
unfolding open_pairs
lists_in_order chart = rows_ascend (meets_on chart) places

pub lists_once : ListsOnce
lists_once chart = once (open_pairs chart) (lists_in_order chart)

-- the three tests of a listed pair
three : (s t m : Bool) → ((s && t) && m) ≡ true → (s ≡ true) × (t ≡ true) × (m ≡ true)
three true true m e = (refl, refl, e)
three true false m e = absurd (subst T (sym e) tt)
three false t m e = absurd (subst T (sym e) tt)

module _ (chart : List ℤ) (a b : ℕ) where
  meets_meet : is_used chart a ≡ true → is_used chart b ≡ true → (meets chart a b ≡ true) ↔ Meet (piece_at chart a) (piece_at chart b)
  unfolding meets
  meets_meet u v = says_yes_exactly (piece_at chart a) (piece_at chart b) (used_long chart a u) (used_long chart b v)

  on_means : meets_on chart a b ≡ true → FaultOf chart a 0 × FaultOf chart b 0 × Meet (piece_at chart a) (piece_at chart b)
  unfolding meets_on
  on_means e =
      let t = three (is_used chart a) (is_used chart b) (meets chart a b) e in
      (used_sound chart a t.0, used_sound chart b t.1, (meets_meet t.0 t.1).0 t.2)

  means_on : FaultOf chart a 0 → FaultOf chart b 0 → Meet (piece_at chart a) (piece_at chart b) → meets_on chart a b ≡ true
  unfolding meets_on
  means_on f g m =
      let u = sound_used chart a f in
      let v = sound_used chart b g in
      rw (u, v) ((meets_meet u v).1 m)

pub lists_exactly : ListsExactly
unfolding open_pairs
lists_exactly chart a b = (
  λ m.
      let r = rows_say (meets_on chart) places (a, b) m in
      let o = on_means chart a b r.met in
      (r.greater, (r.below, o.0), (omega (arith, r.greater, r.below), o.1), o.2),
  λ h. rows_have (meets_on chart) places a b h.1.0 h.0 (means_on chart a b h.1.1 h.2.1 h.3),
)
