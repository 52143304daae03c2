-- The least of the lanes: keys first, and where they are equal the points.
use mathlib.Core.Path.{◌≡◌, refl, sym, ap, subst, ◌∙◌}
use mathlib.Core.Bool.{Bool, true, false}
use mathlib.Core.List.{List}
use mathlib.Core.Logic.{◌⊎◌, inl, inr, ⊎_elim}
use Prim.Native.Nat.{ℕ, ◌+◌, ◌<◌, ◌≤◌}
use native.Mathlib.Omega.{arith}
use borrow.Author.Tests.{ltb-true, ltb-false}
use lib.Dec.{ltb}
use lib.IntN.{ℤ}
use lib.ListN.{get_or}
use Rattle.fractions.specs.Order.{turned}
use Rattle.fractions.specs.Point.{point_order}
use Rattle.std.specs.declared.cmp.Ordering.{Ordering}
use Rattle.std.specs.declared.cmp.Ordering.TheVariants.{Less, Equal, Greater}
use Rattle.fractions.specs.declared.Point.{Point}
use Rattle.fractions.proofs.Points.{left, placed, point_itself, point_turned, less_at_most}
use Rattle.sweep.specs.Ported.{is_less}
use Rattle.full_points.specs.Spot.{Charted, key_of}
use Rattle.full_points.proofs.Keys.{key_less}
use Rattle.full_lanes.specs.Lanes.{no_key, meeting_at, Taken, Keyed, LeastLane, Newer, Candidate}

lt_or_le : (m n : ℕ) → (m < n) ⊎ (n ≤ m)
lt_or_le m n = go (ltb m n) refl
  where
    go : (t : Bool) → ltb m n ≡ t → (m < n) ⊎ (n ≤ m)
    go true e = inl (ltb-true m n e)
    go false e = inr (ltb-false m n e)

before_or_at : (j k : ℕ) → j < k + 1 → (j < k) ⊎ (j ≡ k)
before_or_at j k i = ⊎_elim (λ (a : j < k). inl a) (λ (a : k ≤ j). inr (omega arith)) (lt_or_le j k)

-- keys that are greater, and one more
pub one_greater : (lanes : List ℕ) (least from k : ℕ) → ((i : ℕ) → from ≤ i → i < k → least < get_or lanes i 0) → least < get_or lanes k 0
    → (i : ℕ) → from ≤ i → i < k + 1 → least < get_or lanes i 0
one_greater lanes least from k f g i a b =
    ⊎_elim (λ (h : i < k). f i a h) (λ (e : i ≡ k). subst (λ (z : ℕ). least < get_or lanes z 0) (sym e) g) (before_or_at i k b)

no_less : {A : Type 0} → ◌≡◌ {A = Bool} true false → A
no_less e = absurd (let z : ◌≡◌ {A = ℕ} 0 1 = cc in omega arith)

-- the less of two is not the greater
pub not_back : (p q : Point) → point_order p q ≡ Less → is_less (point_order q p) ≡ false
not_back p q e = ap is_less (point_turned p q ∙ ap turned e)

-- a lesser key lies to the left
pub left_by_x : (p q : Point) → Charted p.x p.d → Charted q.x q.d → key_of p < key_of q → point_order p q ≡ Less
left_by_x p q hp hq h = placed (left (key_less p q hp hq h))

-- "not less" passes on
pub not_less_trans : (p q r : Point) → 0 < p.d → 0 < q.d → 0 < r.d → is_less (point_order p q) ≡ false → is_less (point_order q r) ≡ false → is_less (point_order p r) ≡ false
not_less_trans p q r hp hq hr e f = go (point_order p r) refl
  where
    at_most : (o : Ordering) → is_less o ≡ false → ¬ (turned o ≡ Greater)
    at_most Less e g = no_less e
    at_most Equal e g = absurd (let z : ◌≡◌ {A = ℕ} 0 1 = cc in omega arith)
    at_most Greater e g = absurd (let z : ◌≡◌ {A = ℕ} 0 1 = cc in omega arith)

    go : (o : Ordering) → point_order p r ≡ o → is_less o ≡ false
    go Less g = no_less (ap is_less (sym (less_at_most p r q hp hr hq g (λ k. at_most (point_order q r) f (sym (point_turned q r) ∙ k)))) ∙ e)
    go Equal g = refl
    go Greater g = refl

module _ (table : List ℤ) (active : List ℕ) (live k key at least : ℕ)
    (hk : key < no_key → Taken table active live k key) (ha : least < no_key → Taken table active live at least) where
  before_key : key < no_key → least < no_key → key < least → point_order (meeting_at table active k) (meeting_at table active at) ≡ Less
  before_key h l s = left_by_x _ _ (hk h).charted.along (ha l).charted.along (omega (arith, (hk h).is, (ha l).is))

  before_least : key < no_key → least < no_key → least < key → point_order (meeting_at table active at) (meeting_at table active k) ≡ Less
  before_least h l s = left_by_x _ _ (ha l).charted.along (hk h).charted.along (omega (arith, (hk h).is, (ha l).is))

  pub newer_key : least ≤ no_key → key < least → Newer table active k key at least true
  newer_key b s = record { take = λ _. (omega arith, λ l. not_back _ _ (before_key (omega arith) l s)); leave = λ e. no_less e }

  pub older_key : least < key → Newer table active k key at least false
  older_key s = record { take = λ e. no_less (sym e); leave = λ _ h. (omega arith, not_back _ _ (before_least h (omega arith) s)) }

  pub no_lane : no_key ≤ key → Newer table active k key at least false
  no_lane s = record { take = λ e. no_less (sym e); leave = λ _ h. absurd (omega arith) }

  -- of one key, by the points
  pub by_points : key ≡ least → key < no_key → {t : Bool} → t ≡ is_less (point_order (meeting_at table active k) (meeting_at table active at)) → Newer table active k key at least t
  by_points s h e = record {
    take = λ y. (h, λ l. not_back _ _ (less_is _ (sym e ∙ y)));
    leave = λ y _. (omega arith, sym e ∙ y);
  }
    where
      less_is : (o : Ordering) → is_less o ≡ true → o ≡ Less
      less_is Less y = refl
      less_is Equal y = no_less (sym y)
      less_is Greater y = no_less (sym y)

-- of more places it is taken as well
pub wider : {table : List ℤ} {active : List ℕ} {live live' k key : ℕ} → Taken table active live k key → live ≤ live' → Taken table active live' k key
wider t h = record { two = omega (arith, t.two); charted = t.charted; is = t.is }

-- ---- what the scan knows before place k: the lane kept, if any, is the least of those passed
pub record Scan (table : List ℤ) (active lanes : List ℕ) (live k at least : ℕ) : Type 0 where
  pub upto : k ≤ live
  pub bound : least ≤ no_key
  pub start : no_key ≤ least → at ≡ live
  pub kept : least < no_key → (at < live) × (get_or lanes at 0 ≡ least)
  pub passed : (j : ℕ) → j < k → get_or lanes j 0 < no_key → (least < no_key) × (is_less (point_order (meeting_at table active j) (meeting_at table active at)) ≡ false)

module _ (table : List ℤ) (active lanes : List ℕ) (live : ℕ) where
  pub scan_begins : Scan table active lanes live 0 live no_key
  scan_begins = record { upto = omega arith; bound = omega arith; start = λ _. refl; kept = λ h. absurd (omega arith); passed = λ j h. absurd (omega arith) }

  module _ (K : Keyed table active lanes live) (k at least : ℕ) (h : k < live) (s : Scan table active lanes live k at least) where
    pub kept_taken : least < no_key → Taken table active live at least
    kept_taken l =
        let e = s.kept l in
        subst (λ (n : ℕ). Taken table active live at n) e.1 (K.taken at e.0 (omega (arith, e.1)))

    meets_above : (j : ℕ) → j < live → get_or lanes j 0 < no_key → 0 < (meeting_at table active j).d
    meets_above j i l = (K.taken j i l).charted.along.positive

    pub scan_takes : Newer table active k (get_or lanes k 0) at least true → Scan table active lanes live (k + 1) k (get_or lanes k 0)
    scan_takes w =
        let t = w.take refl in
        record {
          upto = omega arith;
          bound = omega (arith, t.0);
          start = λ b. absurd (omega (arith, t.0));
          kept = λ _. (h, refl);
          passed = λ j i l. (t.0, go j (before_or_at j k i) l);
        }
      where
        go : (j : ℕ) → (j < k) ⊎ (j ≡ k) → get_or lanes j 0 < no_key → is_less (point_order (meeting_at table active j) (meeting_at table active k)) ≡ false
        go j (inl i) l =
            let q = s.passed j i l in
            let a = s.kept q.0 in
            not_less_trans _ (meeting_at table active at) _ (meets_above j (omega arith) l) (meets_above at a.0 (omega (arith, a.1, q.0))) (meets_above k h (w.take refl).0) q.1 ((w.take refl).1 q.0)
        go j (inr e) l = ap (λ (z : ℕ). is_less (point_order (meeting_at table active z) (meeting_at table active k))) e ∙ ap is_less (point_itself (meeting_at table active k))

    pub scan_leaves : Newer table active k (get_or lanes k 0) at least false → Scan table active lanes live (k + 1) at least
    scan_leaves w =
        record {
          upto = omega arith;
          bound = s.bound;
          start = s.start;
          kept = s.kept;
          passed = λ j i l. go j (before_or_at j k i) l;
        }
      where
        go : (j : ℕ) → (j < k) ⊎ (j ≡ k) → get_or lanes j 0 < no_key → (least < no_key) × (is_less (point_order (meeting_at table active j) (meeting_at table active at)) ≡ false)
        go j (inl i) l = s.passed j i l
        go j (inr e) l =
            let r = w.leave refl (subst (λ (z : ℕ). get_or lanes z 0 < no_key) e l) in
            (r.0, ap (λ (z : ℕ). is_less (point_order (meeting_at table active z) (meeting_at table active at))) e ∙ r.1)

  -- greater keys are passed over
  pub scan_skips : Keyed table active lanes live → (k at least r : ℕ) → Scan table active lanes live k at least → Candidate lanes k live least r → Scan table active lanes live r at least
  scan_skips K k at least r s c =
      record {
        upto = c.within;
        bound = s.bound;
        start = s.start;
        kept = s.kept;
        passed = λ j i l. ⊎_elim (λ (b : j < k). s.passed j b l) (λ (b : k ≤ j). behind j i l (c.greater j b i)) (lt_or_le j k);
      }
    where
      behind : (j : ℕ) → j < r → get_or lanes j 0 < no_key → least < get_or lanes j 0
          → (least < no_key) × (is_less (point_order (meeting_at table active j) (meeting_at table active at)) ≡ false)
      behind j i l g =
          (older_key table active live j (get_or lanes j 0) at least
          (K.taken j (let w = c.within in omega arith))
          (λ h. let e = s.kept h in subst (λ (n : ℕ). Taken table active live at n) e.1 (K.taken at e.0 (omega (arith, e.1)))) g).leave refl l

  pub scan_ends : (k at least : ℕ) → live ≤ k → Scan table active lanes live k at least → LeastLane table active lanes live at
  scan_ends k at least b s = go (lt_or_le least no_key)
    where
      go : (least < no_key) ⊎ (no_key ≤ least) → LeastLane table active lanes live at
      go (inl l) =
          let e = s.kept l in
          record {
            within = omega (arith, e.0);
            none = λ r. absurd (omega (arith, e.0));
            taken = λ _. omega (arith, e.1);
            least = λ _ j i h. (s.passed j (omega arith) h).1;
          }
      go (inr n) =
          let e = s.start n in
          record {
            within = omega (arith, e);
            none = λ _ j i. ⊎_elim (λ (h : get_or lanes j 0 < no_key). absurd (omega (arith, (s.passed j (omega arith) h).0))) (λ (h : no_key ≤ get_or lanes j 0). h) (lt_or_le (get_or lanes j 0) no_key);
            taken = λ r. absurd (omega (arith, e));
            least = λ r. absurd (omega (arith, e));
          }
