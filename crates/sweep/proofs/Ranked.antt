-- The facts of geometry told by numbers: each point that occurs has a key, so that their order is arithmetic.
use mathlib.Core.Path.{◌≡◌, sym, ◌∙◌}
use mathlib.Core.Logic.{◌⊎◌, inl, inr, ⊎_elim, ◌≢◌}
use mathlib.Core.Bool.{true, false, not}
use Prim.Native.Nat.{ℕ, ◌≤◌, ◌<◌}
use native.Mathlib.Omega.{arith}
use lib.Dec.{ltb}
use borrow.Author.Tests.{ltb-true, ltb-false}
use Rattle.sweep.specs.Chart.{crosses, overlaps, Chart, same}
use Rattle.sweep.specs.Sought.{occurring, later}
use Rattle.sweep.specs.Geometry.{Occurs, Under, CrossBetween, PointsOrdered, Geometry}
use Rattle.sweep.proofs.Tests.{ask, clash, and_both, not_true, ltb_yes, ltb_no}
use Rattle.sweep.proofs.Rank.{rank, rank_inj, rank_less}
use Rattle.sweep.proofs.Occurring.{min_occurs, max_occurs, at_occurs}

-- i is under the sweep at p
abbrev pub Act : (C : Chart) (key : C.Point → ℕ) → C.Point → ℕ → Type 0
Act C key p i = (i < C.n) × (key (C.min i) ≤ key p) × (key p < key (C.max i))

-- i and j cross between p and c
abbrev pub Hit : (C : Chart) (key : C.Point → ℕ) → C.Point → C.Point → ℕ → ℕ → Type 0
Hit C key p c i j = (C.test i j ≡ crosses) × (key p < key (C.crossing i j)) × (key (C.crossing i j) < key c)

module _ (C : Chart) where
  open C use {Point, less, n, min, max, contains, test, crossing, before}

  pub record Keyed : Type 0 where
    pub key : Point → ℕ
    pub key_inj : (p q : Point) → Occurs C p → Occurs C q → key p ≡ key q → p ≡ q
    pub key_less : (p q : Point) → Occurs C p → Occurs C q → less p q ≡ ltb (key p) (key q)

  -- the order of points, by their keys
  module _ (K : Keyed) where
    open K use {key}

    pub less_true : (p q : Point) → Occurs C p → Occurs C q → less p q ≡ true → key p < key q
    less_true p q a b e = ltb-true (key p) (key q) (sym (K.key_less p q a b) ∙ e)

    pub less_false : (p q : Point) → Occurs C p → Occurs C q → less p q ≡ false → key q ≤ key p
    less_false p q a b e = ltb-false (key p) (key q) (sym (K.key_less p q a b) ∙ e)

    pub less_yes : (p q : Point) → Occurs C p → Occurs C q → key p < key q → less p q ≡ true
    less_yes p q a b h = K.key_less p q a b ∙ ltb_yes (key p) (key q) h

    pub less_no : (p q : Point) → Occurs C p → Occurs C q → key q ≤ key p → less p q ≡ false
    less_no p q a b h = K.key_less p q a b ∙ ltb_no (key p) (key q) h

    pub same_yes : (p q : Point) → Occurs C p → Occurs C q → key p ≡ key q → same C p q ≡ true
    unfolding same
    same_yes p q a b e = rw (less_no p q a b (omega arith), less_no q p b a (omega arith))

    pub same_true : (p q : Point) → Occurs C p → Occurs C q → same C p q ≡ true → key p ≡ key q
    unfolding same
    same_true p q a b e =
        let r = and_both (not (less p q)) (not (less q p)) e in
        omega (arith, less_false p q a b (not_true _ r.0), less_false q p b a (not_true _ r.1))

    pub same_false : (p q : Point) → Occurs C p → Occurs C q → same C p q ≡ false → key p ≢ key q
    same_false p q a b e d = clash (same_yes p q a b d) e

    pub same_no : (p q : Point) → Occurs C p → Occurs C q → key p ≢ key q → same C p q ≡ false
    same_no p q a b ne = ⊎_elim (λ (e : same C p q ≡ true). absurd (ne (same_true p q a b e))) (λ (e : same C p q ≡ false). e) (ask (same C p q))

  pub record Ranked : Type 1 where
    pub On : ℕ → Point → Type 0
    pub Aligned : ℕ → ℕ → Type 0
    pub keyed : Keyed
    pub min_max : (i : ℕ) → i < n → keyed.key (min i) < keyed.key (max i)
    pub on_min : (i : ℕ) → i < n → On i (min i)
    pub on_max : (i : ℕ) → i < n → On i (max i)
    pub on_range : (i : ℕ) (p : Point) → i < n → Occurs C p → On i p → (keyed.key (min i) ≤ keyed.key p) × (keyed.key p ≤ keyed.key (max i))
    pub contains_on : (i : ℕ) (p : Point) → i < n → Occurs C p → contains i p ≡ true → On i p
    pub on_contains : (i : ℕ) (p : Point) → i < n → Occurs C p → On i p → keyed.key (min i) < keyed.key p → keyed.key p < keyed.key (max i) → contains i p ≡ true
    pub test_sym : (i j : ℕ) → i < n → j < n → i ≢ j → test i j ≡ test j i
    pub crossing_occurs : (i j : ℕ) → i < n → j < n → i ≢ j → test i j ≡ crosses → Occurs C (crossing i j)
    pub crossing_sym : (i j : ℕ) → i < n → j < n → i ≢ j → test i j ≡ crosses → crossing i j ≡ crossing j i
    pub crossing_on : (i j : ℕ) → i < n → j < n → i ≢ j → test i j ≡ crosses → On i (crossing i j) × On j (crossing i j)
    pub crossing_only : (i j : ℕ) (p : Point) → i < n → j < n → i ≢ j → Occurs C p → test i j ≡ crosses → On i p → On j p → p ≡ crossing i j
    pub crossing_not_aligned : (i j : ℕ) → i < n → j < n → i ≢ j → test i j ≡ crosses → ¬ Aligned i j
    pub contains_crosses : (i j : ℕ) (p : Point) → i < n → j < n → i ≢ j → Occurs C p → contains i p ≡ true → contains j p ≡ true → ¬ Aligned i j → test i j ≡ crosses
    pub overlap_on : (i j : ℕ) → i < n → j < n → i ≢ j → test i j ≡ overlaps → On i (later C (min i) (min j)) × On j (later C (min i) (min j))
    pub aligned_dec : (i j : ℕ) → Dec (Aligned i j)
    pub aligned_trans : (i j k : ℕ) (p : Point) → i < n → j < n → k < n → Occurs C p → On i p → On j p → On k p → Aligned i j → Aligned j k → Aligned i k
    pub before_irr : (p : Point) (i : ℕ) → before p i i ≡ false
    pub before_trans : (p : Point) → Occurs C p → (i j k : ℕ) → Act C keyed.key p i → Act C keyed.key p j → Act C keyed.key p k → before p i j ≡ true → before p j k ≡ true → before p i k ≡ true
    pub before_total : (p : Point) → Occurs C p → (i j : ℕ) → Act C keyed.key p i → Act C keyed.key p j → i ≢ j → before p i j ≡ false → before p j i ≡ true
    pub squeeze : (p c : Point) → Occurs C p → Occurs C c → keyed.key p < keyed.key c → (i k j : ℕ) → Act C keyed.key p i → Act C keyed.key p k → Act C keyed.key p j
        → keyed.key c < keyed.key (max i) → keyed.key c < keyed.key (max k) → keyed.key c < keyed.key (max j)
        → before p i k ≡ true → before p k j ≡ true → On i c → On j c → On k c ⊎ (Hit C keyed.key p c i k ⊎ Hit C keyed.key p c k j)

  abbrev pub keys : PointsOrdered C → Keyed
  keys O =
      record {
        key = rank less (occurring C) O.less_irr O.less_trans O.less_same;
        key_inj = rank_inj less (occurring C) O.less_irr O.less_trans O.less_same;
        key_less = rank_less less (occurring C) O.less_irr O.less_trans O.less_same;
      }

  module _ (G : Geometry C) where
    crossing_in : (i j : ℕ) → i < n → j < n → i ≢ j → test i j ≡ crosses → Occurs C (crossing i j)
    crossing_in i j hi hj ne k =
        ⊎_elim
        (λ (l : ltb i j ≡ true). at_occurs C (i, j) (ltb-true i j l, hj) k)
        (λ (l : ltb i j ≡ false).
        let h : j < i = omega (arith, ltb-false i j l) in
        rw (G.crossing_sym i j hi hj ne k) (at_occurs C (j, i) (h, hi) (sym (G.test_sym i j hi hj ne) ∙ k)))
        (ask (ltb i j))

    abbrev K : Keyed
    K = keys G.ordered

    abbrev key_of : Point → ℕ
    key_of = K.key

    under : (p : Point) (i : ℕ) → Occurs C p → Act C key_of p i → Under C p i
    under p i o a = (a.0, less_no K p (min i) o (min_occurs C i a.0) a.1, less_yes K p (max i) o (max_occurs C i a.0) a.2)

    hit : (p c : Point) (i j : ℕ) → Occurs C p → Occurs C c → i < n → j < n → i ≢ j → CrossBetween C p c i j → Hit C key_of p c i j
    hit p c i j o oc hi hj ne s = let x = crossing_in i j hi hj ne s.0 in (s.0, less_true K p (crossing i j) o x s.1, less_true K (crossing i j) c x oc s.2)

    differ : (p : Point) (i j : ℕ) → before p i j ≡ true → i ≢ j
    differ p i j e d = clash {b = before p j j} (rw d at e) (G.before_irr p j)

    pub ranked : Ranked
    ranked =
        record {
          On = G.On;
          Aligned = G.Aligned;
          keyed = K;
          min_max = λ i h. less_true K (min i) (max i) (min_occurs C i h) (max_occurs C i h) (G.min_max i h);
          on_min = G.on_min;
          on_max = G.on_max;
          on_range = λ i p h o on. let r = G.on_range i p h o on in (less_false K p (min i) o (min_occurs C i h) r.0, less_false K (max i) p (max_occurs C i h) o r.1);
          contains_on = G.contains_on;
          on_contains = λ i p h o on a b. G.on_contains i p h o on (less_yes K (min i) p (min_occurs C i h) o a) (less_yes K p (max i) o (max_occurs C i h) b);
          test_sym = G.test_sym;
          crossing_occurs = crossing_in;
          crossing_sym = G.crossing_sym;
          crossing_on = G.crossing_on;
          crossing_only = G.crossing_only;
          crossing_not_aligned = G.crossing_not_aligned;
          contains_crosses = G.contains_crosses;
          overlap_on = G.overlap_on;
          aligned_dec = G.aligned_dec;
          aligned_trans = G.aligned_trans;
          before_irr = G.before_irr;
          before_trans = λ p o i j k a b c. G.before_trans p o i j k (under p i o a) (under p j o b) (under p k o c);
          before_total = λ p o i j a b. G.before_total p o i j (under p i o a) (under p j o b);
          squeeze = λ p c o oc pc i k j a b d ci ck cj e f oi oj.
              ⊎_elim
              (λ h. inl h)
              (λ h. inr (⊎_elim
              (λ s. inl (hit p c i k o oc a.0 b.0 (differ p i k e) s))
              (λ s. inr (hit p c k j o oc b.0 d.0 (differ p k j f) s))
              h))
              (G.squeeze p c o oc (less_yes K p c o oc pc) i k j (under p i o a) (under p k o b) (under p j o d)
              (less_yes K c (max i) oc (max_occurs C i a.0) ci) (less_yes K c (max k) oc (max_occurs C k b.0) ck) (less_yes K c (max j) oc (max_occurs C j d.0) cj) e f oi oj);
        }

    -- the same points lie on a piece
    pub ranked_on : {i : ℕ} {p : Point} → ranked.On i p → G.On i p
    unfolding ranked
    ranked_on o = o

    pub on_ranked : {i : ℕ} {p : Point} → G.On i p → ranked.On i p
    unfolding ranked
    on_ranked o = o
