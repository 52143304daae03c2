-- When the arrays of a step agree with the state of `sweep`, and what an order of points has to keep for that.
use Rattle.std.specs.Prelude.{◌≡◌, ◌≢◌, true, false, cond, List, ◌++◌, map, ℕ, ◌+◌, ◌*◌, ◌≤◌, ◌<◌, length, drop}
use mathlib.Core.List.{Memᴰ as In}
use Rattle.std.proofs.Math.Option.{some}
use Rattle.charts.specs.Chart.{most}
-- the bytes of a list of pairs; here `bytes` are those lent
unfoldable pub use Rattle.charts.specs.PairList.{bytes as flat}
use Rattle.sweep.specs.Lists.{Pair, among, Pairwise}
use Rattle.sweep.specs.Chart.{crosses, Chart, kind, at}
use Rattle.sweep.specs.Sought.{all}
use Rattle.sweep.specs.State.{Marks, State}
use Rattle.sweep.specs.Queue.{beyond}
use Rattle.sweep.specs.Demand.{Pieces}
use Rattle.ported_arrays.specs.Numbers.{cell, end_of}
use Rattle.ported_arrays.specs.Ledger.{Ledger, mark}
use Rattle.ported_arrays.specs.Event.{Sheet}

-- 0 free, 1 waiting, 2 listed
unfoldable pub mark_of : Marks → Pair → ℕ
mark_of m q = cond (among q m.listed) 2 (cond (among q m.waiting) 1 0)

module _ (C : Chart) where
  open C use {Point, less, n, min, max, before}

  -- the ends and the crossings are in a strict order, two of which neither is less are one; so are pieces at a point
  pub record Ordered : Type 1 where
    pub Fit : Point → Type 0
    pub fit_min : (i : ℕ) → i < n → Fit (min i)
    pub fit_max : (i : ℕ) → i < n → Fit (max i)
    pub fit_at : (q : Pair) → Pieces C q → kind C q ≡ crosses → Fit (at C q)
    pub less_irr : (p : Point) → Fit p → less p p ≡ false
    pub less_trans : (p q r : Point) → Fit p → Fit q → Fit r → less p q ≡ true → less q r ≡ true → less p r ≡ true
    pub less_same : (p q : Point) → Fit p → Fit q → less p q ≡ false → less q p ≡ false → p ≡ q
    pub before_trans : (p : Point) → Fit p → (i j k : ℕ) → i < n → j < n → k < n
        → before p i j ≡ true → before p j k ≡ true → before p i k ≡ true
    pub before_total : (p : Point) → Fit p → (i j : ℕ) → i < n → j < n → i ≢ j → before p i j ≡ false → before p j i ≡ true

  -- pairs of pieces, each once
  pub record Once (l : List Pair) : Type 0 where
    pub pieces : (q : Pair) → In q l → Pieces C q
    pub once : Pairwise (λ q r. q ≢ r) l

  -- there is a place in the arrays for every pair, and in the lent bytes for all of them
  pub record Room (places : ℕ) (lent : List ℕ) : Type 0 where
    pub few : n ≤ most
    pub waits : length (all C) ≤ places
    pub lists : length (flat (all C)) ≤ length lent

  -- the ledger holds the marks of the state, over the bytes that were lent
  pub record Holds (places : ℕ) (lent : List ℕ) (s : Ledger) (m : Marks) : Type 0 where
    pub waiting_is : s.waiting ≡ map cell m.waiting
    pub spare_is : s.spare + length m.waiting ≡ places
    pub bytes_are : s.bytes ≡ flat m.listed ++ drop (length (flat m.listed)) lent
    pub end_is : s.end ≡ length (flat m.listed)
    pub marks_long : length s.marks ≡ most * most
    pub marks_are : (q : Pair) → Pieces C q → mark s q ≡ mark_of m q
    pub waiting_once : Once m.waiting
    pub waiting_cross : (q : Pair) → In q m.waiting → kind C q ≡ crosses
    pub waiting_up : Pairwise (λ q r. less (at C r) (at C q) ≡ false) m.waiting
    pub listed_once : Once m.listed

  -- the sheet is the state: its ends are those left in the queue; pieces that are active or wait have begun
  pub record Agrees (O : Ordered) (places : ℕ) (lent : List ℕ) (a : Sheet C) (s : State C) : Type 0 where
    pub active_is : a.active ≡ s.active
    pub active_below : (i : ℕ) → In i s.active → i < n
    pub active_once : Pairwise (λ i j. i ≢ j) s.active
    pub active_begun : (i : ℕ) → In i s.active → beyond C s.last (min i) ≡ false
    pub ends_in : (e : ℕ) → e < 2 * n → beyond C s.last (end_of C e) ≡ true → In e a.ends
    pub ends_out : (e : ℕ) → In e a.ends → (e < 2 * n) × (beyond C s.last (end_of C e) ≡ true)
    pub ends_up : Pairwise (λ e f. less (end_of C f) (end_of C e) ≡ false) a.ends
    pub holds : Holds places lent a.ledger s.marks
    pub waiting_beyond : (q : Pair) → In q s.marks.waiting → beyond C s.last (at C q) ≡ true
    pub waiting_begun : (q : Pair) → In q s.marks.waiting
        → (beyond C s.last (min q.0) ≡ false) × (beyond C s.last (min q.1) ≡ false)
    pub last_is : a.last ≡ s.last
    pub last_fit : (p : Point) → s.last ≡ some p → O.Fit p
    pub steps_are : a.steps ≡ s.steps
