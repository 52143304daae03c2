-- Marks that are fair on any chart: listing and examining list a pair once, only where it meets, and only ahead does one
-- wait.
use mathlib.Core.Path.{◌≡◌, refl, sym, ◌∙◌, subst}
use mathlib.Core.Logic.{◌⊎◌, inl, inr, ⊎_elim, ◌≢◌}
use mathlib.Core.Bool.{Bool, true, false, cond, ◌&&◌, ◌||◌, not}
use mathlib.Core.List.Memᴰ
use mathlib.Core.List.{List, [], ◌∷◌}
use mathlib.Core.List.Memᴰ.{head as here}
use mathlib.Core.List.Memᴰ.{tail as there}
use mathlib.Core.List.{Memᴰ as In}
use Prim.Native.Nat.{ℕ, suc, ◌≤◌, ◌<◌}
use native.Mathlib.Omega.{arith}
use Rattle.sweep.specs.Lists.{Pair, among, Pairwise}
use Rattle.sweep.specs.Chart.{Kind, nothing, crosses, overlaps, Chart, meets, kind, at}
use Rattle.sweep.specs.State.{Marks}
use Rattle.sweep.specs.Step.{list, each, wait, report, examine_free, examine}
use Rattle.sweep.specs.Geometry.{Occurs, PointsOrdered}
use Rattle.sweep.specs.Demand.{Pieces}
use Rattle.sweep.proofs.Tests.{ask, clash, and_both, neither, not_true}
use Rattle.sweep.proofs.Lists.{pairwise_append}
use Rattle.sweep.proofs.Sorting.{place_out}
use Rattle.sweep.proofs.Pairs.{among_in}
use Rattle.sweep.proofs.Occurring.{at_occurs}
use Rattle.sweep.proofs.Ranked.{Keyed, keys, less_true}
use Rattle.sweep.proofs.First.{two_meet}

module _ (C : Chart) where
  -- listing leaves the waiting pairs alone
  report_wait : (q : Pair) (m : Marks) → (report C q m).waiting ≡ m.waiting
  unfolding report list
  report_wait q m = go (not (among q m.listed) && meets (kind C q))
    where
      go : (b : Bool) → (cond b (list q m) m).waiting ≡ m.waiting
      go true = refl
      go false = refl

  pub reports_wait : (l : List Pair) (m : Marks) → (each (report C) l m).waiting ≡ m.waiting
  unfolding each
  reports_wait [] m = refl
  reports_wait (q ∷ l) m = reports_wait l (report C q m) ∙ report_wait q m

module _ (C : Chart) (O : PointsOrdered C) where
  open C use {Point, less, n, min, max, before}

  abbrev pub K : Keyed C
  K = keys C O

  abbrev pub key : Point → ℕ
  key = K.key

  -- pairs of pieces, each listed once and only where they meet; those that wait cross at t or later, and had begun before
  pub record Fair (t : ℕ) (m : Marks) : Type 0 where
    pub only : (q : Pair) → In q m.listed → Pieces C q × (meets (kind C q) ≡ true)
    pub once : Pairwise (λ q r. q ≢ r) m.listed
    pub ahead : (q : Pair) → In q m.waiting → Pieces C q × (kind C q ≡ crosses) × (t ≤ key (at C q)) × (key (min q.0) < t) × (key (min q.1) < t)

  pub each_fair : (t : ℕ) (f : Pair → Marks → Marks) (Ok : Pair → Type 0) → ((q : Pair) (m : Marks) → Ok q → Fair t m → Fair t (f q m))
      → (l : List Pair) (m : Marks) → ((q : Pair) → In q l → Ok q) → Fair t m → Fair t (each f l m)
  unfolding each
  each_fair t f Ok h [] m ok F = F
  each_fair t f Ok h (q ∷ l) m ok F = each_fair t f Ok h l (f q m) (λ r k. ok r (there k)) (h q m (ok q (here refl)) F)

  list_fair : (t : ℕ) (q : Pair) (m : Marks) → Pieces C q → meets (kind C q) ≡ true → among q m.listed ≡ false → Fair t m → Fair t (list q m)
  unfolding list
  list_fair t q m v e a F =
      record {
        only = λ r h. new r (Memᴰ.append_cases m.listed h);
        once = pairwise_append (λ q r. q ≢ r) m.listed (q ∷ []) F.once (λ r h. elim h [ ], tt) (λ x y h k. apart x y h k);
        ahead = F.ahead;
      }
    where
      new : (r : Pair) → In r m.listed ⊎ In r (q ∷ []) → Pieces C r × (meets (kind C r) ≡ true)
      new r (inl h) = F.only r h
      new r (inr (here d)) = rw d (v, e)
      new r (inr (there h)) = elim h [ ]

      apart : (x y : Pair) → In x m.listed → In y (q ∷ []) → x ≢ y
      apart x y h (here d) g = clash (among_in (rw (g ∙ d) at h)) a
      apart x y h (there k) g = elim k [ ]

  wait_fair : (t : ℕ) (q : Pair) (m : Marks) → Pieces C q → kind C q ≡ crosses → t ≤ key (at C q) → key (min q.0) < t → key (min q.1) < t → Fair t m → Fair t (wait C q m)
  unfolding wait
  wait_fair t q m v e l a b F = record { only = F.only; once = F.once; ahead = λ r h. new r (place_out _ q m.waiting h) }
    where
      new : (r : Pair) → In r (q ∷ m.waiting) → Pieces C r × (kind C r ≡ crosses) × (t ≤ key (at C r)) × (key (min r.0) < t) × (key (min r.1) < t)
      new r (here d) = rw d (v, e, l, a, b)
      new r (there h) = F.ahead r h

  pub report_fair : (t : ℕ) (q : Pair) (m : Marks) → Pieces C q → Fair t m → Fair t (report C q m)
  unfolding report
  report_fair t q m v F =
      ⊎_elim
      (λ (e : (not (among q m.listed) && meets (kind C q)) ≡ true).
      let r = and_both (not (among q m.listed)) (meets (kind C q)) e in
      subst (Fair t) (sym (chosen e)) (list_fair t q m v r.1 (not_true _ r.0) F))
      (λ (e : (not (among q m.listed) && meets (kind C q)) ≡ false). subst (Fair t) (sym (passed e)) F)
      (ask (not (among q m.listed) && meets (kind C q)))
    where
      chosen : (not (among q m.listed) && meets (kind C q)) ≡ true → report C q m ≡ list q m
      chosen e = rw e

      passed : (not (among q m.listed) && meets (kind C q)) ≡ false → report C q m ≡ m
      passed e = rw e

  -- both pieces have begun by p
  abbrev pub Begun : Point → Pair → Type 0
  Begun p q = Pieces C q × (key (min q.0) ≤ key p) × (key (min q.1) ≤ key p)

  pub examine_fair : (p : Point) → Occurs C p → (q : Pair) (m : Marks) → Begun p q → Fair (suc (key p)) m → Fair (suc (key p)) (examine C p q m)
  examine_fair p op q m b F =
      ⊎_elim
      (λ (e : (among q m.listed || among q m.waiting) ≡ true). subst (Fair (suc (key p))) (sym (skipped e)) F)
      (λ (e : (among q m.listed || among q m.waiting) ≡ false).
      subst (Fair (suc (key p))) (sym (looked e)) (free (neither (among q m.listed) (among q m.waiting) e).0 (kind C q) refl))
      (ask (among q m.listed || among q m.waiting))
    where
      skipped : (among q m.listed || among q m.waiting) ≡ true → examine C p q m ≡ m
      skipped e = unfold examine in rw e

      looked : (among q m.listed || among q m.waiting) ≡ false → examine C p q m ≡ examine_free C p (kind C q) q m
      looked e = unfold examine in rw e

      waits : less p (at C q) ≡ true → examine_free C p crosses q m ≡ wait C q m
      waits e = unfold examine_free in rw e

      lists : less p (at C q) ≡ false → examine_free C p crosses q m ≡ list q m
      lists e = unfold examine_free in rw e

      free : among q m.listed ≡ false → (k : Kind) → kind C q ≡ k → Fair (suc (key p)) (examine_free C p k q m)
      free a nothing e = unfold examine_free in F
      free a overlaps e = unfold examine_free in list_fair (suc (key p)) q m b.0 (two_meet (kind C q) (inr e)) a F
      free a crosses e =
          ⊎_elim
          (λ (l : less p (at C q) ≡ true).
          subst (Fair (suc (key p))) (sym (waits l))
          (wait_fair (suc (key p)) q m b.0 e (less_true C K p (at C q) op (at_occurs C q b.0 e) l) (omega arith) (omega arith) F))
          (λ (l : less p (at C q) ≡ false). subst (Fair (suc (key p))) (sym (lists l)) (list_fair (suc (key p)) q m b.0 (two_meet (kind C q) (inl e)) a F))
          (ask (less p (at C q)))
