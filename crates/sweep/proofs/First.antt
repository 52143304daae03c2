-- The first common point of a pair that meets: it lies on both pieces, and no other such point comes before it.
use mathlib.Core.Path.{◌≡◌, refl, sym, ap, ◌∙◌}
use mathlib.Core.Logic.{◌⊎◌, inl, inr, ⊎_elim, ◌≢◌}
use mathlib.Core.Bool.{true, false, ◌&&◌}
use mathlib.Core.List.{Memᴰ as In}
use Prim.Native.Nat.{ℕ, ◌≤◌, ◌<◌}
use native.Mathlib.Omega.{arith}
use Rattle.sweep.specs.Lists.{Pair, lesser_first}
use Rattle.sweep.specs.Chart.{Kind, nothing, crosses, overlaps, Chart, meets, same, kind, at}
use Rattle.sweep.specs.Sought.{all, later, first_by, first, pairs_at}
use Rattle.sweep.specs.Geometry.{Occurs}
use Rattle.sweep.specs.Demand.{Pieces}
use Rattle.sweep.proofs.Tests.{ask, clash, and_both}
use Rattle.sweep.proofs.Lists.{keep_in, keep_out}
use Rattle.sweep.proofs.Pairs.{lesser_two}
use Rattle.sweep.proofs.Occurring.{all_in, all_out, min_occurs, at_occurs}
use Rattle.sweep.proofs.Ranked.{Ranked, less_true, less_false, same_yes, same_true}

pub kind_cases : (k : Kind) → (k ≡ nothing) ⊎ ((k ≡ crosses) ⊎ (k ≡ overlaps))
kind_cases nothing = inl refl
kind_cases crosses = inr (inl refl)
kind_cases overlaps = inr (inr refl)

pub meets_two : (k : Kind) → meets k ≡ true → (k ≡ crosses) ⊎ (k ≡ overlaps)
unfolding meets
meets_two nothing e = clash e refl
meets_two crosses e = inl refl
meets_two overlaps e = inr refl

pub two_meet : (k : Kind) → (k ≡ crosses) ⊎ (k ≡ overlaps) → meets k ≡ true
unfolding meets
two_meet k (inl e) = rw e
two_meet k (inr e) = rw e

module _ (C : Chart) where
  open C use {Point, less, n, min, test, crossing}

  pub first_crosses : (q : Pair) → kind C q ≡ crosses → first C q ≡ at C q
  unfolding first first_by
  first_crosses q e = rw e

  pub first_overlaps : (q : Pair) → kind C q ≡ overlaps → first C q ≡ later C (min q.0) (min q.1)
  unfolding first first_by
  first_overlaps q e = rw e

  module _ (F : Ranked C) where
    open F.keyed use {key}

    -- a pair of pieces, whichever comes first
    pub pair_kind : (a b : ℕ) → a < n → b < n → a ≢ b → kind C (lesser_first a b) ≡ test a b
    pair_kind a b ha hb ne =
        ⊎_elim
        (λ (e : lesser_first a b ≡ (a, b)). rw e)
        (λ (e : lesser_first a b ≡ (b, a)). rw e (sym (F.test_sym a b ha hb ne)))
        (lesser_two a b)

    pub pair_at_lem : (a b : ℕ) → a < n → b < n → a ≢ b → test a b ≡ crosses → at C (lesser_first a b) ≡ crossing a b
    pair_at_lem a b ha hb ne k =
        ⊎_elim
        (λ (e : lesser_first a b ≡ (a, b)). rw e)
        (λ (e : lesser_first a b ≡ (b, a)). rw e (sym (F.crossing_sym a b ha hb ne k)))
        (lesser_two a b)

    pub later_two : (p q : Point) → Occurs C p → Occurs C q → ((later C p q ≡ p) ⊎ (later C p q ≡ q)) × (key p ≤ key (later C p q)) × (key q ≤ key (later C p q))
    unfolding later
    later_two p q a b =
        ⊎_elim
        (λ (e : less p q ≡ true). rw (e, later) (inr refl, omega (arith, less_true C F.keyed p q a b e), omega arith))
        (λ (e : less p q ≡ false). rw (e, later) (inl refl, omega arith, omega (arith, less_false C F.keyed p q a b e)))
        (ask (less p q))

    -- the first common point of an overlap is one of the two mins
    pub first_min : (q : Pair) → Pieces C q → kind C q ≡ overlaps → (first C q ≡ min q.0) ⊎ (first C q ≡ min q.1)
    first_min q v k =
        ⊎_elim
        (λ (g : later C (min q.0) (min q.1) ≡ min q.0). inl (first_overlaps q k ∙ g))
        (λ (g : later C (min q.0) (min q.1) ≡ min q.1). inr (first_overlaps q k ∙ g))
        (later_two (min q.0) (min q.1) (min_occurs C q.0 (omega arith)) (min_occurs C q.1 v.1)).0

    pub first_on : (q : Pair) → Pieces C q → meets (kind C q) ≡ true → F.On q.0 (first C q) × F.On q.1 (first C q)
    first_on q v e =
        let h : q.0 < n = omega arith in
        let ne : q.0 ≢ q.1 = omega arith in
        ⊎_elim
        (λ (k : kind C q ≡ crosses). rw (first_crosses q k) (F.crossing_on q.0 q.1 h v.1 ne k))
        (λ (k : kind C q ≡ overlaps). rw (first_overlaps q k) (F.overlap_on q.0 q.1 h v.1 ne k))
        (meets_two (kind C q) e)

    pub first_occurs : (q : Pair) → Pieces C q → meets (kind C q) ≡ true → Occurs C (first C q)
    first_occurs q v e =
        ⊎_elim
        (λ (k : kind C q ≡ crosses). rw (first_crosses q k) (at_occurs C q v k))
        (λ (k : kind C q ≡ overlaps).
        ⊎_elim
        (λ (g : first C q ≡ min q.0). rw g (min_occurs C q.0 (omega arith)))
        (λ (g : first C q ≡ min q.1). rw g (min_occurs C q.1 v.1))
        (first_min q v k))
        (meets_two (kind C q) e)

    -- where both pieces pass, they have met
    pub first_least : (q : Pair) (p : Point) → Occurs C p → Pieces C q → meets (kind C q) ≡ true → F.On q.0 p → F.On q.1 p → key (first C q) ≤ key p
    first_least q p o v e a b =
        let h : q.0 < n = omega arith in
        let ne : q.0 ≢ q.1 = omega arith in
        ⊎_elim
        (λ (k : kind C q ≡ crosses). omega (arith, ap key (first_crosses q k), ap key (F.crossing_only q.0 q.1 p h v.1 ne o k a b)))
        (λ (k : kind C q ≡ overlaps).
        ⊎_elim
        (λ (g : first C q ≡ min q.0). omega (arith, ap key g, F.on_range q.0 p h o a))
        (λ (g : first C q ≡ min q.1). omega (arith, ap key g, F.on_range q.1 p v.1 o b))
        (first_min q v k))
        (meets_two (kind C q) e)

    -- the pairs whose first common point is p
    pub pairs_at_in : (p : Point) → Occurs C p → (q : Pair) → Pieces C q → meets (kind C q) ≡ true → key (first C q) ≡ key p → In q (pairs_at C p)
    unfolding pairs_at
    pairs_at_in p o q v e d =
        keep_in (λ q. meets (kind C q) && same C (first C q) p) (all_in C q v) (rw (e, same_yes C F.keyed (first C q) p (first_occurs q v e) o d))

    pub pairs_at_out : (p : Point) → Occurs C p → (q : Pair) → In q (pairs_at C p) → Pieces C q × (meets (kind C q) ≡ true) × (first C q ≡ p)
    unfolding pairs_at
    pairs_at_out p o q m =
        let r = keep_out (λ q. meets (kind C q) && same C (first C q) p) (all C) m in
        let v = all_out C r.0 in
        let e = and_both (meets (kind C q)) (same C (first C q) p) r.1 in
        let f = first_occurs q v e.0 in
        (v, e.0, F.keyed.key_inj (first C q) p f o (same_true C F.keyed (first C q) p f o e.1))
