-- Along the active list the side of the next point never goes back: what lies below it, goes through it and lies above it
-- stand in this order.
use mathlib.Core.Path.{◌≡◌, refl, ap, ◌∙◌}
use mathlib.Core.Logic.{⊎_elim}
use mathlib.Core.Bool.{true, false}
use mathlib.Core.Option.{none, some}
use mathlib.Core.List.{List, [], ◌∷◌, ◌++◌}
use mathlib.Core.List.{Memᴰ as In}
use Prim.Native.Nat.{ℕ}
use native.Mathlib.Omega.{arith}
use Rattle.std.specs.declared.cmp.Ordering.{Ordering}
use Rattle.std.specs.declared.cmp.Ordering.TheVariants.{Less, Equal, Greater}
use Rattle.sweep.specs.Lists.{keep, Pairwise}
use Rattle.sweep.specs.Chart.{Chart}
use Rattle.sweep.specs.Geometry.{Occurs, Under, CrossBetween, Geometry}
use Rattle.sweep.specs.Ported.{is_less, is_equal}
use Rattle.sweep.proofs.Tests.{clash}
use Rattle.sweep.proofs.Lists.{keep_none, pairwise_map}
use Rattle.sweep.proofs.Occurring.{min_occurs, max_occurs}
use Rattle.sweep.proofs.Ranked.{Ranked, ranked, less_true, less_yes, less_no}
use Rattle.sweep.proofs.Between.{which, bound, bound_none, bound_some, Soonest}
use Rattle.sweep.proofs.Soonest.{no_max}
use Rattle.full_steps.specs.Steps.{State, next}
use Rattle.full_steps.specs.InPlace.{is_greater_lem, Sides, InPlaceFacts, below, block, above}
use Rattle.full_steps.proofs.Step.{Inv, next_soonest}

-- ---- three parts by an order that never goes back
pub is_less_lem : (o : Ordering) → is_less o ≡ true → o ≡ Less
is_less_lem Less e = refl
is_less_lem Equal e = clash e refl
is_less_lem Greater e = clash e refl

pub is_equal_lem : (o : Ordering) → is_equal o ≡ true → o ≡ Equal
is_equal_lem Less e = clash e refl
is_equal_lem Equal e = refl
is_equal_lem Greater e = clash e refl

pub is_greater : (o : Ordering) → is_greater_lem o ≡ true → o ≡ Greater
is_greater Less e = clash e refl
is_greater Equal e = clash e refl
is_greater Greater e = refl

-- the side never goes back
abbrev pub Onward : (ℕ → Ordering) → ℕ → ℕ → Type 0
Onward f i j = (f i ≡ Less → f j ≡ Less) × (f j ≡ Greater → f i ≡ Greater)

module _ (f : ℕ → Ordering) where
  abbrev three : List ℕ → List ℕ
  three l = keep (λ i. is_greater_lem (f i)) l ++ (keep (λ i. is_equal (f i)) l ++ keep (λ i. is_less (f i)) l)

  pub split : (l : List ℕ) → Pairwise (Onward f) l → l ≡ three l
  unfolding keep
  split [] u = refl
  split (x ∷ l) u = go (f x) refl (split l u.1)
    where
      none_greater : ¬ (f x ≡ Greater) → keep (λ i. is_greater_lem (f i)) l ≡ []
      none_greater ne = keep_none (λ i. is_greater_lem (f i)) l (λ y m. not_greater (f y) (λ e. ne ((u.0 y m).1 e)))
        where
          not_greater : (o : Ordering) → ¬ (o ≡ Greater) → is_greater_lem o ≡ false
          not_greater Less h = refl
          not_greater Equal h = refl
          not_greater Greater h = absurd (h refl)

      none_equal : f x ≡ Less → keep (λ i. is_equal (f i)) l ≡ []
      none_equal e = keep_none (λ i. is_equal (f i)) l (λ y m. rw ((u.0 y m).0 e))

      go : (o : Ordering) → f x ≡ o → l ≡ three l → x ∷ l ≡ three (x ∷ l)
      go Greater e h = rw e (ap (λ (z : List ℕ). x ∷ z) h)
      go Equal e h =
          let g = none_greater (λ d. let z : ◌≡◌ {A = ℕ} 0 1 = cc in absurd (omega arith)) in
          rw (e, g) (ap (λ (z : List ℕ). x ∷ z) (h ∙ rw g))
      go Less e h =
          let g = none_greater (λ d. let z : ◌≡◌ {A = ℕ} 0 1 = cc in absurd (omega arith)) in
          let k = none_equal e in
          rw (e, g, k) (ap (λ (z : List ℕ). x ∷ z) (h ∙ rw (g, k)))

module _ (C : Chart) (S : Sides C) (G : Geometry C) (A : InPlaceFacts C S G) where
  open C use {Point, less, n, max, min, before}
  open S use {aside}

  abbrev pub F : Ranked C
  F = ranked C G

  open F.keyed use {key}

  module _ (s : State C) (I : Inv C F s) (p : Point) (hp : next C s ≡ some p) where
    abbrev pub N : Soonest C F s.last p
    N = next_soonest C F s I p hp

    -- two pieces that stay in order where they reach beyond p and are not both on it
    abbrev pub Steady : ℕ → ℕ → Type 0
    Steady i j = less p (max i) ≡ true → less p (max j) ≡ true → ¬ ((aside p i ≡ Equal) × (aside p j ≡ Equal)) → before p i j ≡ true

    module _ (l : Point) (e : s.last ≡ some l) where
      ol : Occurs C l
      ol = I.lined.last_occurs l e

      lp : less l p ≡ true
      lp = less_yes C F.keyed l p ol N.occurs (omega (arith, N.new, ap (bound key) e, bound_some key l))

      under : (i : ℕ) → In i s.active → Under C l i
      under i m =
          let o = I.lined.active_out i m in
          let b = ap (bound key) e ∙ bound_some key l in (
            o.0,
            less_no C F.keyed l (min i) ol (min_occurs C i o.0) (omega arith),
            less_yes C F.keyed l (max i) ol (max_occurs C i o.0) (omega arith),
          )

      -- no crossing lies between the last point and the next
      clear : (i j : ℕ) → In i s.active → In j s.active → before l i j ≡ true → ¬ CrossBetween C l p i j
      clear i j a b d c =
          let hi = (I.lined.active_out i a).0 in
          let hj = (I.lined.active_out j b).0 in
          let oc = F.crossing_occurs i j hi hj (λ g. clash {b = before l j j} (rw g at d) (F.before_irr l j)) c.0 in
          omega (
            arith,
            less_true C F.keyed l _ ol oc c.1,
            less_true C F.keyed _ p oc N.occurs c.2,
            N.least _ oc (omega (arith, less_true C F.keyed l _ ol oc c.1, ap (bound key) e, bound_some key l)),
          )

    reach : (i : ℕ) → In i s.active → less (max i) p ≡ false
    reach i m =
        let o = I.lined.active_out i m in
        less_no C F.keyed (max i) p (max_occurs C i o.0) N.occurs (no_max C F s.active s.last I.lined p N i o.0 o.2)

    pub onward : Pairwise (λ i j. Onward (aside p) i j × Steady i j) s.active
    onward =
        ⊎_elim
        (λ (e : s.last ≡ none).
        pairwise_map _ (λ i j. Onward (aside p) i j × Steady i j) s.active
        (λ i j a b h. absurd (omega (arith, I.lined.active_out i a, ap (bound key) e, bound_none key)))
        I.lined.once)
        (λ (e : (l : Point) × (s.last ≡ some l)).
        let l : Point = e.0 in
        pairwise_map _ (λ i j. Onward (aside p) i j × Steady i j) s.active
        (λ i j a b h.
        let u = under l e.1 i a in
        let v = under l e.1 j b in
        let c = clear l e.1 i j a b h in
        let o = ol l e.1 in
        let t = lp l e.1 in (
          (A.below_stays l p o N.occurs t i j u v (reach i a) (reach j b) h c, A.above_stays l p o N.occurs t i j u v (reach i a) (reach j b) h c),
          λ x y w. A.persists l p o N.occurs t i j u v x y h c w,
        ))
        (I.lined.line l e.1))
        (which s.last)

    pub parts : s.active ≡ below C S s.active p ++ (block C S s.active p ++ above C S s.active p)
    unfolding below block above
    parts = split (aside p) s.active (pairwise_map _ (Onward (aside p)) s.active (λ i j a b h. h.0) onward)
