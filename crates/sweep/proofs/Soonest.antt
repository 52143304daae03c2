-- The next point p of a sweep, of whichever mode: a piece on p starts there, finishes there, or is active and contains it.
use mathlib.Core.Path.{◌≡◌, refl, ap}
use mathlib.Core.Logic.{◌⊎◌, inl, inr, ⊎_elim, ◌≢◌, by_cases}
use mathlib.Core.Bool.{Bool, true, false, ◌&&◌}
use mathlib.Core.Option.{Option, none, some}
use mathlib.Core.List.{List}
use mathlib.Core.List.{Memᴰ as In}
use Prim.Native.Nat.{ℕ, ◌≤◌, ◌<◌}
use native.Mathlib.Omega.{arith}
use native.Mathlib.Decide.{dec_lt, ℕ_discrete}
use lib.Dec.{eqb}
use Rattle.sweep.specs.Lists.{any}
use Rattle.sweep.specs.Chart.{Chart}
use Rattle.sweep.specs.Queue.{beyond}
use Rattle.sweep.specs.Step.{starts, finishes}
use Rattle.sweep.specs.Geometry.{Occurs}
use Rattle.sweep.proofs.Tests.{and_both, eqb_yes}
use Rattle.sweep.proofs.Lists.{any_in}
use Rattle.sweep.proofs.Occurring.{min_occurs, max_occurs}
use Rattle.sweep.proofs.Ranked.{Act, Ranked, less_true, less_yes, same_yes, same_true, same_false, same_no}
use Rattle.sweep.proofs.Between.{which, bound, bound_none, bound_some, Lined, Soonest}

module _ (C : Chart) (F : Ranked C) (active : List ℕ) (last : Option C.Point) (L : Lined C F active last) where
  open C use {Point, n, min, max, contains}
  open F.keyed use {key}

  pub beyond_yes : (p : Point) → Occurs C p → bound key last ≤ key p → beyond C last p ≡ true
  unfolding beyond
  beyond_yes p o b =
      ⊎_elim
      (λ (e : last ≡ none). rw e)
      (λ (e : (l : Point) × (last ≡ some l)).
      rw e.1 (less_yes C F.keyed e.0 p (L.last_occurs e.0 e.1) o (omega (arith, ap (bound key) e.1, bound_some key e.0))))
      (which last)

  pub beyond_true : (p : Point) → Occurs C p → beyond C last p ≡ true → bound key last ≤ key p
  unfolding beyond
  beyond_true p o h =
      ⊎_elim
      (λ (e : last ≡ none). omega (arith, ap (bound key) e, bound_none key))
      (λ (e : (l : Point) × (last ≡ some l)).
      omega (arith, ap (bound key) e.1, bound_some key e.0, less_true C F.keyed e.0 p (L.last_occurs e.0 e.1) o (rw e.1 at h)))
      (which last)

  module _ (p : Point) (N : Soonest C F last p) where
    pub no_min : (i : ℕ) → i < n → bound key last ≤ key (min i) → key p ≤ key (min i)
    no_min i h b = N.least (min i) (min_occurs C i h) b

    pub no_max : (i : ℕ) → i < n → bound key last ≤ key (max i) → key p ≤ key (max i)
    no_max i h b = N.least (max i) (max_occurs C i h) b

    abbrev pub inside : ℕ → Bool
    inside i = any (eqb i) active && contains i p

    pub starts_on : (i : ℕ) → i < n → starts C p i ≡ true → F.On i p
    unfolding starts
    starts_on i h a =
        rw (← F.keyed.key_inj (min i) p (min_occurs C i h) N.occurs (same_true C F.keyed (min i) p (min_occurs C i h) N.occurs a)) (F.on_min i h)

    pub finishes_on : (i : ℕ) → i < n → finishes C p i ≡ true → F.On i p
    unfolding finishes
    finishes_on i h a =
        rw (← F.keyed.key_inj (max i) p (max_occurs C i h) N.occurs (same_true C F.keyed (max i) p (max_occurs C i h) N.occurs a)) (F.on_max i h)

    pub inside_on : (i : ℕ) → i < n → inside i ≡ true → F.On i p
    inside_on i h a = F.contains_on i p h N.occurs (and_both (any (eqb i) active) (contains i p) a).1

    -- a piece that has begun and not ended before p is active
    pub begun_in : (i : ℕ) → i < n → key (min i) < key p → key p ≤ key (max i) → In i active
    begun_in i h a b =
        let u = N.new in
        by_cases (dec_lt (key (min i)) (bound key last))
        (λ (g : key (min i) < bound key last). L.active_in i h g (omega arith))
        (λ (g : ¬ (key (min i) < bound key last)). absurd (omega (arith, no_min i h (omega arith))))

    pub on_cases : (i : ℕ) → i < n → F.On i p → (starts C p i ≡ true) ⊎ ((finishes C p i ≡ true) ⊎ (inside i ≡ true))
    unfolding starts finishes
    on_cases i h o =
        let r = F.on_range i p h N.occurs o in
        by_cases (ℕ_discrete (key (min i)) (key p))
        (λ (e : key (min i) ≡ key p). inl (same_yes C F.keyed (min i) p (min_occurs C i h) N.occurs e))
        (λ (e : key (min i) ≢ key p).
        inr
        (by_cases (ℕ_discrete (key (max i)) (key p))
        (λ (d : key (max i) ≡ key p). inl (same_yes C F.keyed (max i) p (max_occurs C i h) N.occurs d))
        (λ (d : key (max i) ≢ key p).
        inr (rw (any_in (eqb i) (begun_in i h (omega arith) (omega arith)) (eqb_yes i i refl)) (F.on_contains i p h N.occurs o (omega arith) (omega arith))))))

    -- who is under the sweep at p: the active pieces that do not finish there, and those that start there
    pub goes_on : (i : ℕ) → In i active → finishes C p i ≡ false → Act C key p i
    unfolding finishes
    goes_on i m e =
        let o = L.active_out i m in
        let u = N.new in
        let ne = same_false C F.keyed (max i) p (max_occurs C i o.0) N.occurs e in
        (o.0, omega arith, omega (arith, no_max i o.0 o.2))

    pub starts_act : (i : ℕ) → i < n → starts C p i ≡ true → Act C key p i
    unfolding starts
    starts_act i h e = let d = same_true C F.keyed (min i) p (min_occurs C i h) N.occurs e in (h, omega arith, omega (arith, F.min_max i h))

    pub act_late : (i : ℕ) → Act C key p i → finishes C p i ≡ false
    unfolding finishes
    act_late i a = same_no C F.keyed (max i) p (max_occurs C i a.0) N.occurs (omega arith)

    pub act_cases : (i : ℕ) → Act C key p i → (starts C p i ≡ true) ⊎ In i active
    unfolding starts
    act_cases i a =
        by_cases (ℕ_discrete (key (min i)) (key p))
        (λ (e : key (min i) ≡ key p). inl (same_yes C F.keyed (min i) p (min_occurs C i a.0) N.occurs e))
        (λ (e : key (min i) ≢ key p). inr (begun_in i a.0 (omega arith) (omega arith)))

    -- whoever starts was not active
    pub starts_apart : (i j : ℕ) → In i active → j < n → starts C p j ≡ true → i ≢ j
    unfolding starts
    starts_apart i j m h e d =
        let u = N.new in
        omega (arith, L.active_out i m, same_true C F.keyed (min j) p (min_occurs C j h) N.occurs e, ap (λ (x : ℕ). key (min x)) d)
