-- What holds between two steps of a sweep, of whichever mode: who is active and what is listed; and why then no crossing
-- is missed.
use mathlib.Core.Path.{◌≡◌, refl, sym, ap, ◌∙◌}
use mathlib.Core.Logic.{◌⊎◌, inl, inr, ⊎_elim, ◌≢◌, by_cases}
use mathlib.Core.Bool.{true}
use mathlib.Core.Option.{Option, none, some}
use mathlib.Core.List.{List, []}
use mathlib.Core.List.{Memᴰ as In}
use Prim.Native.Nat.{ℕ, zero, suc, ◌≤◌, ◌<◌}
use native.Mathlib.Omega.{arith}
use native.Mathlib.Decide.{dec_lt}
use Rattle.sweep.specs.Lists.{Pair, lesser_first, adjacent, Pairwise}
use Rattle.sweep.specs.Chart.{crosses, Chart, meets, kind, at}
use Rattle.sweep.specs.Sought.{first}
use Rattle.sweep.specs.Geometry.{Occurs}
use Rattle.sweep.specs.Demand.{Pieces}
use Rattle.sweep.proofs.Occurring.{End, Crossing, occurs_out}
use Rattle.sweep.proofs.Ranked.{Ranked}
use Rattle.sweep.proofs.Neighbours.{CrossAt, neighbours}
use Rattle.sweep.proofs.First.{pair_kind, pair_at_lem}

pub which : {A : Type 0} (o : Option A) → (o ≡ none) ⊎ ((a : A) × (o ≡ some a))
which none = inl refl
which (some a) = inr (a, refl)

-- keys below the bound are done: none before the first step, then all up to the last point
unfoldable pub bound : {P : Type 0} → (P → ℕ) → Option P → ℕ
bound key none = 0
bound key (some p) = suc (key p)

pub bound_none : {P : Type 0} (key : P → ℕ) → bound key none ≡ 0
unfolding bound
bound_none key = refl

pub bound_some : {P : Type 0} (key : P → ℕ) (p : P) → bound key (some p) ≡ suc (key p)
unfolding bound
bound_some key p = refl

module _ (C : Chart) (F : Ranked C) where
  open C use {Point, n, min, max, test, crossing, before}
  open F.keyed use {key}

  -- the pairs listed are those that met below t
  pub record Met (t : ℕ) (listed : List Pair) : Type 0 where
    pub met : (q : Pair) → In q listed → Pieces C q × (meets (kind C q) ≡ true) × (key (first C q) < t)
    pub full : (q : Pair) → Pieces C q → meets (kind C q) ≡ true → key (first C q) < t → In q listed

  -- the active pieces are those that have begun and not ended, each once, in order
  pub record Lined (active : List ℕ) (last : Option Point) : Type 0 where
    pub last_occurs : (p : Point) → last ≡ some p → Occurs C p
    pub active_out : (i : ℕ) → In i active → (i < n) × (key (min i) < bound key last) × (bound key last ≤ key (max i))
    pub active_in : (i : ℕ) → i < n → key (min i) < bound key last → bound key last ≤ key (max i) → In i active
    pub line : (p : Point) → last ≡ some p → Pairwise (λ i j. before p i j ≡ true) active
    pub once : Pairwise (λ i j. i ≢ j) active

  -- p is the least point that is left
  pub record Soonest (last : Option Point) (p : Point) : Type 0 where
    pub occurs : Occurs C p
    pub new : bound key last ≤ key p
    pub least : (x : Point) → Occurs C x → bound key last ≤ key x → key p ≤ key x

  -- before the first step
  pub lined_none : Lined [] none
  unfolding bound
  lined_none =
      record {
        last_occurs = λ p e. let z : ◌≡◌ {A = ℕ} 0 1 = cc in absurd (omega arith);
        active_out = λ i m. elim m [ ];
        active_in = λ i h a b. absurd (omega arith);
        line = λ p e. tt;
        once = tt;
      }

  pub met_none : Met (bound key none) []
  unfolding bound
  met_none = record { met = λ q m. elim m [ ]; full = λ q v e h. absurd (omega arith) }

  -- from the bound up to z there is no end and no crossing of neighbours: then there is no point at all
  module _ (active : List ℕ) (last : Option Point) (L : Lined active last) (z : ℕ)
      (no_min : (i : ℕ) → i < n → bound key last ≤ key (min i) → z ≤ key (min i))
      (no_max : (i : ℕ) → i < n → bound key last ≤ key (max i) → z ≤ key (max i))
      (no_beside : (q : Pair) → In q (adjacent active) → kind C q ≡ crosses → bound key last ≤ key (at C q) → z ≤ key (at C q)) where
    -- a piece through a point c in between is active
    under : (i : ℕ) (c : Point) → i < n → Occurs C c → F.On i c → bound key last ≤ key c → key c < z → (key (min i) < bound key last) × (bound key last ≤ key (max i))
    under i c hi oc on b k =
        let r = F.on_range i c hi oc on in (
          by_cases (dec_lt (key (min i)) (bound key last))
              (λ (h : key (min i) < bound key last). h)
              (λ (h : ¬ (key (min i) < bound key last)). absurd (omega (arith, no_min i hi (omega arith)))),
          omega arith,
        )

    -- no neighbours cross at c
    pair_absurd : (p c : Point) → bound key last ≤ key c → key c < z → CrossAt C F p c (adjacent active) → ⊥
    pair_absurd p c b k r =
        let q : Pair = lesser_first r.a r.b in
        let kd : kind C q ≡ crosses = pair_kind C F r.a r.b r.a_in r.b_in r.apart ∙ r.meet in
        let ca : key (at C q) ≡ key c = ap key (pair_at_lem C F r.a r.b r.a_in r.b_in r.apart r.meet ∙ sym r.there_at) in
        omega (arith, no_beside q r.member kd (omega arith))

    -- by induction on the key of the crossing: the least one left is a crossing of neighbours
    quiet : (f i j : ℕ) → i < n → j < n → i ≢ j → test i j ≡ crosses → key (crossing i j) < f → bound key last ≤ key (crossing i j) → key (crossing i j) < z → ⊥
    quiet zero i j hi hj ne k hf hb hz = omega arith
    quiet (suc f) i j hi hj ne k hf hb hz =
        let on = F.crossing_on i j hi hj ne k in
        let oc = F.crossing_occurs i j hi hj ne k in
        let ui = under i (crossing i j) hi oc on.0 hb hz in
        let uj = under j (crossing i j) hj oc on.1 hb hz in
        ⊎_elim
        (λ (e : last ≡ none). omega (arith, ap (bound key) e, bound_none key))
        (λ (e : (p : Point) × (last ≡ some p)).
        let p : Point = e.0 in
        let bp : bound key last ≡ suc (key p) = ap (bound key) e.1 ∙ bound_some key p in
        pair_absurd p (crossing i j) hb hz
        (neighbours C F p (crossing i j) (L.last_occurs p e.1) oc (omega arith)
        (λ x y hx hy d h. quiet f x y hx hy d h.0 (omega (arith, h)) (omega (arith, h)) (omega (arith, h)))
        active i j
        (λ x m. let o = L.active_out x m in ((o.0, omega arith, omega arith), omega (arith, no_max x o.0 o.2)))
        (L.line p e.1) (L.active_in i hi ui.0 ui.1) (L.active_in j hj uj.0 uj.1) ne on.0 on.1
        (F.crossing_not_aligned i j hi hj ne k)
        (F.crossing_not_aligned j i hj hi (λ d. ne (sym d)) (sym (F.test_sym i j hi hj ne) ∙ k))))
        (which last)

    no_crossing : (q : Pair) → Pieces C q → kind C q ≡ crosses → bound key last ≤ key (at C q) → z ≤ key (at C q)
    no_crossing q v k hb =
        by_cases (dec_lt (key (at C q)) z)
        (λ (h : key (at C q) < z). absurd (quiet (suc (key (at C q))) q.0 q.1 (omega arith) v.1 (omega arith) k (omega arith) hb h))
        (λ (h : ¬ (key (at C q) < z)). omega arith)

    pub no_point : (x : Point) → Occurs C x → bound key last ≤ key x → z ≤ key x
    no_point x o b = go (occurs_out C o)
      where
        go : End C x ⊎ Crossing C x → z ≤ key x
        go (inl (i, h, inl e)) = rw e (no_min i h (rw e at b))
        go (inl (i, h, inr e)) = rw e (no_max i h (rw e at b))
        go (inr (q, u, c, e)) = rw e (no_crossing q u c (rw e at b))
