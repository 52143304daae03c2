-- The statements of specs/Demand, kept.
use mathlib.Core.Path.{◌≡◌, refl, sym, ap, subst, ◌∙◌}
use mathlib.Core.Bool.{Bool, true, false, cond, ◌&&◌}
use mathlib.Core.List.{List, [], ◌∷◌, map}
use mathlib.Core.List.Memᴰ.{head as here}
use mathlib.Core.List.Memᴰ.{tail as there}
use mathlib.Core.List.{Memᴰ as In}
use mathlib.Core.Logic.{⊎_elim}
use mathlib.Core.Option.{Option, none, some}
use Prim.Native.Nat.{ℕ, zero, suc, ◌+◌, ◌<◌}
use native.Mathlib.Nat.{eq-or-lt_of_le}
use native.Mathlib.Numerals.{add-one}
use native.Mathlib.Omega.{arith}
use lib.Dec.{ltb}
use lib.IntN.{ℤ}
use lib.ListN.{length, take, get_or}
use lib.Seq.{length-take-le, get_or-take}
use Rattle.fractions.specs.Point.{point_order}
use Rattle.fractions.specs.declared.Point.{Point}
use Rattle.line_segment.specs.declared.Meeting.{Meeting}
use Rattle.line_segment.specs.declared.Meeting.TheVariants.{Nothing, Crossing, Overlap}
use Rattle.line_segment.specs.Segment.{intersect_of, cramer_of, crossing_of}
use Rattle.sweep.specs.Chart.{at}
use Rattle.sweep.specs.Lists.{Pair, lesser_first, adjacent, adjacent_from}
use Rattle.sweep.specs.Queue.{beyond}
use Rattle.sweep.specs.Ported.{is_less, kind_of}
use Rattle.sweep.specs.Sought.{is_crossing}
use Rattle.sweep_geometry.specs.Demand.{Proper}
use Rattle.ported_pieces.specs.Table.{piece_in, rough_at}
use Rattle.ported_pieces.proofs.Crossings.{rough_before, alike_rough}
use Rattle.full_steps.specs.InPlace.{lane, lanes, somes}
use Rattle.full_order.specs.Finer.{finer}
use Rattle.full_points.proofs.Keys.{key_small}
use Rattle.full_points.proofs.Crossing.{cramer_charted}
use Rattle.full_lanes.specs.Lanes.{no_key, keyed, pair_at, ProperPlaces, Taken, Keyed, LeastLane}
use Rattle.full_lanes.specs.Demand.{Beside, ahead, LeastAhead, BesideKeyed, LeastIsAhead}
use Rattle.full_lanes.proofs.Laning.{the_key}

-- ---- a lane that is taken
module _ (n : ℕ) (table : List ℤ) (last : Option Point) (q : Pair) where
  abbrev C-lane : Option Point
  C-lane = lane (finer n (piece_in table)) last q

  pub record Open : Type 0 where
    pub crosses : intersect_of (piece_in table q.0) (piece_in table q.1) ≡ Crossing
    pub beyond_last : beyond (finer n (piece_in table)) last (crossing_of (piece_in table q.0) (piece_in table q.1)) ≡ true
    pub is : C-lane ≡ some (crossing_of (piece_in table q.0) (piece_in table q.1))

  open_of : ¬ (C-lane ≡ none) → Open
  unfolding lane
  open_of h = go (intersect_of (piece_in table q.0) (piece_in table q.1)) refl (beyond (finer n (piece_in table)) last (crossing_of (piece_in table q.0) (piece_in table q.1))) refl
    where
      stands : (m : Meeting) → intersect_of (piece_in table q.0) (piece_in table q.1) ≡ m → (t : Bool) → beyond (finer n (piece_in table)) last (crossing_of (piece_in table q.0) (piece_in table q.1)) ≡ t
          → C-lane ≡ cond (is_crossing (kind_of m) && t) (some (crossing_of (piece_in table q.0) (piece_in table q.1))) none
      stands m e t f = rw (e, f)

      go : (m : Meeting) → intersect_of (piece_in table q.0) (piece_in table q.1) ≡ m → (t : Bool) → beyond (finer n (piece_in table)) last (crossing_of (piece_in table q.0) (piece_in table q.1)) ≡ t → Open
      go Nothing e t f = absurd (h (unfold is_crossing in stands Nothing e t f))
      go (Overlap s) e t f = absurd (h (unfold is_crossing in stands (Overlap s) e t f))
      go Crossing e false f = absurd (h (unfold is_crossing in stands Crossing e false f))
      go Crossing e true f = record { crosses = e; beyond_last = f; is = unfold is_crossing in stands Crossing e true f }

  taken_open : keyed C-lane < no_key → Open
  taken_open h = open_of (λ e. omega (arith, ap keyed e))

  pub some_open : {c : Point} → C-lane ≡ some c → Open × (c ≡ crossing_of (piece_in table q.0) (piece_in table q.1))
  some_open {c} f =
      let o = open_of (λ e. let z : ◌≡◌ {A = ℕ} 0 1 = ap (λ (x : Option Point). is_taken x) (sym e ∙ f) in omega arith) in
      (o, only (sym f ∙ o.is))
    where
      is_taken : Option Point → ℕ
      is_taken none = 0
      is_taken (some c) = 1

      only : {d : Point} → ◌≡◌ {A = Option Point} (some c) (some d) → c ≡ d
      only e = cc

-- both pieces of a pair of places are fit
pair_proper : (table : List ℤ) (i j : ℕ) → Proper (piece_in table i) → Proper (piece_in table j) → Proper (piece_in table (lesser_first i j).0) × Proper (piece_in table (lesser_first i j).1)
unfolding lesser_first
pair_proper table i j a b = go (ltb i j)
  where
    go : (t : Bool) → Proper (piece_in table (cond {A = Pair} t (i, j) (j, i)).0) × Proper (piece_in table (cond {A = Pair} t (i, j) (j, i)).1)
    go true = (a, b)
    go false = (b, a)

module _ (n : ℕ) (table : List ℤ) (last : Option Point) (active keys : List ℕ) (live : ℕ) (ok : ProperPlaces table active live) (B : Beside n table last active keys live) where
  inner : (k : ℕ) → k < live → get_or keys k 0 < no_key → k + 1 < live
  inner k h l = ⊎_elim (λ (e : k + 1 ≡ live). absurd (omega (arith, B.end k e))) (λ (g : k + 1 < live). g) (eq-or-lt_of_le {n = k + 1} {m = live} (omega arith))

  pub opened : (k : ℕ) → k < live → get_or keys k 0 < no_key → Open n table last (pair_at active k)
  opened k h l = taken_open n table last (pair_at active k) (subst (λ (z : ℕ). z < no_key) (B.lanes_are k (inner k h l)) l)

  is_taken : (k : ℕ) → k < live → get_or keys k 0 < no_key → Taken table active live k (get_or keys k 0)
  unfolding pair_at rough_at
  is_taken k h l =
      let g = inner k h l in
      let o = opened k h l in
      let p = pair_proper table (get_or active k 0) (get_or active (k + 1) 0) (ok k h) (ok (k + 1) g) in
      record {
        two = g;
        charted = cramer_charted _ _ p.0 p.1 o.crosses;
        is = B.lanes_are k g ∙ ap keyed o.is ∙ sym (the_key _ _);
      }

  pub keyed_places : Keyed table active keys live
  keyed_places = record { room = B.room; places = B.places; taken = is_taken }

pub beside_keyed : BesideKeyed
beside_keyed = keyed_places

-- ---- the members of a list's adjacent pairs, by place
abbrev pair_suc : List ℕ → ℕ → Pair
pair_suc l k = lesser_first (get_or l k 0) (get_or l (suc k) 0)

pair_is : (l : List ℕ) (k : ℕ) → pair_at l k ≡ pair_suc l k
unfolding pair_at
pair_is l k = ap (λ (m : ℕ). lesser_first (get_or l k 0) (get_or l m 0)) (add-one k)

from_in : (i : ℕ) (l : List ℕ) (k : ℕ) → k < length l → In (pair_suc (i ∷ l) k) (adjacent_from i l)
unfolding adjacent_from
from_in i [] k h = absurd (omega arith)
from_in i (j ∷ l) zero h = here refl
from_in i (j ∷ l) (suc k) h = there (from_in j l k (omega arith))

from_out : (i : ℕ) (l : List ℕ) {q : Pair} → In q (adjacent_from i l) → (k : ℕ) × (k < length l) × (q ≡ pair_suc (i ∷ l) k)
unfolding adjacent_from
from_out i [] m = elim m [ ]
from_out i (j ∷ l) (here e) = (0, omega arith, e)
from_out i (j ∷ l) (there m) = let r = from_out j l m in (suc r.0, omega (arith, r.1), r.2)

adjacent_in : (l : List ℕ) (k : ℕ) → k + 1 < length l → In (pair_at l k) (adjacent l)
unfolding adjacent
adjacent_in [] k h = absurd (omega arith)
adjacent_in (i ∷ l) k h = subst (λ (q : Pair). In q (adjacent_from i l)) (sym (pair_is (i ∷ l) k)) (from_in i l k (omega arith))

adjacent_out : (l : List ℕ) {q : Pair} → In q (adjacent l) → (k : ℕ) × (k + 1 < length l) × (q ≡ pair_at l k)
unfolding adjacent
adjacent_out [] m = elim m [ ]
adjacent_out (i ∷ l) m = let r = from_out i l m in (r.0, omega (arith, r.1), r.2 ∙ sym (pair_is (i ∷ l) r.0))

module _ {A B : Type 0} (f : A → Option B) where
  somes_in : (l : List A) {q : A} {c : B} → In q l → f q ≡ some c → In c (somes (map f l))
  unfolding somes
  somes_in [] m g = elim m [ ]
  somes_in (x ∷ l) {q} {c} (here e) g = rw (ap f (sym e) ∙ g, somes) (here refl)
  somes_in (x ∷ l) {q} {c} (there m) g = go (f x) refl (somes_in l m g)
    where
      go : (o : Option B) → f x ≡ o → In c (somes (map f l)) → In c (somes (o ∷ map f l))
      go none e r = r
      go (some b) e r = there r

  somes_out : (l : List A) {c : B} → In c (somes (map f l)) → (q : A) × In q l × (f q ≡ some c)
  unfolding somes
  somes_out [] m = elim m [ ]
  somes_out (x ∷ l) {c} m = go (f x) refl m (λ r. somes_out l r)
    where
      go : (o : Option B) → f x ≡ o → In c (somes (o ∷ map f l)) → (In c (somes (map f l)) → (q : A) × In q l × (f q ≡ some c)) → (q : A) × In q (x ∷ l) × (f q ≡ some c)
      go none e m r = let s = r m in (s.0, there s.1, s.2)
      go (some b) e (here h) r = (x, here refl, e ∙ ap some (sym h))
      go (some b) e (there h) r = let s = r h in (s.0, there s.1, s.2)

-- ---- the crossings ahead, by place
module _ (n : ℕ) (table : List ℤ) (last : Option Point) (active keys : List ℕ) (live r : ℕ) (ok : ProperPlaces table active live) (B : Beside n table last active keys live) where
  same_pair : (k : ℕ) → k + 1 < live → pair_at (take live active) k ≡ pair_at active k
  unfolding pair_at
  same_pair k h = rw (get_or-take live active k 0 (omega arith), get_or-take live active (k + 1) 0 h)

  ahead_in : (k : ℕ) {c : Point} → k + 1 < live → C-lane n table last (pair_at active k) ≡ some c → In c (ahead n table last active keys live)
  unfolding lanes
  ahead_in k h e =
      somes_in (lane (finer n (piece_in table)) last) (adjacent (take live active))
      (adjacent_in (take live active) k (omega (arith, length-take-le live active B.places)))
      (ap (lane (finer n (piece_in table)) last) (same_pair k h) ∙ e)

  pub ahead_out : {c : Point} → In c (ahead n table last active keys live) → (k : ℕ) × (k + 1 < live) × (C-lane n table last (pair_at active k) ≡ some c)
  unfolding lanes
  ahead_out m =
      let s = somes_out (lane (finer n (piece_in table)) last) (adjacent (take live active)) m in
      let a = adjacent_out (take live active) s.1 in
      let h : a.0 + 1 < live = omega (arith, a.1, length-take-le live active B.places) in
      (a.0, h, ap (lane (finer n (piece_in table)) last) (sym (same_pair a.0 h) ∙ sym a.2) ∙ s.2)

  -- a crossing ahead has a key, so its place is taken
  pub has_key : (k : ℕ) {c : Point} → k + 1 < live → C-lane n table last (pair_at active k) ≡ some c → get_or keys k 0 < no_key
  unfolding pair_at
  has_key k h e =
      let o = some_open n table last (pair_at active k) e in
      let p = pair_proper table (get_or active k 0) (get_or active (k + 1) 0) (ok k (omega arith)) (ok (k + 1) h) in
      let a = piece_in table (pair_at active k).0 in
      let b = piece_in table (pair_at active k).1 in
      let s = key_small (cramer_of a b) (cramer_charted a b p.0 p.1 o.0.crosses).along in
      omega (arith, s, B.lanes_are k h ∙ ap keyed o.0.is ∙ sym (the_key a b))

  -- rough points compare as the crossings
  as_crossings : (a b : Pair) → point_order (rough_at table a) (rough_at table b) ≡ point_order (at (finer n (piece_in table)) a) (at (finer n (piece_in table)) b)
  unfolding rough_at
  as_crossings a b = rough_before n table a (rough_at table b) ∙ alike_rough _ _ _

  pub least_ahead : LeastLane table active keys live r → LeastAhead n table last active keys live r
  least_ahead L = record {
    none = λ e. empty (ahead n table last active keys live) (λ c m. nothing e m);
    one = λ h. let o = opened n table last active keys live ok B r h (L.taken h) in ahead_in r (inner n table last active keys live ok B r h (L.taken h)) o.is;
    least = λ h c m. earlier h m;
  }
    where
      empty : (l : List Point) → ((c : Point) → In c l → ⊥) → l ≡ []
      empty [] f = refl
      empty (c ∷ l) f = absurd (f c (here refl))

      nothing : r ≡ live → {c : Point} → In c (ahead n table last active keys live) → ⊥
      nothing e m =
          let a = ahead_out m in
          let k = has_key a.0 a.1 a.2 in
          let b = L.none e a.0 (omega (arith, a.1)) in
          omega arith

      earlier : r < live → {c : Point} → In c (ahead n table last active keys live) → is_less (point_order c (at (finer n (piece_in table)) (pair_at active r))) ≡ false
      earlier h {c} m =
          let a = ahead_out m in
          let o = some_open n table last (pair_at active a.0) a.2 in
          let f = L.least h a.0 (omega (arith, a.1)) (has_key a.0 a.1 a.2) in
          ap (λ (z : Point). is_less (point_order z (at (finer n (piece_in table)) (pair_at active r)))) o.1
          ∙ ap is_less (sym (as_crossings (pair_at active a.0) (pair_at active r)))
          ∙ f

pub least_is_ahead : LeastIsAhead
least_is_ahead = least_ahead
