-- The pairs of a chart, and the points that occur on it.
use mathlib.Core.Path.{◌≡◌, refl, sym, ap}
use mathlib.Core.Logic.{◌⊎◌, inl, inr, ⊎_elim, ◌≢◌}
use mathlib.Core.Bool.{true}
use mathlib.Core.List.Memᴰ
use mathlib.Core.List.{List, [], ◌∷◌, map}
use mathlib.Core.List.Memᴰ.{head as here}
use mathlib.Core.List.Memᴰ.{tail as there}
use mathlib.Core.List.{Memᴰ as In}
use lib.ListN.{length, length-append, length-map}
use Prim.Native.Nat.{◌+◌, ◌*◌, ◌≤◌, ℕ, ◌<◌}
use native.Mathlib.Omega.{arith}
use Rattle.sweep.specs.Lists.{Pair, upto, keep, lesser_first, adjacent, Pairwise}
use Rattle.sweep.specs.Chart.{meets, Kind, nothing, crosses, overlaps, Chart, kind, at}
use Rattle.sweep.specs.Queue.{ends}
use Rattle.sweep.specs.Sought.{is_crossing, all, occurring, meeting}
use Rattle.sweep.specs.Geometry.{Occurs}
use Rattle.sweep.specs.Demand.{Pieces}
use Rattle.sweep.proofs.Tests.{clash}
use Rattle.sweep.proofs.Lists.{keep_in, keep_out, keep_length}
use Rattle.sweep.proofs.Pairs.{upto_length, Sooner, upto_in, upto_out, upto_up, pairs_in, pairs_out, pairs_sooner, pairs_once, lesser_two, lesser_up, adjacent_out}

pub is_crossing_true : (k : Kind) → is_crossing k ≡ true → k ≡ crosses
unfolding is_crossing
is_crossing_true nothing e = clash e refl
is_crossing_true crosses e = refl
is_crossing_true overlaps e = clash e refl

pub is_crossing_yes : (k : Kind) → k ≡ crosses → is_crossing k ≡ true
unfolding is_crossing
is_crossing_yes k e = rw e

module _ (C : Chart) where
  open C use {Point, n, min, max, test, crossing}

  pub all_in : (q : Pair) → Pieces C q → In q (all C)
  unfolding all
  all_in q v = pairs_in (upto_up n) (upto_in n q.0 (omega arith)) (upto_in n q.1 (omega arith)) v.0

  pub all_out : {q : Pair} → In q (all C) → Pieces C q
  unfolding all
  all_out {q} m = let r = pairs_out (upto n) (upto_up n) m in (r.2, upto_out n r.1)

  pub all_sooner : Pairwise Sooner (all C)
  unfolding all
  all_sooner = pairs_sooner (upto n) (upto_up n)

  pub all_once : Pairwise (λ (q r : Pair). q ≢ r) (all C)
  unfolding all
  all_once = pairs_once (upto n) (upto_up n)

  -- two distinct pieces as a pair, and what holds of both, whichever comes first
  pub two_pieces : (P : ℕ → Type 0) (a b : ℕ) → (a < n) × P a → (b < n) × P b → a ≢ b → Pieces C (lesser_first a b) × (P (lesser_first a b).0 × P (lesser_first a b).1)
  two_pieces P a b x y ne =
      let up = lesser_up a b ne in
      ⊎_elim
      (λ (e : lesser_first a b ≡ (a, b)). rw e ((rw e at up, y.0), (x.1, y.1)))
      (λ (e : lesser_first a b ≡ (b, a)). rw e ((rw e at up, x.0), (y.1, x.1)))
      (lesser_two a b)

  -- .. of an adjacent pair
  pub adjacent_two : (P : ℕ → Type 0) (l : List ℕ) → ((i : ℕ) → In i l → (i < n) × P i) → Pairwise (λ i j. i ≢ j) l → (q : Pair) → In q (adjacent l) → Pieces C q × (P q.0 × P q.1)
  adjacent_two P l f d q m = let r = adjacent_out l m d in rw r.5 (two_pieces P r.0 r.1 (f r.0 r.2) (f r.1 r.3) r.4)

  ends_min : {i : ℕ} {l : List ℕ} → In i l → In (min i) (ends C l)
  unfolding ends
  ends_min (here e) = here (ap min e)
  ends_min (there m) = there (there (ends_min m))

  ends_max : {i : ℕ} {l : List ℕ} → In i l → In (max i) (ends C l)
  unfolding ends
  ends_max (here e) = there (here (ap max e))
  ends_max (there m) = there (there (ends_max m))

  ends_list : (l : List ℕ) {p : Point} → In p (ends C l) → (i : ℕ) × In i l × ((p ≡ min i) ⊎ (p ≡ max i))
  unfolding ends
  ends_list [] m = elim m [ ]
  ends_list (i ∷ l) (here e) = (i, here refl, inl e)
  ends_list (i ∷ l) (there (here e)) = (i, here refl, inr e)
  ends_list (i ∷ l) (there (there m)) = let r = ends_list l m in (r.0, there r.1, r.2)

  -- what a point that occurs is
  abbrev pub End : Point → Type 0
  End p = (i : ℕ) × (i < n) × ((p ≡ min i) ⊎ (p ≡ max i))

  abbrev pub Crossing : Point → Type 0
  Crossing p = (q : Pair) × Pieces C q × (kind C q ≡ crosses) × (p ≡ at C q)

  pub min_in : (i : ℕ) → i < n → In (min i) (ends C (upto n))
  min_in i h = ends_min (upto_in n i h)

  pub max_in : (i : ℕ) → i < n → In (max i) (ends C (upto n))
  max_in i h = ends_max (upto_in n i h)

  pub ends_out : {p : Point} → In p (ends C (upto n)) → End p
  ends_out m = let e = ends_list (upto n) m in (e.0, upto_out n e.1, e.2)

  pub min_occurs : (i : ℕ) → i < n → Occurs C (min i)
  unfolding occurring
  min_occurs i h = Memᴰ.append_left _ (min_in i h)

  pub max_occurs : (i : ℕ) → i < n → Occurs C (max i)
  unfolding occurring
  max_occurs i h = Memᴰ.append_left _ (max_in i h)

  pub at_occurs : (q : Pair) → Pieces C q → kind C q ≡ crosses → Occurs C (at C q)
  unfolding occurring
  at_occurs q v k = Memᴰ.append_right (ends C (upto n)) (Memᴰ.map (at C) (keep_in (λ q. is_crossing (kind C q)) (all_in q v) (is_crossing_yes (kind C q) k)))

  pub end_occurs : {p : Point} → End p → Occurs C p
  end_occurs (i, h, inl e) = rw e (min_occurs i h)
  end_occurs (i, h, inr e) = rw e (max_occurs i h)

  pub occurs_out : {p : Point} → Occurs C p → End p ⊎ Crossing p
  unfolding occurring
  occurs_out {p} m =
      ⊎_elim
      (λ (h : In p (ends C (upto n))). inl (ends_out h))
      (λ (h : In p (map (at C) (keep (λ q. is_crossing (kind C q)) (all C)))).
      let r = Memᴰ.of_map (at C) (keep (λ q. is_crossing (kind C q)) (all C)) h in
      let k = keep_out (λ q. is_crossing (kind C q)) (all C) r.1 in
      inr (r.0, all_out k.0, is_crossing_true (kind C r.0) k.1, sym r.2))
      (Memᴰ.append_cases (ends C (upto n)) m)

  ends_length : (l : List ℕ) → length (ends C l) ≡ 2 * length l
  unfolding ends
  ends_length [] = refl
  ends_length (i ∷ l) = omega (arith, ends_length l)

  -- two ends a piece, and a crossing only of a pair that meets
  pub occurring_length : length (occurring C) ≤ 2 * n + length (meeting C)
  unfolding occurring meeting meets
  occurring_length =
      let c : List Pair = keep (λ q. is_crossing (kind C q)) (all C) in
      omega (
        arith,
        length-append (ends C (upto n)) (map (at C) c),
        ends_length (upto n),
        upto_length n,
        length-map c (at C),
        keep_length (λ q. is_crossing (kind C q)) (λ q. meets (kind C q)) (all C) (λ q m e. rw (is_crossing_true (kind C q) e)),
      )
