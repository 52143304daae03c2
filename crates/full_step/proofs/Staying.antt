-- The lanes of a state before a step and after it, pair by pair: neighbours below the block and above it keep theirs, and
-- those of the new block have none.
use mathlib.Core.Path.{◌≡◌, refl, sym, ap, ap₂, ◌∙◌}
use mathlib.Core.Option.{Option, none, some}
use mathlib.Core.List.{List, [], ◌∷◌, ◌++◌, map, map-append, append_assoc}
use Prim.Native.Nat.{ℕ, zero, suc, ◌+◌, ◌-◌, ◌<◌}
use native.Mathlib.Omega.{arith}
use native.Mathlib.Numerals.{add-one}
use lib.ListN.{length, get_or, take, drop, length-append, length-map, get_or-append}
use lib.Seq.{get_or-take, get_or-append-add, take-append_seam, drop-append_seam, take_at, drop_at}
use Rattle.sweep.specs.Lists.{Pair, lesser_first, adjacent, adjacent_from}
use Rattle.sweep.specs.Chart.{Chart}
use Rattle.sweep.specs.Geometry.{Geometry}
use Rattle.sweep.proofs.Ranked.{ranked}
use Rattle.full_steps.specs.Steps.{State, next}
use Rattle.full_steps.specs.InPlace.{Sides, InPlaceFacts, below, block, above, renewed, replaced, lane, lanes, joint, relaned}
use Rattle.full_steps.proofs.Step.{Inv}
use Rattle.full_steps.proofs.Sides.{parts}
use Rattle.full_steps.proofs.Replaced.{same_active}
use Rattle.full_steps.proofs.Lanes.{same_lanes}
use Rattle.full_steps.proofs.Adjacent.{adjacent_append, adjacent_take, adjacent_drop}
use Rattle.full_lanes.specs.Lanes.{pair_at}

-- two joined lists that are equal, cut at one place
module _ {A : Type 0} (x y u v : List A) (h : length x ≡ length y) (e : x ++ u ≡ y ++ v) where
  first_same : x ≡ y
  first_same = sym (take-append_seam x u) ∙ ap (take (length x)) e ∙ take_at y v (length x) (sym h)

  second_same : u ≡ v
  second_same = sym (drop-append_seam x u) ∙ ap (drop (length x)) e ∙ drop_at y v (length x) (sym h)

-- ---- neighbours by place
abbrev pair_suc : List ℕ → ℕ → Pair
pair_suc l k = lesser_first (get_or l k 0) (get_or l (suc k) 0)

pair_is : (l : List ℕ) (k : ℕ) → pair_at l k ≡ pair_suc l k
unfolding pair_at
pair_is l k = ap (λ (m : ℕ). lesser_first (get_or l k 0) (get_or l m 0)) (add-one k)

pub pair_front : (live : ℕ) (l : List ℕ) (k : ℕ) → k + 1 < live → pair_at (take live l) k ≡ pair_at l k
unfolding pair_at
pair_front live l k h = rw (get_or-take live l k 0 (omega arith), get_or-take live l (k + 1) 0 h)

pub pair_left : (x y : List ℕ) (k : ℕ) → k + 1 < length x → pair_at (x ++ y) k ≡ pair_at x k
unfolding pair_at
pair_left x y k h = rw (get_or-append x y 0 k (omega arith), get_or-append x y 0 (k + 1) h)

pub pair_right : (x y : List ℕ) (k : ℕ) → pair_at (x ++ y) (length x + k) ≡ pair_at y k
unfolding pair_at
pair_right x y k =
    let e : length x + k + 1 ≡ length x + (k + 1) = omega arith in
    ap (λ (j : ℕ). lesser_first (get_or (x ++ y) (length x + k) 0) (get_or (x ++ y) j 0)) e
    ∙ ap₂ (λ (i j : ℕ). lesser_first i j) (get_or-append-add x y k 0) (get_or-append-add x y (k + 1) 0)

-- what is kept alike for each two neighbours is alike at each place
module _ {A : Type 0} (f g : Pair → A) where
  from_place : (i : ℕ) (l : List ℕ) → map f (adjacent_from i l) ≡ map g (adjacent_from i l) → (k : ℕ) → k < length l → f (pair_suc (i ∷ l) k) ≡ g (pair_suc (i ∷ l) k)
  unfolding adjacent_from
  from_place i [] e k h = absurd (omega arith)
  from_place i (j ∷ l) e zero h = ap (λ (z : List A). get_or z 0 (f (lesser_first i j))) e
  from_place i (j ∷ l) e (suc k) h = from_place j l (ap (drop 1) e) k (omega arith)

  pub at_place : (l : List ℕ) → map f (adjacent l) ≡ map g (adjacent l) → (k : ℕ) → k + 1 < length l → f (pair_at l k) ≡ g (pair_at l k)
  unfolding adjacent
  at_place [] e k h = absurd (omega arith)
  at_place (i ∷ l) e k h = rw (pair_is (i ∷ l) k) (from_place i l e k (omega arith))

-- ---- at the next point
module _ (C : Chart) (S : Sides C) (G : Geometry C) (A : InPlaceFacts C S G) (s : State C) (I : Inv C (ranked C G) s) (p : C.Point) (hp : next C s ≡ some p) where
  open C use {Point}

  abbrev b : List ℕ
  b = below C S s.active p

  abbrev k : List ℕ
  k = block C S s.active p

  abbrev a : List ℕ
  a = above C S s.active p

  abbrev r : List ℕ
  r = renewed C S s.active p

  abbrev then_lane : Pair → Option Point
  then_lane = lane C s.last

  abbrev now_lane : Pair → Option Point
  now_lane = lane C (some p)

  abbrev five : List (Option Point) → List (Option Point) → List (Option Point) → List (Option Point)
  five x y z = x ++ (map now_lane (joint b (r ++ a)) ++ (y ++ (map now_lane (joint r a) ++ z)))

  now_five : lanes C (some p) (b ++ (r ++ a)) ≡ five (map now_lane (adjacent b)) (map now_lane (adjacent r)) (map now_lane (adjacent a))
  unfolding lanes
  now_five = simp (adjacent_append, map-append)

  front : take (length b - 1) (lanes C s.last s.active) ≡ map then_lane (adjacent b)
  unfolding lanes
  front = ap (λ (z : List ℕ). take (length b - 1) (map then_lane (adjacent z))) (parts C S G A s I p hp) ∙ adjacent_take then_lane b (k ++ a)

  back : drop (length b + length k) (lanes C s.last s.active) ≡ map then_lane (adjacent a)
  unfolding lanes
  back =
      ap (λ (z : List ℕ). drop (length b + length k) (map then_lane (adjacent z))) (parts C S G A s I p hp ∙ sym (append_assoc b k a))
      ∙ ap (λ (z : ℕ). drop z (map then_lane (adjacent ((b ++ k) ++ a)))) (sym (length-append b k))
      ∙ adjacent_drop then_lane (b ++ k) a

  five_same : five (map now_lane (adjacent b)) (map now_lane (adjacent r)) (map now_lane (adjacent a)) ≡ five (map then_lane (adjacent b)) (map (λ q. none) (adjacent r)) (map then_lane (adjacent a))
  unfolding relaned replaced
  five_same =
      sym now_five
      ∙ ap (lanes C (some p)) (sym (same_active C S G A s I p hp))
      ∙ same_lanes C S G A s I p hp
      ∙ λ i. five (front i) (map (λ q. none) (adjacent r)) (back i)

  as_many : (f g : Pair → Option Point) (l : List Pair) → length (map f l) ≡ length (map g l)
  as_many f g l = length-map l f ∙ sym (length-map l g)

  below_same : map now_lane (adjacent b) ≡ map then_lane (adjacent b)
  below_same = first_same _ _ _ _ (as_many now_lane then_lane (adjacent b)) five_same

  rest_same : map now_lane (adjacent r) ++ (map now_lane (joint r a) ++ map now_lane (adjacent a)) ≡ map (λ q. none) (adjacent r) ++ (map now_lane (joint r a) ++ map then_lane (adjacent a))
  rest_same =
      second_same (map now_lane (joint b (r ++ a))) (map now_lane (joint b (r ++ a))) _ _ refl
      (second_same (map now_lane (adjacent b)) (map then_lane (adjacent b)) _ _ (as_many now_lane then_lane (adjacent b)) five_same)

  inside_same : map now_lane (adjacent r) ≡ map (λ q. none) (adjacent r)
  inside_same = first_same _ _ _ _ (as_many now_lane (λ q. none) (adjacent r)) rest_same

  above_same : map now_lane (adjacent a) ≡ map then_lane (adjacent a)
  above_same =
      second_same (map now_lane (joint r a)) (map now_lane (joint r a)) _ _ refl
      (second_same (map now_lane (adjacent r)) (map (λ q. none) (adjacent r)) _ _ (as_many now_lane (λ q. none) (adjacent r)) rest_same)

  pub stays_below : (j : ℕ) → j + 1 < length b → now_lane (pair_at b j) ≡ then_lane (pair_at b j)
  stays_below = at_place now_lane then_lane b below_same

  pub none_inside : (j : ℕ) → j + 1 < length r → now_lane (pair_at r j) ≡ none
  none_inside = at_place now_lane (λ q. none) r inside_same

  pub stays_above : (j : ℕ) → j + 1 < length a → now_lane (pair_at a j) ≡ then_lane (pair_at a j)
  stays_above = at_place now_lane then_lane a above_same
