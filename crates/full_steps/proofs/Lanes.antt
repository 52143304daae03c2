-- The lanes after a step: outside the block they stay, since none of its crossings is at the next point or before it;
-- inside the renewed block there is none, since its pieces cross at the point if anywhere.
use mathlib.Core.Path.{◌≡◌, sym, ap, ◌∙◌, subst}
use mathlib.Core.Logic.{⊎_elim, ◌≢◌}
use mathlib.Core.Bool.{Bool, true, false, cond, ◌&&◌}
use mathlib.Core.Option.{Option, none, some}
use mathlib.Core.List.{List, ◌++◌, map, map-append, append_assoc}
use mathlib.Core.List.{Memᴰ as In}
use Prim.Native.Nat.{ℕ, ◌+◌, ◌-◌, ◌<◌}
use native.Mathlib.Omega.{arith}
use lib.ListN.{length, take, drop, length-append}
use Rattle.std.specs.declared.cmp.Ordering.TheVariants.{Equal}
use Rattle.sweep.specs.Lists.{Pair, adjacent, Pairwise}
use Rattle.sweep.specs.Chart.{Chart, kind, at}
use Rattle.sweep.specs.Queue.{beyond}
use Rattle.sweep.specs.Sought.{is_crossing}
use Rattle.sweep.specs.Geometry.{Occurs, Geometry}
use Rattle.sweep.specs.Demand.{Pieces}
use Rattle.sweep.proofs.Tests.{ask, clash, same_test}
use Rattle.sweep.proofs.Lists.{pairwise_left, pairwise_right}
use Rattle.sweep.proofs.Occurring.{adjacent_two, is_crossing_true, at_occurs}
use Rattle.sweep.proofs.Ranked.{Ranked, ranked, less_true, less_yes, less_no}
use Rattle.sweep.proofs.Between.{Soonest}
use Rattle.sweep.proofs.Soonest.{beyond_yes, beyond_true}
use Rattle.full_steps.specs.Steps.{State, next, ranged}
use Rattle.full_steps.specs.InPlace.{Sides, InPlaceFacts, below, block, above, renewed, replaced, lane, lanes, joint, relaned}
use Rattle.full_steps.proofs.Step.{Inv}
use Rattle.full_steps.proofs.Sides.{F, N, parts}
use Rattle.full_steps.proofs.Replaced.{on_active, below_out, above_out, renewed_through, renewed_once, same_active}
use Rattle.full_steps.proofs.Adjacent.{adjacent_append, adjacent_take, adjacent_drop, map_same}

module _ (C : Chart) where
  -- a lane is open where the pair crosses beyond the last point
  pub lane_open : (o : Option C.Point) (q : Pair) → is_crossing (kind C q) ≡ true → beyond C o (at C q) ≡ true → lane C o q ≡ some (at C q)
  unfolding lane
  lane_open o q e d = rw (e, d)

  pub lane_shut : (o : Option C.Point) (q : Pair) → (is_crossing (kind C q) ≡ true → beyond C o (at C q) ≡ false) → lane C o q ≡ none
  unfolding lane
  lane_shut o q f =
      ⊎_elim
      (λ (e : is_crossing (kind C q) ≡ true). rw (e, f e))
      (λ (e : is_crossing (kind C q) ≡ false). rw e)
      (ask (is_crossing (kind C q)))

  lane_at : (o : Option C.Point) (q : Pair) (p : C.Point) → lane C o q ≡ some p → at C q ≡ p
  unfolding lane
  lane_at o q p e = go (is_crossing (kind C q) && beyond C o (at C q)) e
    where
      go : (b : Bool) → cond b (some (at C q)) none ≡ some p → at C q ≡ p
      go true d = cc
      go false d = let z : ◌≡◌ {A = ℕ} 0 1 = cc in absurd (omega arith)

  module _ (S : Sides C) (G : Geometry C) (A : InPlaceFacts C S G) (s : State C) (I : Inv C (ranked C G) s) (p : C.Point) (hp : next C s ≡ some p) where
    open C use {Point, n, less}
    open S use {aside}
    open (F C S G A).keyed use {key}

    abbrev R : Ranked C
    R = F C S G A

    abbrev here_at : Soonest C R s.last p
    here_at = N C S G A s I p hp

    op : Occurs C p
    op = here_at.occurs

    -- two pieces that cross, of which not both lie on p: beyond the last point they do so beyond p
    lane_stays : (q : Pair) → Pieces C q → ¬ (R.On q.0 p × R.On q.1 p) → lane C (some p) q ≡ lane C s.last q
    unfolding lane beyond
    lane_stays q v off =
        ⊎_elim
        (λ (e : is_crossing (kind C q) ≡ true).
        let k = is_crossing_true (kind C q) e in
        let oc = at_occurs C q v k in
        let on = R.crossing_on q.0 q.1 (omega arith) v.1 (omega arith) k in
        let ne : key (at C q) ≢ key p = λ d. off (subst (λ (x : Point). R.On q.0 x × R.On q.1 x) (R.keyed.key_inj (at C q) p oc op d) on) in
        let b : beyond C s.last (at C q) ≡ less p (at C q) =
        same_test (beyond C s.last (at C q)) (less p (at C q))
        (λ h. less_yes C R.keyed p (at C q) op oc (omega (arith, here_at.least (at C q) oc (beyond_true C R s.active s.last I.lined (at C q) oc h))))
        (λ h. beyond_yes C R s.active s.last I.lined (at C q) oc (omega (arith, less_true C R.keyed p (at C q) op oc h, here_at.new)))
        in
        rw (e, b))
        (λ (e : is_crossing (kind C q) ≡ false). rw e)
        (ask (is_crossing (kind C q)))

    -- two pieces on p have no crossing beyond it
    lane_closes : (q : Pair) → Pieces C q → R.On q.0 p → R.On q.1 p → lane C (some p) q ≡ none
    unfolding beyond
    lane_closes q v a b =
        lane_shut (some p) q
        (λ e.
        let k = is_crossing_true (kind C q) e in
        less_no C R.keyed p (at C q) op (at_occurs C q v k) (omega (arith, ap key (R.crossing_only q.0 q.1 p (omega arith) v.1 (omega arith) op k a b))))

    -- a lane that is open at p is one of two pieces through it
    pub lane_through : (q : Pair) → In q (adjacent s.active) → lane C s.last q ≡ some p → (aside p q.0 ≡ Equal) × (aside p q.1 ≡ Equal)
    lane_through q m e =
        let t = adjacent_two C (λ i. In i s.active) s.active (λ i h. ((I.lined.active_out i h).0, h)) I.lined.once q m in
        ⊎_elim
        (λ (k : is_crossing (kind C q) ≡ true).
        let x = is_crossing_true (kind C q) k in
        let on = subst (λ (z : Point). R.On q.0 z × R.On q.1 z) (lane_at s.last q p e) (R.crossing_on q.0 q.1 (omega (arith, t.0)) t.0.1 (omega (arith, t.0)) x) in
        (on_active C S G A s I p hp q.0 t.1.0 on.0, on_active C S G A s I p hp q.1 t.1.1 on.1))
        (λ (k : is_crossing (kind C q) ≡ false). let z : ◌≡◌ {A = ℕ} 0 1 = cc (lane_shut s.last q (λ h. clash h k)) in absurd (omega arith))
        (ask (is_crossing (kind C q)))

    abbrev b : List ℕ
    b = below C S s.active p

    abbrev k : List ℕ
    k = block C S s.active p

    abbrev a : List ℕ
    a = above C S s.active p

    abbrev r : List ℕ
    r = renewed C S s.active p

    once : Pairwise (λ i j. i ≢ j) (b ++ (k ++ a))
    once = rw (← parts C S G A s I p hp) I.lined.once

    off : (i : ℕ) → In i s.active → ¬ (aside p i ≡ Equal) → (i < n) × ¬ R.On i p
    off i m ne = ((I.lined.active_out i m).0, λ o. ne (on_active C S G A s I p hp i m o))

    below_off : (i : ℕ) → In i b → (i < n) × ¬ R.On i p
    below_off i m = let t = below_out C S G A s I p hp i m in off i t.0 (λ e. let z : ◌≡◌ {A = ℕ} 0 1 = cc t.1 in absurd (omega arith))

    above_off : (i : ℕ) → In i a → (i < n) × ¬ R.On i p
    above_off i m = let t = above_out C S G A s I p hp i m in off i t.0 (λ e. let z : ◌≡◌ {A = ℕ} 0 1 = cc t.1 in absurd (omega arith))

    stays : (l : List ℕ) → ((i : ℕ) → In i l → (i < n) × ¬ R.On i p) → Pairwise (λ i j. i ≢ j) l → map (lane C (some p)) (adjacent l) ≡ map (lane C s.last) (adjacent l)
    stays l f d = map_same (lane C (some p)) (lane C s.last) (adjacent l) (λ q m. let t = adjacent_two C (λ i. ¬ R.On i p) l f d q m in lane_stays q t.0 (λ o. t.1.0 o.0))

    closes : map (lane C (some p)) (adjacent r) ≡ map (λ q. none) (adjacent r)
    closes =
        map_same (lane C (some p)) (λ q. none) (adjacent r)
        (λ q m.
        let t =
        adjacent_two C (λ i. R.On i p) r (λ i h. let u = renewed_through C S G A s I p hp i h in (u.0.0, u.1)) (renewed_once C S G A s I p hp) q m
        in
        lane_closes q t.0 t.1.0 t.1.1)

    -- the lanes held, below the block and above it
    front : take (length b - 1) (lanes C s.last s.active) ≡ map (lane C s.last) (adjacent b)
    unfolding lanes
    front =
        ap (λ (z : List ℕ). take (length b - 1) (map (lane C s.last) (adjacent z))) (parts C S G A s I p hp)
        ∙ adjacent_take (lane C s.last) b (k ++ a)

    back : drop (length b + length k) (lanes C s.last s.active) ≡ map (lane C s.last) (adjacent a)
    unfolding lanes
    back =
        ap (λ (z : List ℕ). drop (length b + length k) (map (lane C s.last) (adjacent z))) (parts C S G A s I p hp ∙ sym (append_assoc b k a))
        ∙ ap (λ (z : ℕ). drop z (map (lane C s.last) (adjacent ((b ++ k) ++ a)))) (sym (length-append b k))
        ∙ adjacent_drop (lane C s.last) (b ++ k) a

    -- the five parts
    abbrev five : List (Option Point) → List (Option Point) → List (Option Point) → List (Option Point)
    five x y z =
        x ++ (map (lane C (some p)) (joint b (r ++ a)) ++ (y ++ (map (lane C (some p)) (joint r a) ++ z)))

    new_lanes : lanes C (some p) (b ++ (r ++ a)) ≡ five (map (lane C (some p)) (adjacent b)) (map (lane C (some p)) (adjacent r)) (map (lane C (some p)) (adjacent a))
    unfolding lanes
    new_lanes = simp (adjacent_append, map-append)

    pub same_lanes : lanes C (some p) (ranged C s.active p) ≡ relaned C S (lanes C s.last s.active) s.active p
    unfolding relaned replaced
    same_lanes =
        ap (lanes C (some p)) (same_active C S G A s I p hp)
        ∙ new_lanes
        ∙ λ i.
        five
        ((stays b below_off (pairwise_left (λ i j. i ≢ j) b (k ++ a) once) ∙ sym front) i)
        (closes i)
        ((stays a above_off (pairwise_right (λ i j. i ≢ j) k a (pairwise_right (λ i j. i ≢ j) b (k ++ a) once)) ∙ sym back) i)
