-- The next point of the ported mode is the least that is left, and the pieces that take part are those that lie on it.
use mathlib.Core.Path.{◌≡◌, sym, ap, subst}
use mathlib.Core.Logic.{◌⊎◌, inl, inr, ⊎_elim}
use mathlib.Core.Bool.{Bool, true, ◌||◌}
use mathlib.Core.Option.{none, some}
use mathlib.Core.List.Memᴰ
use mathlib.Core.List.{map}
use mathlib.Core.List.{Memᴰ as In}
use Prim.Native.Nat.{ℕ, ◌≤◌, ◌<◌}
use native.Mathlib.Omega.{arith}
use lib.Dec.{eqb}
use borrow.Author.Tests.{eqb-true}
use Rattle.sweep.specs.Lists.{Pair, adjacent, upto, keep}
use Rattle.sweep.specs.Chart.{nothing, crosses, Chart, same, kind, at}
use Rattle.sweep.specs.State.{State}
use Rattle.sweep.specs.Queue.{ends, beyond, queue, next}
use Rattle.sweep.specs.Step.{starts, finishes, turns, takes_part}
use Rattle.sweep.specs.Geometry.{Occurs}
use Rattle.sweep.proofs.Tests.{and_both, or_one, or_left, or_right}
use Rattle.sweep.proofs.Lists.{keep_in, keep_out, any_out}
use Rattle.sweep.proofs.Occurring.{End, Crossing, min_in, max_in, ends_out, end_occurs, min_occurs, max_occurs, at_occurs}
use Rattle.sweep.proofs.Ranked.{Ranked, same_true}
use Rattle.sweep.proofs.First.{first_crosses}
use Rattle.sweep.proofs.Between.{bound, Soonest}
use Rattle.sweep.proofs.Queued.{Queued, queued_none, queued_least, queued_soonest}
use Rattle.sweep.proofs.Marked.{Inv}
use Rattle.sweep.proofs.Soonest.{beyond_yes, beyond_true, inside, starts_on, finishes_on, inside_on, on_cases}

module _ (C : Chart) where
  open C use {Point, n, min, max}

  turns_out : (s : State C) (p : Point) (i : ℕ) → turns C s p i ≡ true → (q : Pair) × In q s.marks.waiting × (same C (at C q) p ≡ true) × ((i ≡ q.0) ⊎ (i ≡ q.1))
  unfolding turns
  turns_out s p i e =
      let r = any_out _ s.marks.waiting e in
      let q = r.0 in
      let u = and_both (same C (at C q) p) (eqb i q.0 || eqb i q.1) r.2 in (
        q,
        r.1,
        u.0,
        ⊎_elim (λ (h : eqb i q.0 ≡ true). inl (eqb-true i q.0 h)) (λ (h : eqb i q.1 ≡ true). inr (eqb-true i q.1 h)) (or_one (eqb i q.0) (eqb i q.1) u.1),
      )

  module _ (F : Ranked C) (s : State C) (I : Inv C F s) where
    open F.keyed use {key}

    queue_min : (i : ℕ) → i < n → bound key s.last ≤ key (min i) → In (min i) (queue C s)
    unfolding queue
    queue_min i h b = Memᴰ.append_left _ (keep_in _ (min_in C i h) (beyond_yes C F s.active s.last I.lined (min i) (min_occurs C i h) b))

    queue_max : (i : ℕ) → i < n → bound key s.last ≤ key (max i) → In (max i) (queue C s)
    unfolding queue
    queue_max i h b = Memᴰ.append_left _ (keep_in _ (max_in C i h) (beyond_yes C F s.active s.last I.lined (max i) (max_occurs C i h) b))

    queue_wait : (q : Pair) → In q s.marks.waiting → In (at C q) (queue C s)
    unfolding queue
    queue_wait q m = Memᴰ.append_right (keep (beyond C s.last) (ends C (upto n))) (Memᴰ.map (at C) m)

    -- neighbours that cross from the bound on wait
    queue_beside : (q : Pair) → In q (adjacent s.active) → kind C q ≡ crosses → bound key s.last ≤ key (at C q) → In (at C q) (queue C s)
    queue_beside q m k b =
        ⊎_elim
        (λ (h : In q s.marks.listed). absurd (omega (arith, (I.good.pairs_met.met q h).2, ap key (first_crosses C q k))))
        (λ (h : In q s.marks.waiting ⊎ (kind C q ≡ nothing)).
        ⊎_elim
        (λ (w : In q s.marks.waiting). queue_wait q w)
        (λ (e : kind C q ≡ nothing). let w : ◌≡◌ {A = ℕ} 0 1 = cc in absurd (omega arith))
        h)
        (I.known q m)

    -- a point of the queue is an end that is not done, or where a waiting pair crosses
    queue_out : (p : Point) → In p (queue C s) → (bound key s.last ≤ key p) × (End C p ⊎ Crossing C p)
    unfolding queue
    queue_out p m =
        ⊎_elim
        (λ (h : In p (keep (beyond C s.last) (ends C (upto n)))).
        let r = keep_out (beyond C s.last) (ends C (upto n)) h in
        let e : End C p = ends_out C r.0 in
        (beyond_true C F s.active s.last I.lined p (end_occurs C e) r.1, inl e))
        (λ (h : In p (map (at C) s.marks.waiting)).
        let r = Memᴰ.of_map (at C) s.marks.waiting h in
        let w = I.good.ahead r.0 r.1 in
        (omega (arith, w, ap key r.2), inr (r.0, w.0, w.1, sym r.2)))
        (Memᴰ.append_cases (keep (beyond C s.last) (ends C (upto n))) m)

    point_occurs : {p : Point} → End C p ⊎ Crossing C p → Occurs C p
    point_occurs (inl e) = end_occurs C e
    point_occurs (inr (q, v, k, e)) = rw e (at_occurs C q v k)

    queued : Queued C F s.active s.last I.lined (queue C s)
    queued = record { a_min = queue_min; a_max = queue_max; beside = queue_beside; only = λ p m. let r = queue_out p m in (point_occurs r.1, r.0) }

    -- where the queue is empty, no point is left
    pub next_none : next C s ≡ none → (x : Point) → Occurs C x → key x < bound key s.last
    unfolding next
    next_none e = queued_none C F s.active s.last I.lined (queue C s) queued e

    module _ (p : Point) (hp : next C s ≡ some p) where
      pub no_wait : (q : Pair) → In q s.marks.waiting → key p ≤ key (at C q)
      unfolding next
      no_wait q m = (queued_least C F s.active s.last I.lined (queue C s) queued p hp).1 (at C q) (queue_wait q m)

      pub next_soonest : Soonest C F s.last p
      unfolding next
      next_soonest = queued_soonest C F s.active s.last I.lined (queue C s) queued p hp

      pub turns_on : (i : ℕ) → turns C s p i ≡ true → F.On i p
      turns_on i e =
          let r = turns_out s p i e in
          let q = r.0 in
          let w = I.good.ahead q r.1 in
          let op : Occurs C p = next_soonest.occurs in
          let o = F.crossing_on q.0 q.1 (omega (arith, w.0)) w.0.1 (omega (arith, w.0)) w.1 in
          let oc : Occurs C (at C q) = at_occurs C q w.0 w.1 in
          let d : at C q ≡ p = F.keyed.key_inj (at C q) p oc op (same_true C F.keyed (at C q) p oc op r.2) in
          ⊎_elim
          (λ (g : i ≡ q.0). rw g (subst (λ (x : Point). F.On q.0 x) d o.0))
          (λ (g : i ≡ q.1). rw g (subst (λ (x : Point). F.On q.1 x) d o.1))
          r.3

      abbrev within : ℕ → Bool
      within = inside C F s.active s.last I.lined p next_soonest

      pub part_on : (i : ℕ) → i < n → takes_part C s p i ≡ true → F.On i p
      unfolding takes_part
      part_on i h e =
          ⊎_elim
          (λ (r : (starts C p i || finishes C p i || turns C s p i) ≡ true).
          ⊎_elim
          (λ (r : (starts C p i || finishes C p i) ≡ true).
          ⊎_elim
          (λ (a : starts C p i ≡ true). starts_on C F s.active s.last I.lined p next_soonest i h a)
          (λ (a : finishes C p i ≡ true). finishes_on C F s.active s.last I.lined p next_soonest i h a)
          (or_one (starts C p i) (finishes C p i) r))
          (λ (a : turns C s p i ≡ true). turns_on i a)
          (or_one (starts C p i || finishes C p i) (turns C s p i) r))
          (λ (a : within i ≡ true). inside_on C F s.active s.last I.lined p next_soonest i h a)
          (or_one (starts C p i || finishes C p i || turns C s p i) (within i) e)

      pub on_part : (i : ℕ) → i < n → F.On i p → takes_part C s p i ≡ true
      unfolding takes_part
      on_part i h o = go (on_cases C F s.active s.last I.lined p next_soonest i h o)
        where
          ends_here : (starts C p i || finishes C p i) ≡ true → takes_part C s p i ≡ true
          ends_here e = rw e

          go : (starts C p i ≡ true) ⊎ ((finishes C p i ≡ true) ⊎ (within i ≡ true)) → takes_part C s p i ≡ true
          go (inl e) = ends_here (or_left (starts C p i) (finishes C p i) e)
          go (inr (inl e)) = ends_here (or_right (starts C p i) (finishes C p i) e)
          go (inr (inr e)) = or_right (starts C p i || finishes C p i || turns C s p i) (within i) e
