-- What holds of the sweep on every chart whose points are in order, upright pieces or not, whatever the order of the
-- active list.
use mathlib.Core.Path.{◌≡◌, refl, ap, subst}
use mathlib.Core.Logic.{◌⊎◌, inl, inr, ⊎_elim, ◌≢◌}
use mathlib.Core.Bool.{Bool, true, ◌||◌, not}
use mathlib.Core.Option.{Option, none, some}
use mathlib.Core.List.Memᴰ
use mathlib.Core.List.{List, [], ◌∷◌, ◌++◌, map, append-nil}
use mathlib.Core.List.Memᴰ.{head as here}
use mathlib.Core.List.Memᴰ.{tail as there}
use mathlib.Core.List.{Memᴰ as In}
use Prim.Native.Nat.{ℕ, zero, suc, ◌+◌, ◌*◌, ◌≤◌, ◌<◌}
use native.Mathlib.Omega.{arith}
use lib.Dec.{ltb, eqb}
use lib.ListN.{length, length-append}
use borrow.Author.Tests.{eqb-true, ltb-true}
use Rattle.sweep.specs.Lists.{Pair, upto, keep, pairs, adjacent, Pairwise}
use Rattle.sweep.specs.Chart.{Chart, same, at}
use Rattle.sweep.specs.State.{Marks, State, start}
use Rattle.sweep.specs.Queue.{ends, beyond, queue, next}
use Rattle.sweep.specs.Step.{each, starts, turns, takes_part, pieces, report, drop, reported, examine, stay, enter, ranged, examined, step}
use Rattle.sweep.specs.Run.{move_to, move, onwards, run, taken, visited, is_none, answer_of, answer}
use Rattle.sweep.specs.Sought.{occurring, meeting}
use Rattle.sweep.specs.Geometry.{Occurs, PointsOrdered}
use Rattle.sweep.specs.Demand.{Pieces, AlwaysPromises}
use Rattle.sweep.proofs.Tests.{clash, and_both, or_one, not_true, ltb_yes, ltb_no}
use Rattle.sweep.proofs.Lists.{keep_out, keep_fewer, any_out, pairwise_append, pairwise_keep}
use Rattle.sweep.proofs.Sorting.{sort_out, sort_once}
use Rattle.sweep.proofs.Pairs.{upto_out, upto_up, pairs_out}
use Rattle.sweep.proofs.Active.{stay_out, enter_out, stay_once, enter_once}
use Rattle.sweep.proofs.Occurring.{adjacent_two, occurring_length, ends_out, end_occurs, at_occurs, min_occurs}
use Rattle.sweep.proofs.Rank.{keep_more}
use Rattle.sweep.proofs.Ranked.{Keyed, keys, less_true, less_yes, same_true, same_false}
use Rattle.sweep.proofs.Least.{least_some}
use Rattle.sweep.proofs.Between.{bound, bound_none, bound_some}
use Rattle.sweep.proofs.Runs.{runs_on, lists_on, steps_visited, tells}
use Rattle.sweep.proofs.Fair.{Fair, Begun, each_fair, report_fair, reports_wait, examine_fair}

module _ (C : Chart) (O : PointsOrdered C) where
  open C use {Point, less, n, min, before}

  abbrev K : Keyed C
  K = keys C O

  abbrev key : Point → ℕ
  key = K.key

  record Sound (s : State C) : Type 0 where
    last_occurs : (p : Point) → s.last ≡ some p → Occurs C p
    fair : Fair C O (bound key s.last) s.marks
    begun : (i : ℕ) → In i s.active → (i < n) × (key (min i) < bound key s.last)
    distinct : Pairwise (λ i j. i ≢ j) s.active

  module _ (s : State C) (S : Sound s) where
    queue_out : (p : Point) → In p (queue C s) → Occurs C p × (bound key s.last ≤ key p)
    unfolding queue
    queue_out p m =
        ⊎_elim
        (λ (h : In p (keep (beyond C s.last) (ends C (upto n)))).
        let r = keep_out (beyond C s.last) (ends C (upto n)) h in
        let o = end_occurs C (ends_out C r.0) in
        (o, after s.last S.last_occurs p o r.1))
        (λ (h : In p (map (at C) s.marks.waiting)).
        let r = Memᴰ.of_map (at C) s.marks.waiting h in
        let w = S.fair.ahead r.0 r.1 in
        (subst (Occurs C) r.2 (at_occurs C r.0 w.0 w.1), omega (arith, w, ap key r.2)))
        (Memᴰ.append_cases (keep (beyond C s.last) (ends C (upto n))) m)
      where
        after : (o : Option Point) → ((l : Point) → o ≡ some l → Occurs C l) → (p : Point) → Occurs C p → beyond C o p ≡ true → bound key o ≤ key p
        after none f p op e = omega (arith, bound_none key)
        after (some l) f p op e = unfold beyond in omega (arith, bound_some key l, less_true C K l p (f l refl) op e)

    module _ (p : Point) (hp : next C s ≡ some p) where
      first_in : In p (queue C s) × ((x : Point) → In x (queue C s) → key p ≤ key x)
      unfolding next
      first_in = least_some C K (queue C s) p (λ x m. (queue_out x m).0) hp

      next_occurs : Occurs C p
      next_occurs = (queue_out p first_in.0).0

      next_new : bound key s.last ≤ key p
      next_new = (queue_out p first_in.0).1

      waiting_late : (q : Pair) → In q s.marks.waiting → key p ≤ key (at C q)
      unfolding queue
      waiting_late q m = first_in.1 (at C q) (Memᴰ.append_right (keep (beyond C s.last) (ends C (upto n))) (Memᴰ.map (at C) m))

      turns_begun : (i : ℕ) → turns C s p i ≡ true → (i < n) × (key (min i) ≤ key p)
      unfolding turns
      turns_begun i e =
          let r = any_out _ s.marks.waiting e in
          let q = r.0 in
          let u = and_both (same C (at C q) p) (eqb i q.0 || eqb i q.1) r.2 in
          let w = S.fair.ahead q r.1 in
          let t = next_new in
          ⊎_elim
          (λ (h : eqb i q.0 ≡ true). let d = eqb-true i q.0 h in rw d (omega (arith, w.0), omega (arith, w)))
          (λ (h : eqb i q.1 ≡ true). let d = eqb-true i q.1 h in rw d (w.0.1, omega (arith, w)))
          (or_one (eqb i q.0) (eqb i q.1) u.1)

      stay_begun : (i : ℕ) → In i (stay C s p) → (i < n) × (key (min i) ≤ key p)
      stay_begun i m = let b = S.begun i (stay_out C s p i m).0 in let t = next_new in (b.0, omega arith)

      enter_begun : (i : ℕ) → In i (enter C s p) → (i < n) × (key (min i) ≤ key p)
      unfolding starts
      enter_begun i m =
          let r = enter_out C s p i m in
          ⊎_elim
          (λ (e : starts C p i ≡ true). (r.0, omega (arith, same_true C K (min i) p (min_occurs C i r.0) next_occurs e)))
          (λ (e : turns C s p i ≡ true). turns_begun i e)
          r.1

      ranged_begun : (i : ℕ) → In i (ranged C s p) → (i < n) × (key (min i) ≤ key p)
      unfolding ranged
      ranged_begun i m =
          ⊎_elim (λ (h : In i (stay C s p)). stay_begun i h) (λ (h : In i (enter C s p)). enter_begun i h) (Memᴰ.append_cases (stay C s p) (sort_out (before p) (stay C s p ++ enter C s p) m))

      -- a piece that starts at p has not begun before, and one that turns has just left
      apart : (i j : ℕ) → In i (stay C s p) → In j (enter C s p) → i ≢ j
      unfolding starts
      apart i j a b e =
          let r = stay_out C s p i a in
          let t = enter_out C s p j b in
          let u = S.begun i r.0 in
          let w = next_new in
          ⊎_elim
          (λ (h : starts C p j ≡ true). omega (arith, same_true C K (min j) p (min_occurs C j t.0) next_occurs h, ap (λ (x : ℕ). key (min x)) e))
          (λ (h : turns C s p j ≡ true). clash (rw e h) r.2)
          t.1

      ranged_distinct : Pairwise (λ i j. i ≢ j) (ranged C s p)
      unfolding ranged
      ranged_distinct = sort_once (before p) (stay C s p ++ enter C s p) (pairwise_append (λ i j. i ≢ j) (stay C s p) (enter C s p) (stay_once C s p S.distinct) (enter_once C s p) apart)

      adjacent_begun : (l : List ℕ) → ((i : ℕ) → In i l → (i < n) × (key (min i) ≤ key p)) → Pairwise (λ i j. i ≢ j) l → (q : Pair) → In q (adjacent l) → Begun C O p q
      adjacent_begun l f d q m = let t = adjacent_two C (λ i. key (min i) ≤ key p) l f d q m in (t.0, t.1.0, t.1.1)

      reported_fair : Fair C O (suc (key p)) (reported C s p)
      unfolding reported drop pieces
      reported_fair =
          let F = each_fair C O (bound key s.last) (report C) (Pieces C) (report_fair C O (bound key s.last)) (pairs (keep (takes_part C s p) (upto n))) s.marks
          (λ q m. let r = pairs_out (keep (takes_part C s p) (upto n)) (pairwise_keep ◌<◌ (takes_part C s p) (upto n) (upto_up n)) m in (r.2, upto_out n (keep_out (takes_part C s p) (upto n) r.1).0))
          S.fair
          in
          record {
            only = F.only;
            once = F.once;
            ahead = λ q m.
                let r = keep_out (λ q. not (same C (at C q) p)) _ m in
                let w = F.ahead q r.0 in
                let t = next_new in
                let ne = same_false C K (at C q) p (at_occurs C q w.0 w.1) next_occurs (not_true _ r.1) in
                (w.0, w.1, omega (arith, waiting_late q (waiting_old q r.0)), omega (arith, w), omega (arith, w));
          }
        where
          waiting_old : (q : Pair) → In q (each (report C) (pairs (keep (takes_part C s p) (upto n))) s.marks).waiting → In q s.marks.waiting
          waiting_old q m = rw (reports_wait C (pairs (keep (takes_part C s p) (upto n))) s.marks) at m

      step_sound : Sound (step C s p)
      unfolding step bound examined
      step_sound =
          let look : (l : List Pair) (m : Marks) → ((q : Pair) → In q l → Begun C O p q) → Fair C O (suc (key p)) m → Fair C O (suc (key p)) (each (examine C p) l m) =
          each_fair C O (suc (key p)) (examine C p) (Begun C O p) (examine_fair C O p next_occurs)
          in
          record {
            last_occurs = λ q e. let d : p ≡ q = cc in subst (Occurs C) d next_occurs;
            fair = look (adjacent (ranged C s p)) _ (adjacent_begun (ranged C s p) ranged_begun ranged_distinct)
                (look (adjacent (stay C s p)) (reported C s p) (adjacent_begun (stay C s p) stay_begun (stay_once C s p S.distinct)) reported_fair);
            begun = λ i m. let b = ranged_begun i m in (b.0, omega arith);
            distinct = ranged_distinct;
          }

  start_sound : Sound (start C)
  unfolding start bound
  start_sound =
      record {
        last_occurs = λ p e. let z : ◌≡◌ {A = ℕ} 0 1 = cc in absurd (omega arith);
        fair = record { only = λ q m. elim m [ ]; once = tt; ahead = λ q m. elim m [ ] };
        begun = λ i m. elim m [ ];
        distinct = tt;
      }

  -- the points visited are in order up to the last one, and no more of them than occur
  below : ℕ → Point → Bool
  below t x = ltb (key x) t

  record Forward (s : State C) (v : List Point) : Type 0 where
    sound : Sound s
    up : Pairwise (λ p q. less p q ≡ true) v
    occur : (p : Point) → In p v → Occurs C p × (key p < bound key s.last)
    few : length v ≤ length (keep (below (bound key s.last)) (occurring C))

  forward : (m : ℕ) → Forward (run C m) (visited C m)
  unfolding run onwards move visited
  forward zero = record { sound = start_sound; up = tt; occur = λ p m. elim m [ ]; few = omega arith }
  forward (suc m) = go (forward m) (next C (run C m)) refl
    where
      go : Forward (run C m) (visited C m) → (o : Option Point) → next C (run C m) ≡ o → Forward (move_to C (run C m) o) (visited C m ++ taken C o)
      go f none e = unfold move_to taken in rw (append-nil (visited C m)) f
      go f (some p) e =
          unfold move_to taken step bound in
          let op = next_occurs (run C m) f.sound p e in
          let t = next_new (run C m) f.sound p e in
          record {
            sound = step_sound (run C m) f.sound p e;
            up = pairwise_append (λ p q. less p q ≡ true) (visited C m) (p ∷ []) f.up (λ y k. elim k [ ], tt) (λ x y h k. later x y h k);
            occur = λ x h. new x (Memᴰ.append_cases (visited C m) h);
            few = omega (
              arith,
              f.few,
              length-append (visited C m) (p ∷ []),
              keep_more (below (bound key (run C m).last)) (below (suc (key p))) (occurring C) p op
                  (unfold below in ltb_no (key p) (bound key (run C m).last) t) (unfold below in ltb_yes (key p) (suc (key p)) (omega arith))
                  (λ x h d. unfold below in ltb_yes (key x) (suc (key p)) (omega (arith, ltb-true (key x) (bound key (run C m).last) d, t))),
            );
          }
        where
          later : (x y : Point) → In x (visited C m) → In y (p ∷ []) → less x y ≡ true
          later x y h (here d) =
              let r = f.occur x h in
              let t = next_new (run C m) f.sound p e in
              rw d (less_yes C K x p r.0 (next_occurs (run C m) f.sound p e) (omega arith))
          later x y h (there k) = elim k [ ]

          new : (x : Point) → In x (visited C m) ⊎ In x (p ∷ []) → Occurs C x × (key x < suc (key p))
          new x (inl h) = let r = f.occur x h in let t = next_new (run C m) f.sound p e in (r.0, omega arith)
          new x (inr (here d)) = rw d (next_occurs (run C m) f.sound p e, omega arith)
          new x (inr (there k)) = elim k [ ]

  few_visited : (m : ℕ) → length (visited C m) ≤ 2 * n + length (meeting C)
  few_visited m = omega (arith, (forward m).few, occurring_length C, keep_fewer (below (bound key (run C m).last)) (occurring C))

  -- as long as the queue is not empty, every step visits a point
  busy : (m : ℕ) → (next C (run C m) ≡ none) ⊎ (length (visited C m) ≡ m)
  unfolding run onwards move visited
  busy zero = inr refl
  busy (suc m) = go (busy m) (next C (run C m)) refl
    where
      go : (next C (run C m) ≡ none) ⊎ (length (visited C m) ≡ m) → (o : Option Point) → next C (run C m) ≡ o
          → (next C (move_to C (run C m) o) ≡ none) ⊎ (length (visited C m ++ taken C o) ≡ suc m)
      go b none e = inl (unfold move_to in e)
      go (inl d) (some p) e = absurd (let z : ◌≡◌ {A = ℕ} 0 1 = cc in omega arith)
      go (inr d) (some p) e = inr (unfold taken in omega (arith, length-append (visited C m) (p ∷ [])))

  pub always : AlwaysPromises C
  unfolding answer answer_of
  always =
      record {
        visits_up = λ m. (forward m).up;
        visits_only = λ m p h. ((forward m).occur p h).0;
        lists_only = λ m. (forward m).sound.fair.only;
        lists_once = λ m. (forward m).sound.fair.once;
        lists_on = lists_on C;
        last_visited = (tells C).last_visited;
        steps_bounded = λ m. omega (arith, steps_visited C m, few_visited m);
        ends_soon = λ m h. ended m h (next C (run C m)) refl;
        runs_on = runs_on C;
      }
    where
      ended : (m : ℕ) → 2 * n + length (meeting C) ≤ m → (o : Option Point) → next C (run C m) ≡ o → is_none C o ≡ true
      ended m h none e = unfold is_none in refl
      ended m h (some p) e =
          ⊎_elim
          (λ (d : next C (run C m) ≡ none). absurd (let z : ◌≡◌ {A = ℕ} 0 1 = cc in omega arith))
          (λ (d : length (visited C m) ≡ m).
          let v : visited C (suc m) ≡ visited C m ++ (p ∷ []) = unfold visited taken in ap (λ (o : Option Point). visited C m ++ taken C o) e in
          absurd (omega (arith, few_visited (suc m), ap length v, length-append (visited C m) (p ∷ []))))
          (busy m)
