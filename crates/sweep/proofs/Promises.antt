-- What follows from the strong statement, promise by promise, of any run that tells of the points visited; and so of the
-- ported mode's.
use mathlib.Core.Path.{◌≡◌, refl, sym, ap, ◌∙◌}
use mathlib.Core.Logic.{inl, inr, ⊎_elim, ◌≢◌, ◌↔◌}
use mathlib.Core.Bool.{true, false, ◌&&◌}
use mathlib.Core.Option.{Option, none, some}
use mathlib.Core.List.Memᴰ
use mathlib.Core.List.{List, [], ◌∷◌, ◌++◌}
use mathlib.Core.List.Memᴰ.{head as here}
use mathlib.Core.List.Memᴰ.{tail as there}
use mathlib.Core.List.{Memᴰ as In}
use Prim.Native.Nat.{ℕ, zero, suc, ◌+◌, ◌-◌, ◌*◌, ◌≤◌, ◌<◌}
use native.Mathlib.Omega.{arith}
use lib.ListN.{length, take, drop, length-take}
use lib.Seq.{take_all, take-add}
use Rattle.sweep.specs.Lists.{Pair, last_of, Pairwise}
use Rattle.sweep.specs.Chart.{Chart, meets, same, kind}
use Rattle.sweep.specs.Run.{onwards, run, visited, answer_of, answer}
use Rattle.sweep.specs.Sought.{all, first, occurring, settle, settled, points, pairs_at, pairs_along, meeting}
use Rattle.sweep.specs.Geometry.{Occurs, Geometry}
use Rattle.sweep.specs.Demand.{Pieces, Behind, Before, Run, ported_run, Tells, SweepsAlways, ListsExactly, ListsOnce, ListsInOrder, ListsOn, VisitsInOrder, CountsSteps, EndsExactly, ListsAll, RunPromises, Promises}
use Rattle.sweep.proofs.Tests.{ask}
use Rattle.sweep.proofs.Lists.{keep_in, keep_out, take_in, pairwise_map, pairwise_append, pairwise_keep, pairwise_take}
use Rattle.sweep.proofs.Pairs.{Sooner, sooner_ne}
use Rattle.sweep.proofs.Occurring.{occurring_length, all_in, all_out, all_sooner}
use Rattle.sweep.proofs.Ranked.{Ranked, ranked, less_true, less_false, less_yes, less_no}
use Rattle.sweep.proofs.First.{first_occurs, pairs_at_in, pairs_at_out}
use Rattle.sweep.proofs.Ascending.{Up, points_in, points_out, points_up}
use Rattle.sweep.proofs.Theorem.{along_append, Keeps, walk_visits, walk_lists}
use Rattle.sweep.proofs.Marked.{Inv, inv_start}
use Rattle.sweep.proofs.Next.{next_soonest, next_none}
use Rattle.sweep.proofs.Stepped.{step_inv, step_listed}
use Rattle.sweep.proofs.Runs.{walk, tells}

module _ (C : Chart) where
  open C use {Point, less, n}

  -- how many points there are
  settle_length : (p : Point) (l : List Point) → length (settle C p l) ≤ suc (length l)
  unfolding settle
  settle_length p [] = omega arith
  settle_length p (q ∷ l) =
      let r = settle_length p l in
      ⊎_elim
      (λ (e : less p q ≡ true). rw (settle, e) (omega arith))
      (λ (e : less p q ≡ false). ⊎_elim (λ (d : less q p ≡ true). rw (settle, e, d) (omega arith)) (λ (d : less q p ≡ false). rw (settle, e, d) (omega arith)) (ask (less q p)))
      (ask (less p q))

  settled_length : (l : List Point) → length (settled C l) ≤ length l
  unfolding settled
  settled_length [] = omega arith
  settled_length (p ∷ l) = omega (arith, settle_length p (settled C l), settled_length l)

  points_length : length (points C) ≤ 2 * n + length (meeting C)
  unfolding points
  points_length = omega (arith, settled_length (occurring C), occurring_length C)

  module _ (F : Ranked C) where
    open F.keyed use {key}

    abbrev Occur : List Point → Type 0
    Occur l = (x : Point) → In x l → Occurs C x

    along_out : (l : List Point) → Occur l → (q : Pair) → In q (pairs_along C l) → Pieces C q × (meets (kind C q) ≡ true) × In (first C q) l
    unfolding pairs_along
    along_out [] f q m = elim m [ ]
    along_out (p ∷ l) f q m =
        ⊎_elim
        (λ (h : In q (pairs_at C p)). let r = pairs_at_out C F p (f p (here refl)) q h in (r.0, r.1, here r.2))
        (λ (h : In q (pairs_along C l)). let r = along_out l (λ x k. f x (there k)) q h in (r.0, r.1, there r.2))
        (Memᴰ.append_cases (pairs_at C p) m)

    along_in : (l : List Point) → Occur l → (q : Pair) → Pieces C q → meets (kind C q) ≡ true → In (first C q) l → In q (pairs_along C l)
    unfolding pairs_along
    along_in [] f q v e m = elim m [ ]
    along_in (p ∷ l) f q v e (here d) = Memᴰ.append_left {s = pairs_at C p} (pairs_along C l) (pairs_at_in C F p (f p (here refl)) q v e (ap key d))
    along_in (p ∷ l) f q v e (there m) = Memᴰ.append_right (pairs_at C p) (along_in l (λ x k. f x (there k)) q v e m)

    at_before : (p : Point) → Occurs C p → Pairwise (Before C) (pairs_at C p)
    unfolding pairs_at
    at_before p o =
        pairwise_map Sooner (Before C) (pairs_at C p)
        (λ q r a b h. inr ((pairs_at_out C F p o q a).2 ∙ sym (pairs_at_out C F p o r b).2, h))
        (pairwise_keep Sooner (λ q. meets (kind C q) && same C (first C q) p) (all C) (all_sooner C))

    along_before : (l : List Point) → Occur l → Up C F l → Pairwise (Before C) (pairs_along C l)
    unfolding pairs_along
    along_before [] f u = tt
    along_before (p ∷ l) f u =
        pairwise_append (Before C) (pairs_at C p) (pairs_along C l) (at_before p (f p (here refl))) (along_before l (λ x k. f x (there k)) u.1)
        (λ q r a b.
        let d = (pairs_at_out C F p (f p (here refl)) q a).2 in
        let t = along_out l (λ x k. f x (there k)) r b in
        inl (rw d (less_yes C F.keyed p (first C r) (f p (here refl)) (f (first C r) (there t.2)) (u.0 (first C r) t.2))))

    -- the last of points in order is the greatest
    last_greatest : (l : List Point) → Up C F l → (z : Point) → last_of l ≡ some z → In z l × ((x : Point) → In x l → key x ≤ key z)
    unfolding last_of
    last_greatest [] u z e = let w : ◌≡◌ {A = ℕ} 0 1 = cc in absurd (omega arith)
    last_greatest (p ∷ []) u z e = let d : p ≡ z = cc in (here (sym d), λ x m. one d m)
      where
        one : {x : Point} → p ≡ z → In x (p ∷ []) → key x ≤ key z
        one d (here g) = omega (arith, ap key (g ∙ d))
        one d (there m) = elim m [ ]
    last_greatest (p ∷ q ∷ l) u z e = let r = last_greatest (q ∷ l) u.1 z e in (there r.0, λ x m. up r m)
      where
        up : {x : Point} → In z (q ∷ l) × ((x : Point) → In x (q ∷ l) → key x ≤ key z) → In x (p ∷ q ∷ l) → key x ≤ key z
        up r (here g) = omega (arith, ap key g, u.0 z r.0)
        up r (there m) = r.1 _ m

    last_none : (l : List Point) → last_of l ≡ none → (x : Point) → ¬ In x l
    unfolding last_of
    last_none [] e x m = elim m [ ]
    last_none (p ∷ []) e x m = let w : ◌≡◌ {A = ℕ} 0 1 = cc in omega arith
    last_none (p ∷ q ∷ l) e x m = last_none (q ∷ l) e q (here refl)

    take_early : (m : ℕ) (l : List Point) → Up C F l → {x z : Point} → In x l → In z (take m l) → key x ≤ key z → In x (take m l)
    take_early zero l u k h b = elim h [ ]
    take_early (suc m) [] u k h b = elim h [ ]
    take_early (suc m) (p ∷ l) u (here e) h b = here e
    take_early (suc m) (p ∷ l) u {x} (there k) (here e) b = absurd (omega (arith, ap key e, u.0 x k))
    take_early (suc m) (p ∷ l) u (there k) (there h) b = there (take_early m l u.1 k h b)

    -- the first points
    first_points : (m : ℕ) → Occur (take m (points C))
    first_points m x h = points_out C F (take_in m (points C) h)

    first_up : (m : ℕ) → Up C F (take m (points C))
    first_up m = pairwise_take (λ p q. key p < key q) m (points C) (points_up C F)

    -- a point is behind the last of them exactly when it is one
    visited_behind : (m : ℕ) (x : Point) → Occurs C x → In x (take m (points C)) ↔ Behind C (last_of (take m (points C))) x
    visited_behind m x ox = (λ h. to h (last_of (take m (points C))) refl, λ h. fro (last_of (take m (points C))) refl h)
      where
        to : In x (take m (points C)) → (o : Option Point) → last_of (take m (points C)) ≡ o → Behind C o x
        to h none e = last_none (take m (points C)) e x h
        to h (some l) e = let r = last_greatest (take m (points C)) (first_up m) l e in less_no C F.keyed l x (first_points m l r.0) ox (r.1 x h)

        fro : (o : Option Point) → last_of (take m (points C)) ≡ o → Behind C o x → In x (take m (points C))
        fro none e h = absurd h
        fro (some l) e h =
            let r = last_greatest (take m (points C)) (first_up m) l e in
            take_early m (points C) (points_up C F) (points_in C F ox) r.0 (less_false C F.keyed l x (first_points m l r.0) ox h)

    module _ (R : Run C) (T : Tells C R) (W : SweepsAlways C R) where
      last_is : (m : ℕ) → (R.answer m).last ≡ last_of (take m (points C))
      last_is m = T.last_visited m ∙ ap last_of (W m).visits

      lists_exactly : ListsExactly C R
      lists_exactly m q = (
        λ h.
            let r = along_out (take m (points C)) (first_points m) q (rw (W m).lists at h) in
            (r.0, r.1, rw (last_is m) ((visited_behind m (first C q) (first_occurs C F q r.0 r.1)).0 r.2)),
        λ h.
            rw (W m).lists
            (along_in (take m (points C)) (first_points m) q h.0 h.1 ((visited_behind m (first C q) (first_occurs C F q h.0 h.1)).1 (rw (last_is m) at h.2))),
      )

      lists_in_order : ListsInOrder C R
      lists_in_order m = rw (W m).lists (along_before (take m (points C)) (first_points m) (first_up m))

      before_ne : (q r : Pair) → Pieces C q → meets (kind C q) ≡ true → Before C q r → q ≢ r
      before_ne q r v e (inl h) d = let o = first_occurs C F q v e in let k = less_true C F.keyed (first C q) (first C q) o o (rw (← d) at h) in omega arith
      before_ne q r v e (inr (g, h)) d = sooner_ne q r h d

      lists_once : ListsOnce C R
      lists_once m =
          pairwise_map (Before C) (λ q r. q ≢ r) (R.answer m).listed
          (λ q r a b h. let t = (lists_exactly m q).0 a in before_ne q r t.0 t.1 h)
          (lists_in_order m)

      -- a + c points are the first a, and c more
      lists_on : ListsOn C R
      lists_on a b h =
          let c : ℕ = b - a in
          let e : b ≡ a + c = omega arith in
          let t : take b (points C) ≡ take a (points C) ++ take c (drop a (points C)) = ap (λ (z : ℕ). take z (points C)) e ∙ take-add a c (points C) in (
            pairs_along C (take c (drop a (points C))),
            (W b).lists ∙ ap (pairs_along C) t ∙ along_append C (take a (points C)) (take c (drop a (points C)))
                ∙ ap (λ (z : List Pair). z ++ pairs_along C (take c (drop a (points C)))) (sym (W a).lists),
          )

      visits_in_order : VisitsInOrder C R
      visits_in_order =
          record {
            first_of = λ m. (W m).visits;
            all_of = λ p. (λ h. points_out C F h, λ h. points_in C F h);
            ascending = pairwise_map (λ p q. key p < key q) (λ p q. less p q ≡ true) (points C) (λ p q a b h. less_yes C F.keyed p q (points_out C F a) (points_out C F b) h) (points_up C F);
          }

      counts_steps : CountsSteps C R
      counts_steps m = T.counts_visited m ∙ ap length (W m).visits ∙ length-take m (points C)

      ends_exactly : EndsExactly C R
      ends_exactly m =
          let a = ap length (W m).visits ∙ length-take m (points C) in
          let b = ap length (W (suc m)).visits ∙ length-take (suc m) (points C) in (
            λ h. omega (arith, ap length ((T.ends_visited m).0 h)),
            λ h. (T.ends_visited m).1 ((W (suc m)).visits ∙ take_all (suc m) (points C) (omega arith) ∙ sym ((W m).visits ∙ take_all m (points C) h)),
          )

      lists_all : ListsAll C R
      unfolding meeting
      lists_all m e q =
          let l = (W m).lists ∙ ap (pairs_along C) (take_all m (points C) ((ends_exactly m).0 e)) in (
            λ h. let r = along_out (points C) (λ x k. points_out C F k) q (rw l at h) in keep_in (λ q. meets (kind C q)) (all_in C q r.0) r.1,
            λ h.
                let r = keep_out (λ q. meets (kind C q)) (all C) h in
                let v = all_out C r.0 in
                rw l (along_in (points C) (λ x k. points_out C F k) q v r.1 (points_in C F (first_occurs C F q v r.1))),
          )

      pub run_promises : RunPromises C R
      run_promises =
          record {
            sweeps = W;
            lists_exactly = lists_exactly;
            lists_once = lists_once;
            lists_in_order = lists_in_order;
            lists_all = lists_all;
            lists_on = lists_on;
            visits_in_order = visits_in_order;
            last_visited = T.last_visited;
            counts_steps = counts_steps;
            steps_bounded = λ m. omega (arith, counts_steps m, points_length);
            ends_exactly = ends_exactly;
          }

  -- what the ported mode keeps
  keeps : (F : Ranked C) → Keeps C F (walk C)
  unfolding walk run onwards
  keeps F =
      record {
        Inv = Inv C F;
        at_start = inv_start C F;
        after_step = λ s I p hp. step_inv C F s I p hp;
        soonest = λ s I p hp. next_soonest C F s I p hp;
        nothing_left = λ s I e. next_none C F s I e;
        lists_there = λ s I p hp. step_listed C F s I p hp;
      }

  pub sweeps : Ranked C → SweepsAlways C (ported_run C)
  unfolding answer answer_of walk run visited
  sweeps F m = record { visits = walk_visits C F (walk C) (keeps F) m; lists = walk_lists C F (walk C) (keeps F) m }

  -- from the facts of geometry to every promise
  pub promises : Geometry C → Promises C
  promises G = let F = ranked C G in run_promises F (ported_run C) (tells C) (sweeps F)
