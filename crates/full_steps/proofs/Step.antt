-- One step of the new mode takes the least point that is left, lists the pairs that meet first there, and keeps what
-- holds between steps: crate sweep's laws for any mode, applied to this queue, these pieces and this active list.
use mathlib.Core.Path.{◌≡◌, subst}
use mathlib.Core.Logic.{◌⊎◌, inl, inr, ⊎_elim, ◌≢◌}
use mathlib.Core.Bool.{Bool, true, false, ◌||◌, not}
use mathlib.Core.Option.{none, some}
use mathlib.Core.List.Memᴰ
use mathlib.Core.List.{List, [], ◌∷◌, ◌++◌, map}
use mathlib.Core.List.{Memᴰ as In}
use Prim.Native.Nat.{ℕ, ◌≤◌, ◌<◌}
use Rattle.sweep.specs.Lists.{Pair, upto, keep, adjacent, Pairwise}
use Rattle.sweep.specs.Chart.{crosses, Chart, kind, at}
use Rattle.sweep.specs.Queue.{ends, beyond}
use Rattle.sweep.specs.Step.{starts, finishes}
use Rattle.sweep.specs.Sought.{is_crossing, pairs_at}
use Rattle.sweep.specs.Geometry.{Occurs}
use Rattle.sweep.specs.Demand.{Pieces}
use Rattle.sweep.proofs.Tests.{or_one, or_left, or_right, not_true}
use Rattle.sweep.proofs.Lists.{keep_in, keep_out, pairwise_keep, pairwise_append}
use Rattle.sweep.proofs.Pairs.{upto_in, upto_out, upto_once}
use Rattle.sweep.proofs.Occurring.{adjacent_two, is_crossing_true, is_crossing_yes, min_in, max_in, ends_out, end_occurs, min_occurs, max_occurs, at_occurs}
use Rattle.sweep.proofs.Ranked.{Act, Ranked}
use Rattle.sweep.proofs.Between.{bound, Met, Lined, lined_none, met_none, Soonest}
use Rattle.sweep.proofs.Queued.{Queued, queued_none, queued_soonest}
use Rattle.sweep.proofs.Soonest.{beyond_yes, beyond_true, inside, starts_on, finishes_on, inside_on, on_cases, goes_on, starts_act, act_late, act_cases, starts_apart}
use Rattle.sweep.proofs.Lining.{sorted_lined}
use Rattle.sweep.proofs.Listing.{unlisted, pass_lists, met_more}
use Rattle.full_steps.specs.Steps.{State, start, crossings, queue, next, takes_part, pieces, report, reported, ranged, step}

module _ (C : Chart) where
  open C use {Point, n, min, max}

  report_no : (q : Pair) (l : List Pair) → unlisted C l q ≡ false → report C q l ≡ l
  unfolding report
  report_no q l e = rw e

  report_yes : (q : Pair) (l : List Pair) → unlisted C l q ≡ true → report C q l ≡ l ++ (q ∷ [])
  unfolding report
  report_yes q l e = rw e

  module _ (F : Ranked C) where
    open F.keyed use {key}

    -- between two steps
    pub record Inv (s : State C) : Type 0 where
      pub lined : Lined C F s.active s.last
      pub pairs_met : Met C F (bound key s.last) s.listed

    pub inv_start : Inv (start C)
    unfolding start
    inv_start = record { lined = lined_none C F; pairs_met = met_none C F }

    module _ (s : State C) (I : Inv s) where
      abbrev L : Lined C F s.active s.last
      L = I.lined

      beside_pieces : (q : Pair) → In q (adjacent s.active) → Pieces C q
      beside_pieces q m = (adjacent_two C (λ i. i < n) s.active (λ i h. let o = L.active_out i h in (o.0, o.0)) L.once q m).0

      queue_min : (i : ℕ) → i < n → bound key s.last ≤ key (min i) → In (min i) (queue C s)
      unfolding queue
      queue_min i h b = keep_in _ (Memᴰ.append_left _ (min_in C i h)) (beyond_yes C F s.active s.last L (min i) (min_occurs C i h) b)

      queue_max : (i : ℕ) → i < n → bound key s.last ≤ key (max i) → In (max i) (queue C s)
      unfolding queue
      queue_max i h b = keep_in _ (Memᴰ.append_left _ (max_in C i h)) (beyond_yes C F s.active s.last L (max i) (max_occurs C i h) b)

      queue_beside : (q : Pair) → In q (adjacent s.active) → kind C q ≡ crosses → bound key s.last ≤ key (at C q) → In (at C q) (queue C s)
      unfolding queue crossings
      queue_beside q m k b =
          keep_in _ (Memᴰ.append_right (ends C (upto n)) (Memᴰ.map (at C) (keep_in (λ q. is_crossing (kind C q)) m (is_crossing_yes (kind C q) k))))
          (beyond_yes C F s.active s.last L (at C q) (at_occurs C q (beside_pieces q m) k) b)

      queue_out : (p : Point) → In p (queue C s) → Occurs C p × (bound key s.last ≤ key p)
      unfolding queue crossings
      queue_out p m =
          let r = keep_out (beyond C s.last) (ends C (upto n) ++ crossings C s.active) m in
          let o : Occurs C p =
          ⊎_elim
          (λ (h : In p (ends C (upto n))). end_occurs C (ends_out C h))
          (λ (h : In p (map (at C) (keep (λ q. is_crossing (kind C q)) (adjacent s.active)))).
          let t = Memᴰ.of_map (at C) (keep (λ q. is_crossing (kind C q)) (adjacent s.active)) h in
          let k = keep_out (λ q. is_crossing (kind C q)) (adjacent s.active) t.1 in
          subst (Occurs C) t.2 (at_occurs C t.0 (beside_pieces t.0 k.0) (is_crossing_true (kind C t.0) k.1)))
          (Memᴰ.append_cases (ends C (upto n)) r.0)
          in
          (o, beyond_true C F s.active s.last L p o r.1)

      queued : Queued C F s.active s.last L (queue C s)
      queued = record { a_min = queue_min; a_max = queue_max; beside = queue_beside; only = queue_out }

      -- where the queue is empty, no point is left
      pub next_none : next C s ≡ none → (x : Point) → Occurs C x → key x < bound key s.last
      unfolding next
      next_none e = queued_none C F s.active s.last L (queue C s) queued e

      module _ (p : Point) (hp : next C s ≡ some p) where
        pub next_soonest : Soonest C F s.last p
        unfolding next
        next_soonest = queued_soonest C F s.active s.last L (queue C s) queued p hp

        abbrev within : ℕ → Bool
        within = inside C F s.active s.last L p next_soonest

        -- the pieces at p are those that lie on it
        pub on_part : (i : ℕ) → i < n → F.On i p → takes_part C s.active p i ≡ true
        unfolding takes_part
        on_part i h o = go (on_cases C F s.active s.last L p next_soonest i h o)
          where
            go : (starts C p i ≡ true) ⊎ ((finishes C p i ≡ true) ⊎ (within i ≡ true)) → takes_part C s.active p i ≡ true
            go (inl e) = or_left (starts C p i || finishes C p i) (within i) (or_left (starts C p i) (finishes C p i) e)
            go (inr (inl e)) = or_left (starts C p i || finishes C p i) (within i) (or_right (starts C p i) (finishes C p i) e)
            go (inr (inr e)) = or_right (starts C p i || finishes C p i) (within i) e

        pub part_on : (i : ℕ) → i < n → takes_part C s.active p i ≡ true → F.On i p
        unfolding takes_part
        part_on i h e =
            ⊎_elim
            (λ (r : (starts C p i || finishes C p i) ≡ true).
            ⊎_elim
            (λ (a : starts C p i ≡ true). starts_on C F s.active s.last L p next_soonest i h a)
            (λ (a : finishes C p i ≡ true). finishes_on C F s.active s.last L p next_soonest i h a)
            (or_one (starts C p i) (finishes C p i) r))
            (λ (a : within i ≡ true). inside_on C F s.active s.last L p next_soonest i h a)
            (or_one (starts C p i || finishes C p i) (within i) e)

        pub step_listed : (step C s p).listed ≡ s.listed ++ pairs_at C p
        unfolding step reported pieces
        step_listed =
            pass_lists C (λ (l : List Pair). l) (report C) report_yes report_no F s.last p next_soonest (takes_part C s.active p) part_on on_part s.listed I.pairs_met

        -- who goes on, and who starts
        abbrev pub stayers : List ℕ
        stayers = keep (λ i. not (finishes C p i)) s.active

        abbrev pub starters : List ℕ
        starters = keep (starts C p) (upto n)

        pub member_act : (i : ℕ) → In i (stayers ++ starters) → Act C key p i
        member_act i m =
            ⊎_elim
            (λ (h : In i stayers).
            let r = keep_out (λ i. not (finishes C p i)) s.active h in
            goes_on C F s.active s.last L p next_soonest i r.0 (not_true _ r.1))
            (λ (h : In i starters). let r = keep_out (starts C p) (upto n) h in starts_act C F s.active s.last L p next_soonest i (upto_out n r.0) r.1)
            (Memᴰ.append_cases stayers m)

        pub act_member : (i : ℕ) → Act C key p i → In i (stayers ++ starters)
        act_member i a = go (act_cases C F s.active s.last L p next_soonest i a)
          where
            go : (starts C p i ≡ true) ⊎ In i s.active → In i (stayers ++ starters)
            go (inl e) = Memᴰ.append_right stayers (keep_in (starts C p) (upto_in n i a.0) e)
            go (inr m) = Memᴰ.append_left {s = stayers} starters (keep_in (λ j. not (finishes C p j)) m (rw (act_late C F s.active s.last L p next_soonest i a)))

        pub members_once : Pairwise (λ i j. i ≢ j) (stayers ++ starters)
        members_once =
            pairwise_append (λ i j. i ≢ j) stayers starters
            (pairwise_keep (λ i j. i ≢ j) (λ i. not (finishes C p i)) s.active L.once)
            (pairwise_keep (λ i j. i ≢ j) (starts C p) (upto n) (upto_once n))
            (λ i j a b.
            let r = keep_out (starts C p) (upto n) b in
            starts_apart C F s.active s.last L p next_soonest i j (keep_out (λ i. not (finishes C p i)) s.active a).0 (upto_out n r.0) r.1)

        pub step_inv : Inv (step C s p)
        unfolding step ranged bound
        step_inv =
            record {
              lined = sorted_lined C F p next_soonest.occurs (stayers ++ starters) member_act act_member members_once;
              pairs_met = rw step_listed (met_more C F s.last p next_soonest s.listed I.pairs_met);
            }
