-- The promises of a sweep, from what is known of its run: what it answers at each budget, and the points that it visits.
-- Assumes nothing.
use mathlib.Core.Path.{◌≡◌, refl, sym, ap, ◌∙◌, subst}
use mathlib.Core.Logic.{◌⊎◌, ◌≢◌, ◌↔◌, inl, inr, ⊎_elim}
use mathlib.Core.Bool.{Bool, true, false}
use mathlib.Core.List.{List, [], ◌∷◌, ◌++◌}
use mathlib.Core.List.{Memᴰ as In}
use mathlib.Core.Option as maybe
use mathlib.Core.Option.{none, some}
use Prim.Native.Nat.{ℕ, zero, suc, ◌+◌, ◌*◌, ◌≤◌, min}
use native.Mathlib.Omega.{arith}
use lib.IntN.{ℤ}
use lib.ListN.{length, take, length-take}
use Rattle.std.specs.Prelude.{Option, None, Some}
use Rattle.fractions.specs.Order.{turned}
use Rattle.fractions.specs.Point.{point_order}
use Rattle.std.specs.declared.cmp.Ordering.{Ordering}
use Rattle.std.specs.declared.cmp.Ordering.TheVariants.{Less, Equal, Greater}
use Rattle.fractions.specs.declared.Point.{Point}
use Rattle.fractions.proofs.Promises.{orders_points}
use Rattle.line_segment.specs.declared.LineSegment.{LineSegment}
use Rattle.charts.specs.Answer.{listing_of}
use Rattle.charts.specs.Chart.{verdict_of}
use Rattle.charts.specs.Piece.{piece_at}
use Rattle.charts.specs.Verdict.{Accepted, Refused}
use Rattle.charts.proofs.Listing.{listing_goes, listing_refuses_exactly}
use Rattle.naive.specs.Pairs.{bytes, over}
use Rattle.sweep.specs.Lists.{Pair, last_of, Pairwise}
use Rattle.sweep.specs.Chart.{Chart, meets, kind}
use Rattle.sweep.specs.Run.{Answer as Told}
use Rattle.sweep.specs.Sought.{first, points, meeting}
use Rattle.sweep.specs.Geometry.{Occurs}
use Rattle.sweep.specs.Demand.{Pieces, Behind}
use Rattle.sweep.specs.Demand.{Before as Sooner}
use Rattle.sweep.specs.Ported.{is_less}
use Rattle.sweep.proofs.Lists.{pairwise_map}
use Rattle.sweep.proofs.Tests.{clash}
use Rattle.ported_arrays.proofs.Distinct.{distinct_fit}
use Rattle.sweep_geometry.specs.Demand.{LeastCommon}
use Rattle.bentley_ottmann.specs.declared.Swept.{Swept}
use Rattle.ported_run.specs.Last.{as_last}
use Rattle.bentley_ottmann.specs.Swept.{refused_with}
use Rattle.promises.specs.Chart.{Accepts, Before}
use Rattle.promises.specs.Sweep as due
use Rattle.promises.specs.Sweep.{Outcome, listed_in, Reached, EndsWith, SweepPromises}
use Rattle.promises.proofs.Refusing.{refusing, listing_decided}
use Rattle.naive.proofs.Reading.{read_back}
use Rattle.promises.proofs.AllPairs as pairs
use Rattle.promises.proofs.Geometry.{less_is, least_alike, chart, meets_exactly, first_least, meeting_exactly, turned_exactly, meeting_once, meeting_many, occurs_exactly}

-- ---- what is known of a run on the sweep's chart, whatever its steps are
module _ (C : Chart) (answer : ℕ → Told C) (visited : ℕ → List C.Point) where
  -- on every chart
  pub record Runs : Type 0 where
    pub lists_only : (budget : ℕ) (q : Pair) → In q (answer budget).listed → Pieces C q × (meets (kind C q) ≡ true)
    pub lists_once : (budget : ℕ) → Pairwise (λ q r. q ≢ r) (answer budget).listed
    pub lists_on : (a b : ℕ) → a ≤ b → (more : List Pair) × ((answer b).listed ≡ (answer a).listed ++ more)
    pub visits_only : (budget : ℕ) (p : C.Point) → In p (visited budget) → Occurs C p
    pub visits_up : (budget : ℕ) → Pairwise (λ p q. C.less p q ≡ true) (visited budget)
    pub steps_visited : (budget : ℕ) → (answer budget).steps ≡ length (visited budget)
    pub last_visited : (budget : ℕ) → (answer budget).last ≡ last_of (visited budget)
    pub steps_within : (budget : ℕ) → (answer budget).steps ≤ budget
    pub ended_or_spent : (budget : ℕ) → ((answer budget).ended ≡ true) ⊎ ((answer budget).steps ≡ budget)
    pub steps_bounded : (budget : ℕ) → (answer budget).steps ≤ 2 * C.n + length (meeting C)
    pub ends_soon : (budget : ℕ) → 2 * C.n + length (meeting C) ≤ budget → (answer budget).ended ≡ true

  -- where nothing is missing
  pub record Sweeps : Type 0 where
    pub lists_exactly : (budget : ℕ) (q : Pair) → In q (answer budget).listed ↔ (Pieces C q × (meets (kind C q) ≡ true) × Behind C (answer budget).last (first C q))
    pub lists_in_order : (budget : ℕ) → Pairwise (Sooner C) (answer budget).listed
    pub lists_all : (budget : ℕ) → (answer budget).ended ≡ true → (q : Pair) → In q (answer budget).listed ↔ In q (meeting C)
    pub visits_first : (budget : ℕ) → visited budget ≡ take budget (points C)
    pub all_of : (p : C.Point) → In p (points C) ↔ Occurs C p
    pub ascending : Pairwise (λ p q. C.less p q ≡ true) (points C)
    pub counts_steps : (budget : ℕ) → (answer budget).steps ≡ min budget (length (points C))
    pub ends_exactly : (budget : ℕ) → ((answer budget).ended ≡ true) ↔ (length (points C) ≤ budget)

-- ---- at or before the last point
not_less : (o : Ordering) → is_less o ≡ false → ¬ (o ≡ Less)
not_less o e z = clash (ap is_less z) e

less_not : (o : Ordering) → ¬ (o ≡ Less) → is_less o ≡ false
less_not Less h = absurd (h refl)
less_not Equal h = refl
less_not Greater h = refl

reached_alike : (a b : LineSegment) (p q : Point) (l : Option Point) → LeastCommon a b p → LeastCommon a b q → Reached l p → Reached l q
reached_alike a b p q None h k r = r
reached_alike a b p q (Some l) h k r =
    λ e. r (orders_points.other_way p l ∙ ap turned (orders_points.alike p q l h.common.positive k.common.positive (least_alike a b p q h k)) ∙ sym (orders_points.other_way q l) ∙ e)

-- the last of a list is what it ends with
ends_with : (l : List Point) → EndsWith l (as_last (last_of l))
unfolding last_of
ends_with [] = refl
ends_with (p ∷ []) = ([], refl)
ends_with (p ∷ q ∷ l) = longer (last_of (q ∷ l)) (ends_with (q ∷ l))
  where
    longer : (o : maybe.Option Point) → EndsWith (q ∷ l) (as_last o) → EndsWith (p ∷ q ∷ l) (as_last o)
    longer none e = absurd (omega (arith, ap length e))
    longer (some z) e = (p ∷ e.0, ap (λ (t : List Point). p ∷ t) e.1)

taken_back : {A : Type 0} (m : ℕ) (l : List A) → take (length (take m l)) l ≡ take m l
taken_back zero l = refl
taken_back (suc m) [] = refl
taken_back (suc m) (x ∷ l) = ap (λ (t : List _). x ∷ t) (taken_back m l)

-- ---- a call whose outcomes tell a run's answers
module _ (Allowed : Outcome) (Whole : List ℤ → ℕ → Type 0)
    (order : List ℤ → Point → ℕ → ℕ → Bool)
    (run : (list : List ℤ) (n : ℕ) → ℕ → Told (chart (order list) list n))
    (visited : List ℤ → ℕ → ℕ → List Point) (tried : List ℤ → ℕ → ℕ → ℕ) where
  abbrev C : List ℤ → ℕ → Chart
  C list n = chart (order list) list n

  abbrev pub telling : (list : List ℤ) (n budget : ℕ) → Swept
  telling list n budget =
      let a = run list n budget in
      record { number = 0; place = 0; pairs = length a.listed; steps = a.steps; ended = a.ended; complete = a.complete; last = as_last a.last; examined = tried list n budget }

  pub record Call : Type 0 where
    pub done : (list : List ℤ) (n budget : ℕ) (lent : List ℕ) (r : Swept) (after : List ℕ) → listing_of list (length lent) ≡ Accepted n → Allowed list budget lent r after
        → (r ≡ telling list n budget) × (after ≡ over (bytes (run list n budget).listed) lent)
    pub refused : (list : List ℤ) (budget : ℕ) (lent : List ℕ) (r : Swept) (after : List ℕ) → Allowed list budget lent r after → (k p : ℕ) → listing_of list (length lent) ≡ Refused k p
        → (r ≡ refused_with k p) × (after ≡ lent)
    pub complete : (list : List ℤ) (n budget : ℕ) → verdict_of list ≡ Accepted n → ((run list n budget).complete ≡ true) ↔ Whole list n
    pub runs : (list : List ℤ) (n : ℕ) → verdict_of list ≡ Accepted n → Runs (C list n) (run list n) (visited list n)
    pub sweeps : (list : List ℤ) (n : ℕ) → verdict_of list ≡ Accepted n → Whole list n → Sweeps (C list n) (run list n) (visited list n)

  module _ (call : Call) where
    -- ---- an outcome on an accepted list
    module _ (list : List ℤ) (n budget : ℕ) (lent : List ℕ) (c : Accepts list lent n) where
      given : listing_of list (length lent) ≡ Accepted n
      given = (listing_refuses_exactly list (length lent) (Accepted n)).1 c

      accepted : verdict_of list ≡ Accepted n
      accepted = (listing_goes list (length lent) n given).0

      R : Runs (C list n) (run list n) (visited list n)
      R = call.runs list n accepted

      module _ {r : Swept} {after : List ℕ} (o : Allowed list budget lent r after) where
        says : r ≡ telling list n budget
        says = (call.done list n budget lent r after given o).0

        leaves : after ≡ over (bytes (run list n budget).listed) lent
        leaves = (call.done list n budget lent r after given o).1

        its_list : listed_in r after ≡ (run list n budget).listed
        its_list = rw (says, leaves) (read_back (run list n budget).listed lent)

        its_last : r.last ≡ as_last (run list n budget).last
        its_last = ap (λ (s : Swept). s.last) says

        its_steps : r.steps ≡ (run list n budget).steps
        its_steps = ap (λ (s : Swept). s.steps) says

        its_end : r.ended ≡ (run list n budget).ended
        its_end = ap (λ (s : Swept). s.ended) says

        its_pairs : r.pairs ≡ length (run list n budget).listed
        its_pairs = ap (λ (s : Swept). s.pairs) says

        as_many : length (meeting (C list n)) ≡ r.pairs → r.steps ≤ 2 * n + r.pairs
        as_many e = omega (arith, its_steps, R.steps_bounded budget, e)

    -- ---- on every chart
    lists_only : due.ListsOnly Allowed
    lists_only list n budget lent r after c o q m =
        (meets_exactly (order list) list n (accepted list n budget lent c) q).0 ((R list n budget lent c).lists_only budget q (rw (its_list list n budget lent c o) at m))

    lists_once : due.ListsOnce Allowed
    lists_once list n budget lent r after c o = rw (its_list list n budget lent c o) ((R list n budget lent c).lists_once budget)

    lists_on : due.ListsOn Allowed
    lists_on list n a b lent r s after beyond c o p h =
        let t = (R list n a lent c).lists_on a b h in
        (t.0, its_list list n b lent c p ∙ t.1 ∙ ap (λ (l : List Pair). l ++ t.0) (sym (its_list list n a lent c o)))

    moves_forward : due.MovesForward Allowed
    moves_forward list n budget lent r after c o =
        let t = R list n budget lent c in (
          visited list n budget,
          record {
            only = λ p m. (occurs_exactly (order list) list n (accepted list n budget lent c) p).0 (t.visits_only budget p m);
            ascending = pairwise_map _ (λ p q. point_order p q ≡ Less) (visited list n budget) (λ p q i j h. less_is (point_order p q) h) (t.visits_up budget);
          },
          record {
            steps = its_steps list n budget lent c o ∙ t.steps_visited budget;
            last = subst (EndsWith (visited list n budget)) (sym (its_last list n budget lent c o ∙ ap as_last (t.last_visited budget))) (ends_with (visited list n budget));
          },
        )

    counts_steps : due.CountsSteps Allowed
    counts_steps list n budget lent r after c o =
        let t = R list n budget lent c in
        rw (its_steps list n budget lent c o, its_end list n budget lent c o) (t.steps_within budget, t.ended_or_spent budget)

    steps_bounded : due.StepsBounded Allowed
    steps_bounded list n budget lent r after c o other a all d p =
        omega (arith, its_steps list n budget lent c o, (R list n budget lent c).steps_bounded budget, meeting_many (order list) list n (accepted list n budget lent c), pairs.its_count list n other d p)

    ends_in_time : due.EndsInTime Allowed
    ends_in_time list n budget lent r after c o other a all d p h =
        its_end list n budget lent c o ∙ (R list n budget lent c).ends_soon budget (omega (arith, meeting_many (order list) list n (accepted list n budget lent c), pairs.its_count list n other d p))

    keeps_the_rest : due.KeepsTheRest Allowed
    keeps_the_rest list n budget lent r after c o =
        let l = its_list list n budget lent c o in
        (its_pairs list n budget lent c o ∙ ap length (sym l), leaves list n budget lent c o ∙ ap (λ (m : List Pair). over (bytes m) lent) (sym l))

    refusals : due.Refusals Allowed
    refusals budget =
        refusing
        (λ i. listing_decided i.0 (length i.1))
        (λ i o a k p d. let t = call.refused i.0 budget i.1 o.0 o.1 a k p ((listing_refuses_exactly i.0 (length i.1) (Refused k p)).1 d) in λ j. (t.0 j, t.1 j))
        (λ i o a c. let s = says i.0 c.0 budget i.1 c.1 a in (ap (λ (t : Swept). t.number) s, ap (λ (t : Swept). t.place) s))
        (λ i k p. (refl, refl))

    says_complete : due.SaysComplete Allowed Whole
    says_complete list n budget lent r after c o =
        rw (ap (λ (s : Swept). s.complete) (says list n budget lent c o)) (call.complete list n budget (accepted list n budget lent c))

    -- ---- where nothing may be missing
    lists_exactly : due.ListsExactly Allowed Whole
    lists_exactly list n budget lent r after c o w q =
        let a = accepted list n budget lent c in
        let t = (call.sweeps list n a w).lists_exactly budget q in
        let behind = reached (run list n budget).last (first (C list n) q) in
        rw (its_list list n budget lent c o, its_last list n budget lent c o) (
          λ m.
              let h = t.0 m in
              let g = (meets_exactly (order list) list n a q).0 (h.0, h.1) in
              (g, (first (C list n) q, first_least (order list) list n a q g, behind.0 h.2)),
          λ h.
              let m = (meets_exactly (order list) list n a q).1 h.0 in
              t.1 (m.0, m.1, behind.1 (reached_alike _ _ _ _ (as_last (run list n budget).last) h.1.1 (first_least (order list) list n a q h.0) h.1.2)),
        )
      where
        reached : (l : maybe.Option Point) (p : Point) → Behind (C list n) l p ↔ Reached (as_last l) p
        reached none p = (λ h. h, λ h. h)
        reached (some l) p = (not_less (point_order l p), less_not (point_order l p))

    lists_in_order : due.ListsInOrder Allowed Whole
    lists_in_order list n budget lent r after c o w =
        let a = accepted list n budget lent c in
        rw (its_list list n budget lent c o)
        (pairwise_map _ (Before list) (run list n budget).listed (before a) ((call.sweeps list n a w).lists_in_order budget))
      where
        meets_at : verdict_of list ≡ Accepted n → (q : Pair) → In q (run list n budget).listed → LeastCommon (piece_at list q.0) (piece_at list q.1) (first (C list n) q)
        meets_at a q m = first_least (order list) list n a q ((meets_exactly (order list) list n a q).0 ((call.runs list n a).lists_only budget q m))

        before : verdict_of list ≡ Accepted n → (q s : Pair) → In q (run list n budget).listed → In s (run list n budget).listed → Sooner (C list n) q s → Before list q s
        before a q s i j h =
            record {
              here = first (C list n) q;
              there = first (C list n) s;
              first = meets_at a q i;
              second = meets_at a s j;
              in_order =
                  ⊎_elim
                  (λ (l : is_less (point_order (first (C list n) q) (first (C list n) s)) ≡ true). inl (less_is (point_order (first (C list n) q) (first (C list n) s)) l))
                  (λ k. inr (ap (λ (p : Point). point_order p (first (C list n) s)) k.0 ∙ orders_points.itself (first (C list n) s), k.1))
                  h;
            }

    visits_in_order : due.VisitsInOrder Allowed Whole
    visits_in_order list n budget lent r after c o w =
        let a = accepted list n budget lent c in
        let t = call.sweeps list n a w in
        let seen = points (C list n) in
        let steps = its_steps list n budget lent c o ∙ t.counts_steps budget in (
          seen,
          record {
            all_of = λ p. (λ m. (occurs_exactly (order list) list n a p).0 ((t.all_of p).0 m), λ h. (t.all_of p).1 ((occurs_exactly (order list) list n a p).1 h));
            ascending = pairwise_map _ (λ p q. point_order p q ≡ Less) seen (λ p q i j h. less_is (point_order p q) h) t.ascending;
          },
          record {
            steps = steps;
            last =
                let passed = t.visits_first budget ∙ sym (taken_back budget seen) ∙ ap (λ (k : ℕ). take k seen) (length-take budget seen ∙ sym steps) in
                subst (EndsWith (take r.steps seen)) (sym (its_last list n budget lent c o ∙ ap as_last ((R list n budget lent c).last_visited budget ∙ ap last_of passed))) (ends_with (take r.steps seen));
            ended = rw (its_end list n budget lent c o) (t.ends_exactly budget);
          },
        )

    -- a full list has every pair that meets, and no other
    module _ (list : List ℤ) (n budget : ℕ) (lent : List ℕ) (r : Swept) (after : List ℕ) (c : Accepts list lent n) (o : Allowed list budget lent r after) (w : Whole list n) (h : r.ended ≡ true) where
      its_all : (q : Pair) → In q (run list n budget).listed ↔ In q (meeting (C list n))
      its_all = (call.sweeps list n (accepted list n budget lent c) w).lists_all budget (sym (its_end list n budget lent c o) ∙ h)

      all_many : length (meeting (C list n)) ≡ r.pairs
      all_many =
          let a = accepted list n budget lent c in
          omega (
            arith,
            its_pairs list n budget lent c o,
            distinct_fit (run list n budget).listed (meeting (C list n)) ((R list n budget lent c).lists_once budget) (λ q. (its_all q).0),
            distinct_fit (meeting (C list n)) (run list n budget).listed (meeting_once (order list) list n a) (λ q. (its_all q).1),
          )

    lists_meetings : due.ListsMeetings Allowed Whole
    lists_meetings list n budget lent r after c o w h =
        let full = its_all list n budget lent r after c o w h in (
          (keeps_the_rest list n budget lent r after c o).0,
          λ q. rw (its_list list n budget lent c o) (
            λ m. (meeting_exactly (order list) list n (accepted list n budget lent c) q).0 ((full q).0 m),
            λ m. (full q).1 ((meeting_exactly (order list) list n (accepted list n budget lent c) q).1 m),
          ),
        )

    lists_all_pairs : due.ListsAllPairs Allowed Whole
    lists_all_pairs list n budget lent r after c o w other a all d p h =
        let e = accepted list n budget lent c in
        let full = its_all list n budget lent r after c o w h in (
          omega (arith, all_many list n budget lent r after c o w h, meeting_many (order list) list n e, pairs.its_count list n other d p),
          λ i j. rw (its_list list n budget lent c o, pairs.its_list list n other d p) (
            λ m. (turned_exactly (order list) list n e i j).1 ((meeting_exactly (order list) list n e (i, j)).0 ((full (i, j)).0 m)),
            λ m. (full (i, j)).1 ((meeting_exactly (order list) list n e (i, j)).1 ((turned_exactly (order list) list n e i j).0 m)),
          ),
        )

    full_sweep_bounded : due.FullSweepBounded Allowed Whole
    full_sweep_bounded list n budget lent r after c o w h = as_many list n budget lent c o (all_many list n budget lent r after c o w h)

    pub sweep_promises : SweepPromises Allowed Whole
    sweep_promises =
        record {
          lists_only = lists_only;
          lists_once = lists_once;
          lists_on = lists_on;
          moves_forward = moves_forward;
          counts_steps = counts_steps;
          steps_bounded = steps_bounded;
          ends_in_time = ends_in_time;
          keeps_the_rest = keeps_the_rest;
          refusals = refusals;
          lists_exactly = lists_exactly;
          lists_in_order = lists_in_order;
          visits_in_order = visits_in_order;
          lists_meetings = lists_meetings;
          lists_all_pairs = lists_all_pairs;
          full_sweep_bounded = full_sweep_bounded;
          says_complete = says_complete;
        }
