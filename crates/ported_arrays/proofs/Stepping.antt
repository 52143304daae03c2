-- A step on arrays is a step of the sweep.
use mathlib.Core.Path.{◌≡◌, refl, sym, ap, ◌∙◌, subst}
use mathlib.Core.Logic.{⊎_elim, ◌≢◌}
use mathlib.Core.Bool.{true, not}
use mathlib.Core.Option.{some}
use mathlib.Core.List.{List}
use mathlib.Core.List.{Memᴰ as In}
use Prim.Native.Nat.{ℕ, suc, ◌*◌, ◌<◌}
use native.Mathlib.Omega.{arith}
use Rattle.sweep.specs.Lists.{Pair, upto, keep, pairs, adjacent, lesser_first, Pairwise}
use Rattle.sweep.specs.Chart.{Chart, same, at}
use Rattle.sweep.specs.State.{Marks, State}
use Rattle.sweep.specs.Queue.{beyond, next}
use Rattle.sweep.specs.Step.{takes_part, report, drop, reported, examine}
use Rattle.sweep.specs.Step.{pieces as taking, stay as staying, ranged as ranging, examined as examining, step as stepped}
use Rattle.sweep.specs.Demand.{Pieces}
use Rattle.sweep.proofs.Tests.{not_true}
use Rattle.sweep.proofs.Lists.{keep_in, keep_out, pairwise_keep}
use Rattle.sweep.proofs.Pairs.{upto_out, upto_up, pairs_out, lesser_two, lesser_up, adjacent_out}
use Rattle.sweep.proofs.Sorting.{sort_out}
use Rattle.ported_arrays.specs.Numbers.{end_of, end_at}
use Rattle.ported_arrays.specs.Insertion.{rest}
use Rattle.ported_arrays.specs.Ledger.{report as reports, examine as examines}
use Rattle.ported_arrays.specs.Event.{Sheet, dropped, examined, step}
use Rattle.ported_arrays.specs.Agreement.{Ordered, Room, Holds, Agrees}
use Rattle.ported_arrays.proofs.Fronts.{same_no, beyond_not}
use Rattle.ported_arrays.proofs.Dropping.{drop_holds}
use Rattle.ported_arrays.proofs.Passing.{each_holds, report_holds, examine_holds}
use Rattle.ported_arrays.proofs.Least.{end_fit}
use Rattle.ported_arrays.proofs.Nexts.{no_end_before, no_crossing_before}
use Rattle.ported_arrays.proofs.Roles.{ends_left_are}
use Rattle.ported_arrays.proofs.Taking.{here_is, stay_is}
use Rattle.ported_arrays.proofs.Begun.{Begun, AllAhead, reports_ahead, examines_ahead, report_drop, beyond_on}
use Rattle.ported_arrays.proofs.Ranging.{sort_once, fit, after, begun, stay_out, stay_begun, both, both_once, both_below, both_begun, ranged_is}

module _ (C : Chart) (O : Ordered C) (places : ℕ) (lent : List ℕ) (R : Room C places lent) (a : Sheet C) (s : State C) (G : Agrees C O places lent a s)
    (p : C.Point) (taken : next C s ≡ some p) where
  open C use {Point, less, n, min, before}

  at_p : O.Fit p
  at_p = fit C O places lent R a s G p taken

  -- adjacent members are two pieces that have begun
  two_of : (l : List ℕ) → Pairwise (λ i j. i ≢ j) l → ((i : ℕ) → In i l → (i < n) × Begun C p i) → (q : Pair) → In q (adjacent l)
      → Pieces C q × (Begun C p q.0 × Begun C p q.1)
  two_of l d h q m =
      let r = adjacent_out l m d in
      let x = h r.0 r.2 in
      let y = h r.1 r.3 in
      let u = lesser_up r.0 r.1 r.4 in
      ⊎_elim
      (λ (e : lesser_first r.0 r.1 ≡ (r.0, r.1)).
      let f : q ≡ (r.0, r.1) = r.5 ∙ e in
      subst (λ (z : Pair). Pieces C z × (Begun C p z.0 × Begun C p z.1)) (sym f)
      ((subst (λ (z : Pair). z.0 < z.1) e u, y.0), (x.1, y.1)))
      (λ (e : lesser_first r.0 r.1 ≡ (r.1, r.0)).
      let f : q ≡ (r.1, r.0) = r.5 ∙ e in
      subst (λ (z : Pair). Pieces C z × (Begun C p z.0 × Begun C p z.1)) (sym f)
      ((subst (λ (z : Pair). z.0 < z.1) e u, x.0), (y.1, x.1)))
      (lesser_two r.0 r.1)

  stay_two : (q : Pair) → In q (adjacent (staying C s p)) → Pieces C q × (Begun C p q.0 × Begun C p q.1)
  stay_two =
      two_of (staying C s p) (unfold staying in pairwise_keep _ _ s.active G.active_once)
      (λ i m. (G.active_below i (stay_out C O places lent R a s G p taken i m).0, stay_begun C O places lent R a s G p taken i m))

  ranged_once : Pairwise (λ i j. i ≢ j) (ranging C s p)
  unfolding ranging
  ranged_once = sort_once (before p) (both C O places lent R a s G p taken) (both_once C O places lent R a s G p taken)

  ranged_out : (i : ℕ) → In i (ranging C s p) → (i < n) × Begun C p i
  unfolding ranging
  ranged_out i m =
      let k = sort_out (before p) (both C O places lent R a s G p taken) m in
      (both_below C O places lent R a s G p taken i k, both_begun C O places lent R a s G p taken i k)

  ranged_two : (q : Pair) → In q (adjacent (ranging C s p)) → Pieces C q × (Begun C p q.0 × Begun C p q.1)
  ranged_two = two_of (ranging C s p) ranged_once ranged_out

  part_pairs : (q : Pair) → In q (pairs (taking C s p)) → Pieces C q
  unfolding taking
  part_pairs q m =
      let r = pairs_out (keep (takes_part C s p) (upto n)) (pairwise_keep _ (takes_part C s p) (upto n) (upto_up n)) m in
      (r.2, upto_out n (keep_out (takes_part C s p) (upto n) r.1).0)

  -- the three passes over pairs
  abbrev dropped_marks : Marks
  dropped_marks = drop C p s.marks

  dropped_holds : Holds C places lent (dropped C a p) dropped_marks
  unfolding dropped
  dropped_holds = drop_holds C O places lent R a.ledger s.marks G.holds p at_p (no_crossing_before C O places lent R a s G p taken)

  examined_holds : Holds C places lent (examined C a p) (examining C s p)
  unfolding examined examining reported
  examined_holds =
      rw (here_is C O places lent R a s G p taken, stay_is C O places lent R a s G p taken, ranged_is C O places lent R a s G p taken, ← (report_drop C p (pairs (taking C s p)) s.marks))
      (each_holds C O places lent R (examines C p) (examine C p) (adjacent (ranging C s p)) (λ q m. examine_holds C O places lent R p q (ranged_two q m).0) _ _
      (each_holds C O places lent R (examines C p) (examine C p) (adjacent (staying C s p)) (λ q m. examine_holds C O places lent R p q (stay_two q m).0) _ _
      (each_holds C O places lent R (reports C) (report C) (pairs (taking C s p)) (λ q m. report_holds C O places lent R q (part_pairs q m)) _ _ dropped_holds)))

  dropped_ahead : AllAhead C p dropped_marks
  unfolding drop
  dropped_ahead q m =
      let k = keep_out (λ q. not (same C (at C q) p)) s.marks.waiting m in
      let v = G.holds.waiting_once.pieces q k.0 in
      let b = G.waiting_begun q k.0 in
      record {
        beyond_p = same_no C O p at_p (at C q) (no_crossing_before C O places lent R a s G p taken q k.0) (not_true (same C (at C q) p) k.1);
        first_begun = begun C O places lent R a s G p taken q.0 (omega arith) b.0;
        second_begun = begun C O places lent R a s G p taken q.1 v.1 b.1;
      }

  examined_ahead : AllAhead C p (examining C s p)
  unfolding examining reported
  examined_ahead =
      rw (← (report_drop C p (pairs (taking C s p)) s.marks))
      (examines_ahead C p (adjacent (ranging C s p)) _
      (examines_ahead C p (adjacent (staying C s p)) _ (reports_ahead C p (pairs (taking C s p)) dropped_marks dropped_ahead) (λ q m. (stay_two q m).1))
      (λ q m. (ranged_two q m).1))

  ends_kept : (e : ℕ) → e < 2 * n → less p (end_of C e) ≡ true → In e (rest (end_at C p) a.ends)
  unfolding end_at
  ends_kept e h d =
      rw (ends_left_are C O places lent R a s G p taken)
      (keep_in (λ e. not (end_at C p e))
      (G.ends_in e h (beyond_on C O s.last G.last_fit p at_p (after C O places lent R a s G p taken) (end_of C e) (end_fit C O places lent R a s G e h) d))
      (ap not (beyond_not C O p at_p (end_of C e) d)))

  ends_out : (e : ℕ) → In e (rest (end_at C p) a.ends) → (e < 2 * n) × (less p (end_of C e) ≡ true)
  unfolding end_at
  ends_out e m =
      let k = keep_out (λ e. not (end_at C p e)) a.ends (subst (λ (l : List ℕ). In e l) (ends_left_are C O places lent R a s G p taken) m) in
      let f = no_end_before C O places lent R a s G p taken e k.0 in
      ((G.ends_out e k.0).0, same_no C O p at_p (end_of C e) f.1 (not_true (same C (end_of C e) p) k.1))

  pub step_agrees : Agrees C O places lent (step C a p) (stepped C s p)
  unfolding step stepped beyond
  step_agrees =
      record {
        active_is = ranged_is C O places lent R a s G p taken;
        active_below = λ i m. (ranged_out i m).0;
        active_once = ranged_once;
        active_begun = λ i m. (ranged_out i m).1;
        ends_in = ends_kept;
        ends_out = ends_out;
        ends_up = rw (ends_left_are C O places lent R a s G p taken) (pairwise_keep _ _ a.ends G.ends_up);
        holds = examined_holds;
        waiting_beyond = λ q m. (examined_ahead q m).beyond_p;
        waiting_begun = λ q m. ((examined_ahead q m).first_begun, (examined_ahead q m).second_begun);
        last_is = refl;
        last_fit = λ q e. let d : p ≡ q = cc in subst O.Fit d at_p;
        steps_are = ap suc G.steps_are;
      }
