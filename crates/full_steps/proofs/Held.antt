-- A run in place holds what the run does, step by step, and answers the same.
use mathlib.Core.Path.{◌≡◌, refl, sym, ap, ◌∙◌}
use mathlib.Core.Logic.{⊎_elim}
use mathlib.Core.Bool.{true, false}
use mathlib.Core.Option.{Option, none, some}
use mathlib.Core.List.{List, [], ◌∷◌, ◌++◌, map}
use Prim.Native.Nat.{ℕ, zero, suc}
use Rattle.sweep.specs.Lists.{Pair, upto, keep, adjacent}
use Rattle.sweep.specs.Chart.{Chart, kind, at}
use Rattle.sweep.specs.Queue.{ends, beyond, least}
use Rattle.sweep.specs.Run.{is_none}
use Rattle.sweep.specs.Sought.{is_crossing}
use Rattle.sweep.specs.Geometry.{Geometry}
use Rattle.sweep.proofs.Tests.{ask, clash}
use Rattle.sweep.proofs.Lists.{keep_append}
use Rattle.sweep.proofs.Ranked.{ranked}
use Rattle.full_steps.specs.Steps.{State, start, crossings, queue, next, step, move_to, move, run, answer_of, answer}
use Rattle.full_steps.specs.InPlace.{somes, Sides, InPlaceFacts, lane, lanes, Held, empty, held_next, held_step, held_to, held_run, held_answer}
use Rattle.full_steps.specs.Demand.{StepsInPlace, held_of, InPlace}
use Rattle.full_steps.proofs.Promises.{run_inv}
use Rattle.full_steps.proofs.Sides.{parts}
use Rattle.full_steps.proofs.Replaced.{same_active}
use Rattle.full_steps.proofs.Fresh.{same_listed}
use Rattle.full_steps.proofs.Lanes.{lane_open, lane_shut, same_lanes}

module _ (C : Chart) where
  open C use {Point, n}

  -- the crossings of the queue are the lanes that are taken
  taken_lanes : (o : Option Point) (l : List Pair) → keep (beyond C o) (map (at C) (keep (λ q. is_crossing (kind C q)) l)) ≡ somes (map (lane C o) l)
  unfolding keep somes
  taken_lanes o [] = refl
  taken_lanes o (q ∷ l) =
      ⊎_elim
      (λ (e : is_crossing (kind C q) ≡ true).
      ⊎_elim
      (λ (d : beyond C o (at C q) ≡ true). rw (lane_open C o q e d, e, d) (ap (λ (z : List Point). at C q ∷ z) (taken_lanes o l)))
      (λ (d : beyond C o (at C q) ≡ false). rw (lane_shut C o q (λ h. d), e, d) (taken_lanes o l))
      (ask (beyond C o (at C q))))
      (λ (e : is_crossing (kind C q) ≡ false). rw (lane_shut C o q (λ h. clash h e), e) (taken_lanes o l))
      (ask (is_crossing (kind C q)))

  next_held : (s : State C) → held_next C (held_of C s) ≡ next C s
  unfolding held_next next queue crossings lanes
  next_held s =
      ap (least C)
      (ap (λ (z : List Point). keep (beyond C s.last) (ends C (upto n)) ++ z) (sym (taken_lanes s.last (adjacent s.active)))
      ∙ sym (keep_append (beyond C s.last) (ends C (upto n)) (map (at C) (keep (λ q. is_crossing (kind C q)) (adjacent s.active)))))

  module _ (S : Sides C) (G : Geometry C) (A : InPlaceFacts C S G) where
    steps_in_place : StepsInPlace C S
    steps_in_place m p hp =
        let I = run_inv C (ranked C G) m in
        record {
          parts = parts C S G A (run C m) I p hp;
          same_active = same_active C S G A (run C m) I p hp;
          same_listed = same_listed C S G A (run C m) I p hp;
          same_lanes = same_lanes C S G A (run C m) I p hp;
        }

    step_held : (m : ℕ) (p : Point) → next C (run C m) ≡ some p → held_step C S (held_of C (run C m)) p ≡ held_of C (step C (run C m) p)
    unfolding held_step step
    step_held m p hp =
        let t = steps_in_place m p hp in
        λ i. record {
          active = (sym t.same_active) i;
          lanes = (sym t.same_lanes) i;
          listed = (sym t.same_listed) i;
          last = some p;
          steps = suc (run C m).steps;
        }

    same_state : (m : ℕ) → held_run C S m ≡ held_of C (run C m)
    unfolding held_run run move
    same_state zero = unfold empty start lanes adjacent in refl
    same_state (suc m) =
        ap (λ (h : Held C). held_to C S h (held_next C h)) (same_state m)
        ∙ ap (held_to C S (held_of C (run C m))) (next_held (run C m))
        ∙ go (next C (run C m)) refl
      where
        go : (o : Option Point) → next C (run C m) ≡ o → held_to C S (held_of C (run C m)) o ≡ held_of C (move_to C (run C m) o)
        go none e = unfold held_to move_to in refl
        go (some p) e = unfold held_to move_to in step_held m p e

    same_next : (m : ℕ) → held_next C (held_run C S m) ≡ next C (run C m)
    same_next m = ap (held_next C) (same_state m) ∙ next_held (run C m)

    same_answer : (m : ℕ) → held_answer C S m ≡ answer C m
    unfolding held_answer answer answer_of
    same_answer m =
        let e = same_state m in
        λ i. record {
          listed = (e i).listed;
          steps = (e i).steps;
          ended = is_none C (same_next m i);
          complete = true;
          last = (e i).last;
        }

pub in_place : InPlace
in_place C S G A = (
  steps_in_place C S G A,
  λ m. record { same_state = same_state C S G A m; same_next = same_next C S G A m; same_answer = same_answer C S G A m },
)
