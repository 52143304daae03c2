-- What is promised of the new mode: all that Demand of crate sweep states over a run, from the facts of geometry alone;
-- and that the step done in place is the step.
use Rattle.std.specs.Prelude.{◌≡◌, ◌↔◌, Bool, true, false, [], ◌++◌, ℕ}
use Rattle.std.proofs.Math.Option.{none, some}
use Rattle.sweep.specs.Lists.{upto, keep, any}
use Rattle.sweep.specs.Chart.{Chart}
use Rattle.sweep.specs.Queue.{ends, beyond}
use Rattle.sweep.specs.Run.{answer as ported_answer}
use Rattle.sweep.specs.Geometry.{Geometry}
use Rattle.sweep.specs.Demand.{Run, RunPromises, ported_run, reordered, SameAnswers}
use Rattle.full_steps.specs.Steps.{State, next, reported, ranged, run, visited, answer}
use Rattle.full_steps.specs.InPlace.{Sides, InPlaceFacts, below, block, above, replaced, fresh_pairs, lanes, relaned, Held, held_next, held_run, held_answer}

-- the run of the new mode
abbrev pub full_run : (C : Chart) → Run C
full_run C = record { visited = visited C; answer = answer C }

abbrev pub Promised : Type 1
Promised = (C : Chart) → Geometry C → RunPromises C (full_run C)

-- "complete" is always yes
abbrev pub SaysComplete : Type 1
SaysComplete = (C : Chart) (budget : ℕ) → (answer C budget).complete ≡ true

-- where the ported mode's order too has the facts of geometry, both modes say the same at every budget; on a chart with no
-- upright piece, that they are complete as well
pub record ModesAgree (C : Chart) (before : C.Point → ℕ → ℕ → Bool) : Type 0 where
  pub same_answers : SameAnswers C before (ported_run C) (full_run (reordered C before))
  pub same_complete : any C.upright (upto C.n) ≡ false → (budget : ℕ)
      → (ported_answer C budget).complete ≡ (answer (reordered C before) budget).complete

abbrev pub Agree : Type 1
Agree = (C : Chart) (before : C.Point → ℕ → ℕ → Bool) → Geometry C → Geometry (reordered C before) → ModesAgree C before

-- the queue is empty as soon as no end is left in it
abbrev pub EndsDecide : Type 1
EndsDecide =
    (C : Chart) → Geometry C → (m : ℕ)
    → (next C (run C m) ≡ none) ↔ (keep (beyond C (run C m).last) (ends C (upto C.n)) ≡ [])

-- a state, with its lanes
abbrev pub held_of : (C : Chart) → State C → Held C
held_of C s = record { active = s.active; lanes = lanes C s.last s.active; listed = s.listed; last = s.last; steps = s.steps }

module _ (C : Chart) (S : Sides C) where
  -- after m steps, at the next point p: the active list is what lies below p, goes through it and lies above it, in this
  -- order; and the block replaced, the fresh pairs and the lanes are what the step leaves
  pub record InPlaceAt (m : ℕ) (p : C.Point) : Type 0 where
    pub parts : (run C m).active ≡ below C S (run C m).active p ++ (block C S (run C m).active p ++ above C S (run C m).active p)
    pub same_active : ranged C (run C m).active p ≡ replaced C S (run C m).active p
    pub same_listed : reported C (run C m) p ≡ (run C m).listed ++ fresh_pairs C S (run C m).active p
    pub same_lanes : lanes C (some p) (ranged C (run C m).active p) ≡ relaned C S (lanes C (run C m).last (run C m).active) (run C m).active p

  abbrev pub StepsInPlace : Type 0
  StepsInPlace = (m : ℕ) (p : C.Point) → next C (run C m) ≡ some p → InPlaceAt m p

  -- so a run in place holds what the run does, and answers the same
  pub record Holds (m : ℕ) : Type 0 where
    pub same_state : held_run C S m ≡ held_of C (run C m)
    pub same_next : held_next C (held_run C S m) ≡ next C (run C m)
    pub same_answer : held_answer C S m ≡ answer C m

abbrev pub InPlace : Type 1
InPlace = (C : Chart) (S : Sides C) (G : Geometry C) → InPlaceFacts C S G → StepsInPlace C S × ((m : ℕ) → Holds C S m)
