-- A run of the sweep with a budget of steps, the points that it visits, and what it answers.
use Rattle.std.specs.Prelude.{Bool, true, false, not, List, [], ◌∷◌, ◌++◌, ℕ, zero, suc}
use Rattle.std.proofs.Math.Option.{Option, none, some}
use Rattle.sweep.specs.Lists.{Pair, upto, any}
use Rattle.sweep.specs.Chart.{Chart}
use Rattle.sweep.specs.State.{State, start}
use Rattle.sweep.specs.Queue.{next}
use Rattle.sweep.specs.Step.{step}

module _ (C : Chart) where
  open C use {Point, n, upright}

  -- a step, where the queue has a point
  unfoldable pub move_to : State C → Option Point → State C
  move_to s none = s
  move_to s (some p) = step C s p

  unfoldable pub move : State C → State C
  move s = move_to s (next C s)

  -- so many steps onwards
  unfoldable pub onwards : ℕ → State C → State C
  onwards zero s = s
  onwards (suc m) s = move (onwards m s)

  unfoldable pub run : ℕ → State C
  run m = onwards m (start C)

  unfoldable pub taken : Option Point → List Point
  taken none = []
  taken (some p) = p ∷ []

  -- the points that the first m steps take, in order; no part of the state
  unfoldable pub visited : ℕ → List Point
  visited zero = []
  visited (suc m) = visited m ++ taken (next C (run m))

  unfoldable pub is_none : Option Point → Bool
  is_none none = true
  is_none (some p) = false

  -- "It returns pairs listed, steps done (the lesser of budget and steps to the empty queue), whether the queue is
  -- empty, whether the chart has no upright piece ("complete"), and the last point, or none after zero steps."
  pub record Answer : Type 0 where
    pub listed : List Pair
    pub steps : ℕ
    pub ended : Bool
    pub complete : Bool
    pub last : Option Point

  unfoldable pub answer_of : State C → Answer
  answer_of s = record {
    listed = s.marks.listed;
    steps = s.steps;
    ended = is_none (next C s);
    complete = not (any upright (upto n));
    last = s.last;
  }

  unfoldable pub answer : ℕ → Answer
  answer budget = answer_of (run budget)
