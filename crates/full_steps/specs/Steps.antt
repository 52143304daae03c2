-- The new mode of the sweep on one page: what it knows between two steps, its queue, one step, and a run with a budget.
-- The words are those of crate sweep; the order of the active list is the chart's `before`.
use Rattle.std.specs.Prelude.{Bool, true, cond, ◌&&◌, ◌||◌, not, List, [], ◌∷◌, ◌++◌, map, ℕ, zero, suc, eqb}
use Rattle.std.proofs.Math.Option.{Option, none, some}
use Rattle.sweep.specs.Lists.{Pair, among, upto, keep, any, sort, pairs, adjacent}
use Rattle.sweep.specs.Chart.{Chart, meets, kind, at}
use Rattle.sweep.specs.Queue.{ends, beyond, least}
use Rattle.sweep.specs.Step.{each, starts, finishes}
use Rattle.sweep.specs.Run.{Answer, taken, is_none}
use Rattle.sweep.specs.Sought.{is_crossing}

module _ (C : Chart) where
  open C use {Point, n, contains, before}

  pub record State : Type 0 where
    -- the pieces under the sweep, from the lowest to the highest
    pub active : List ℕ
    -- the pairs listed, in the order in which they came, the lesser number first
    pub listed : List Pair
    -- the point visited last
    pub last : Option Point
    pub steps : ℕ

  unfoldable pub start : State
  start = record { active = []; listed = []; last = none; steps = 0 }

  -- where neighbours of the active list cross, from the front
  unfoldable pub crossings : List ℕ → List Point
  crossings active = map (at C) (keep (λ q. is_crossing (kind C q)) (adjacent active))

  -- the queue holds the ends beyond the last point, and the crossings beyond it of adjacent active pieces
  unfoldable pub queue : State → List Point
  queue s = keep (beyond C s.last) (ends C (upto n) ++ crossings s.active)

  -- a step takes the least point p of it; none: the queue is empty
  unfoldable pub next : State → Option Point
  next s = least C (queue s)

  -- the pieces at p are those that start or finish there, and the active ones that contain p, in number order
  unfoldable pub takes_part : List ℕ → Point → ℕ → Bool
  takes_part active p i = starts C p i || finishes C p i || (any (eqb i) active && contains i p)

  unfoldable pub pieces : List ℕ → Point → List ℕ
  pieces active p = keep (takes_part active p) (upto n)

  -- each pair of them, in order, that is not yet listed and passes the test is listed
  unfoldable pub report : Pair → List Pair → List Pair
  report q listed = cond (not (among q listed) && meets (kind C q)) (listed ++ (q ∷ [])) listed

  unfoldable pub reported : State → Point → List Pair
  reported s p = each report (pairs (pieces s.active p)) s.listed

  -- finishing pieces leave the active list, starting ones enter it, and it is sorted as the pieces stand just after p
  unfoldable pub ranged : List ℕ → Point → List ℕ
  ranged active p = sort (before p) (keep (λ i. not (finishes C p i)) active ++ keep (starts C p) (upto n))

  unfoldable pub step : State → Point → State
  step s p = record { active = ranged s.active p; listed = reported s p; last = some p; steps = suc s.steps }

  -- a step, where the queue has a point
  unfoldable pub move_to : State → Option Point → State
  move_to s none = s
  move_to s (some p) = step s p

  unfoldable pub move : State → State
  move s = move_to s (next s)

  unfoldable pub run : ℕ → State
  run zero = start
  run (suc m) = move (run m)

  -- the points that the first m steps take, in order; no part of the state
  unfoldable pub visited : ℕ → List Point
  visited zero = []
  visited (suc m) = visited m ++ taken C (next (run m))

  -- the ported mode's answer, but that "complete" is always yes
  unfoldable pub answer_of : State → Answer C
  answer_of s = record { listed = s.listed; steps = s.steps; ended = is_none C (next s); complete = true; last = s.last }

  unfoldable pub answer : ℕ → Answer C
  answer budget = answer_of (run budget)
