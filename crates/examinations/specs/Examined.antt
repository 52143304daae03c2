-- "Each adjacent pair is examined, in order. .. Adjacent pairs are examined again." How many that are, skipped ones too:
-- of the pieces that stay, and of the active list afterwards.
use Rattle.std.proofs.Math.Option.{Option, none, some}
use Rattle.std.specs.Prelude.{ℕ, zero, suc, ◌+◌, length}
use Rattle.sweep.specs.Lists.{adjacent}
use Rattle.sweep.specs.Chart.{Chart}
use Rattle.sweep.specs.State.{State}
use Rattle.sweep.specs.Queue.{next}
use Rattle.sweep.specs.Step.{stay, ranged}
use Rattle.sweep.specs.Run.{run}

module _ (C : Chart) where
  open C use {Point}

  -- by a step at p
  unfoldable pub examined_at : State C → Point → ℕ
  examined_at s p = length (adjacent (stay C s p)) + length (adjacent (ranged C s p))

  -- none where the queue is empty: there is no step
  unfoldable pub examined_on : State C → Option Point → ℕ
  examined_on s none = 0
  examined_on s (some p) = examined_at s p

  -- by step m, counted from 0
  unfoldable pub examined_in : ℕ → ℕ
  examined_in m = examined_on (run C m) (next C (run C m))

  -- "in all steps done"
  unfoldable pub examined : ℕ → ℕ
  examined zero = 0
  examined (suc m) = examined m + examined_in m
