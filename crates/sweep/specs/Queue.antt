-- "The queue holds distinct points, each with pieces that start, finish or cross there. It begins with all mins and
-- maxes." It is not stored: the ends left in it are those beyond the last point, the crossings those of waiting pairs.
use Rattle.std.specs.Prelude.{Bool, true, cond, List, [], ◌∷◌, ◌++◌, map, ℕ}
use Rattle.std.proofs.Math.Option.{Option, none, some}
use Rattle.sweep.specs.Lists.{upto, keep}
use Rattle.sweep.specs.Chart.{Chart, at}
use Rattle.sweep.specs.State.{State}

module _ (C : Chart) where
  open C use {Point, less, n, min, max}

  unfoldable pub ends : List ℕ → List Point
  ends [] = []
  ends (i ∷ l) = min i ∷ max i ∷ ends l

  unfoldable pub beyond : Option Point → Point → Bool
  beyond none p = true
  beyond (some l) p = less l p

  unfoldable pub queue : State C → List Point
  queue s = keep (beyond s.last) (ends (upto n)) ++ map (at C) s.marks.waiting

  unfoldable pub least_from : Point → List Point → Point
  least_from p [] = p
  least_from p (q ∷ l) = least_from (cond (less q p) q p) l

  unfoldable pub least : List Point → Option Point
  least [] = none
  least (p ∷ l) = some (least_from p l)

  -- "A step takes the least point p." None: the queue is empty.
  unfoldable pub next : State C → Option Point
  next s = least (queue s)
