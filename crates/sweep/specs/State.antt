-- What the sweep knows between two steps.
use Rattle.std.specs.Prelude.{List, [], ℕ}
use Rattle.std.proofs.Math.Option.{Option, none}
use Rattle.sweep.specs.Lists.{Pair}
use Rattle.sweep.specs.Chart.{Chart}

-- "one state per pair (free, waiting, listed)": the pairs that wait, in the order of their crossings, and those that are
-- listed, in the order in which they came; every other pair is free. Numbers in a pair stand lesser first.
pub record Marks : Type 0 where
  pub waiting : List Pair
  pub listed : List Pair

module _ (C : Chart) where
  open C use {Point}

  pub record State : Type 0 where
    -- the pieces under the sweep, from the lowest to the highest
    pub active : List ℕ
    pub marks : Marks
    -- the point visited last
    pub last : Option Point
    pub steps : ℕ

  unfoldable pub start : State
  start = record { active = []; marks = record { waiting = []; listed = [] }; last = none; steps = 0 }
