-- What the arrays of the new mode hold between two steps of a run, and what a step is given.
use Rattle.std.specs.Prelude.{◌≡◌, ◌≢◌, true, List, ℕ, ◌≤◌, ◌<◌, ℤ, length, take}
use mathlib.Core.List.{Memᴰ as In}
use Rattle.std.proofs.lemmas.List.Edits.{sets}
use Rattle.fractions.specs.Point.{point_order}
use Rattle.fractions.specs.declared.Point.{Point}
use Rattle.charts.specs.Answer.{room}
use Rattle.charts.specs.Chart.{most}
use Rattle.sweep.specs.Lists.{Pairwise}
use Rattle.sweep.specs.Chart.{Chart}
use Rattle.sweep.specs.Step.{starts}
use Rattle.sweep_geometry.specs.Demand.{AllProper}
use Rattle.ported_arrays.specs.Agreement.{flat}
use Rattle.ported_pieces.specs.Table.{piece_in}
use Rattle.full_steps.specs.Steps.{State}
use Rattle.full_order.specs.Finer.{finer}
use Rattle.full_points.specs.declared.Spot.{Spot}
use Rattle.full_points.specs.Spot.{Fair, Marks}
use Rattle.full_lanes.specs.Demand.{Beside}
use Rattle.full_active.specs.Ranks.{starters}

module _ (n : ℕ) (table : List ℤ) where
  abbrev pub chart : Chart
  chart = finer n (piece_in table)

  -- pieces of some length on the chart, no more than a chart has, and room lent for every pair of them
  pub record Given (lent : List ℕ) : Type 0 where
    pub few : n ≤ most
    pub proper : AllProper n (piece_in table)
    pub lists : room n ≤ length lent

  -- the arrays hold the state, over the bytes that were lent
  pub record Carried (lent : List ℕ) (s : State chart) (active lanes : List ℕ) (live : ℕ) (bytes : List ℕ) (end : ℕ) : Type 0 where
    -- a place for each piece, and a lane beside each place
    pub wide : n ≤ length active
    pub alike : length lanes ≡ length active
    pub active_is : take live active ≡ s.active
    pub lanes_are : Beside n table s.last active lanes live
    pub bytes_are : bytes ≡ sets lent 0 (flat s.listed)
    pub end_is : end ≡ length (flat s.listed)

  -- the ends name the pieces that start at p, each once
  pub record Starting (p : Point) (ends : List ℕ) : Type 0 where
    pub once : Pairwise (λ i j. i ≢ j) (starters ends)
    pub only : (i : ℕ) → In i (starters ends) → (i < n) × (starts chart p i ≡ true)
    pub all : (i : ℕ) → i < n → starts chart p i ≡ true → In i (starters ends)

-- the spot is p's, and the point that the code holds lies where p does, in lowest terms or not
pub record StandsAt (p rough : Point) (spot : Spot) : Type 0 where
  pub fair : Fair spot
  pub marks : Marks spot p
  pub same_place : (c : Point) → point_order rough c ≡ point_order p c
