-- How many pairs and steps a chart can have: a full sweep is over well before the largest budget.
-- Assumes nothing.
use mathlib.Core.Path.{◌≡◌, refl}
use mathlib.Core.Bool.{true}
use mathlib.Core.List.{List}
use mathlib.Core.List.{Memᴰ as In}
use Prim.Native.Nat.{ℕ, ◌+◌, ◌*◌, ◌-◌, ◌≤◌}
use native.Mathlib.Omega.{arith}
use lib.IntN.{ℤ}
use lib.ListN.{length}
use Rattle.charts.specs.Chart.{most, verdict_of}
use Rattle.charts.specs.Answer.{room}
use Rattle.charts.specs.Piece.{piece_at}
use Rattle.charts.specs.Verdict.{Accepted}
use Rattle.charts.proofs.Accepted.{accepted_most}
use Rattle.charts.proofs.Room.{room_least}
use Rattle.sweep.specs.Lists.{Pair}
use Rattle.sweep.specs.Chart.{Chart, meets, kind}
use Rattle.sweep.specs.Sought.{all, points, meeting}
use Rattle.sweep.specs.Demand.{Pieces, RunPromises}
use Rattle.sweep.proofs.Lists.{keep_fewer}
use Rattle.ported_arrays.proofs.Room.{all_twice, once_twice}
use Rattle.full_steps.specs.Steps.{answer}
use Rattle.full_steps.specs.Demand.{full_run}
use Rattle.full_order.specs.Finer.{finer}
use Rattle.full_order.proofs.Modes.{list_full_sweeps}
use Rattle.listing.specs.Listing.{largest}
use Rattle.listing.specs.Demand.{SweptToTheEnd}

-- as a product of numerals
pub most_room : room most ≡ most * (most - 1)
unfolding room
most_room = refl

module _ (list : List ℤ) (n : ℕ) (e : verdict_of list ≡ Accepted n) where
  abbrev C : Chart
  C = finer n (piece_at list)

  promises : RunPromises C (full_run C)
  promises = list_full_sweeps list n e

  pub lists_only : (budget : ℕ) (q : Pair) → In q (answer C budget).listed → Pieces C q × (meets (kind C q) ≡ true)
  lists_only budget q m = let t = (promises.lists_exactly budget q).0 m in (t.0, t.1)

  pub room_few : room n ≤ room most
  room_few = room_least n most (accepted_most list n e)

  all_few : 2 * length (all C) ≤ room n
  all_few = omega (arith, all_twice C)

  meeting_few : 2 * length (meeting C) ≤ room n
  unfolding meeting
  meeting_few = omega (arith, keep_fewer (λ q. meets (kind C q)) (all C), all_few)

  pub listed_few : (budget : ℕ) → 2 * length (answer C budget).listed ≤ room n
  listed_few budget = omega (arith, once_twice C (answer C budget).listed (promises.lists_once budget) (λ q m. (lists_only budget q m).0))

  pub steps_few : (budget : ℕ) → 2 * (answer C budget).steps ≤ 4 * most + room most
  steps_few budget = omega (arith, promises.steps_bounded budget, meeting_few, room_few, accepted_most list n e)

  ended : (answer C largest).ended ≡ true
  ended = (promises.ends_exactly largest).1 (omega (arith, promises.counts_steps (length (points C)), steps_few (length (points C)), most_room))

pub swept_to_the_end : SweptToTheEnd
swept_to_the_end = ended
