-- The verdict on a list whose pairs are written down: that of the list, then the room for two bytes a pair.
-- Assumes nothing.
use mathlib.Core.Path.{◌≡◌}
use mathlib.Core.List.{List}
use Prim.Native.Nat.{ℕ, ◌≤◌, ◌<◌}
use lib.IntN.{ℤ}
use Rattle.charts.specs.Chart.{verdict_of}
use Rattle.charts.specs.Answer.{room, listing_of}
use Rattle.charts.specs.Demand.{ListingRefusesExactly}
use Rattle.charts.specs.Verdict.{Accepted, Refused}
use Rattle.charts.proofs.Lent.{room_refused, room_eight, room_accepted, room_refuses_exactly, room_goes}

module _ (list : List ℤ) (lent : ℕ) where
  pub listing_refused : (k p : ℕ) → verdict_of list ≡ Refused k p → listing_of list lent ≡ Refused k p
  unfolding listing_of
  listing_refused = room_refused list room lent

  pub listing_eight : (n : ℕ) → verdict_of list ≡ Accepted n → lent < room n → listing_of list lent ≡ Refused 8 0
  unfolding listing_of
  listing_eight = room_eight list room lent

  pub listing_accepted : (n : ℕ) → verdict_of list ≡ Accepted n → room n ≤ lent → listing_of list lent ≡ Accepted n
  unfolding listing_of
  listing_accepted = room_accepted list room lent

pub listing_refuses_exactly : ListingRefusesExactly
unfolding listing_of
listing_refuses_exactly list lent = room_refuses_exactly list room lent

pub listing_goes : (list : List ℤ) (lent n : ℕ) → listing_of list lent ≡ Accepted n → (verdict_of list ≡ Accepted n) × (room n ≤ lent)
unfolding listing_of
listing_goes list lent n = room_goes list room lent n
