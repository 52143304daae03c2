-- The verdict on a list whose answer goes into lent room: that of the list, then the room, whatever a chart needs.
-- Assumes nothing.
use mathlib.Core.Path.{◌≡◌, refl, subst}
use mathlib.Core.Bool.{Bool, true, false, cond}
use mathlib.Core.List.{List}
use Prim.Native.Nat.{ℕ, ◌≤◌, ◌<◌}
use borrow.Author.Tests.{lt-ltb, le-ltb, ltb-true, ltb-false}
use lib.Dec.{ltb}
use lib.IntN.{ℤ}
use Rattle.charts.specs.Chart.{verdict_of}
use Rattle.charts.specs.Answer.{then_room}
use Rattle.charts.specs.Demand.{RoomDue, refused, eight, roomy, RoomRefusesExactly}
use Rattle.charts.specs.Verdict.{Verdict}
use Rattle.charts.specs.Verdict.{Accepted, Refused}
use Rattle.charts.proofs.Exactly.{refuses_exactly}

module _ (list : List ℤ) (need : ℕ → ℕ) (lent : ℕ) where
  pub room_refused : (k p : ℕ) → verdict_of list ≡ Refused k p → then_room need lent (verdict_of list) ≡ Refused k p
  room_refused k p e = rw e

  pub room_eight : (n : ℕ) → verdict_of list ≡ Accepted n → lent < need n → then_room need lent (verdict_of list) ≡ Refused 8 0
  room_eight n e h = rw (e, lt-ltb _ _ h)

  pub room_accepted : (n : ℕ) → verdict_of list ≡ Accepted n → need n ≤ lent → then_room need lent (verdict_of list) ≡ Accepted n
  room_accepted n e h = rw (e, le-ltb _ _ h)

module _ (list : List ℤ) (need : ℕ → ℕ) (lent : ℕ) where
  given : (v : Verdict) → RoomDue list need lent v → then_room need lent (verdict_of list) ≡ v
  given v (refused k p d) = room_refused list need lent k p ((refuses_exactly list _).1 d)
  given v (eight n d h) = room_eight list need lent n ((refuses_exactly list _).1 d) h
  given v (roomy n d h) = room_accepted list need lent n ((refuses_exactly list _).1 d) h

  due : (v : Verdict) → verdict_of list ≡ v → RoomDue list need lent (then_room need lent v)
  due (Accepted n) e = go (ltb lent (need n)) refl
    where
      go : (t : Bool) → ltb lent (need n) ≡ t → RoomDue list need lent (cond t (Refused 8 0) (Accepted n))
      go true f = eight n ((refuses_exactly list (Accepted n)).0 e) (ltb-true _ _ f)
      go false f = roomy n ((refuses_exactly list (Accepted n)).0 e) (ltb-false _ _ f)
  due (Refused k p) e = refused k p ((refuses_exactly list (Refused k p)).0 e)

pub room_refuses_exactly : RoomRefusesExactly
room_refuses_exactly list need lent v = (λ e. subst (RoomDue list need lent) e (due list need lent (verdict_of list) refl), given list need lent v)

-- what is known where the call goes ahead
pub room_goes : (list : List ℤ) (need : ℕ → ℕ) (lent n : ℕ) → then_room need lent (verdict_of list) ≡ Accepted n → (verdict_of list ≡ Accepted n) × (need n ≤ lent)
room_goes list need lent n e = go ((room_refuses_exactly list need lent (Accepted n)).0 e)
  where
    go : RoomDue list need lent (Accepted n) → (verdict_of list ≡ Accepted n) × (need n ≤ lent)
    go (roomy n d h) = ((refuses_exactly list (Accepted n)).1 d, h)
