-- Laws of `room`, n(n-1), that speak of no product: one piece more takes two bytes for each pair with the others.
-- Assumes nothing.
use mathlib.Core.Path.{◌≡◌, refl}
use mathlib.Core.Logic.{⊎_elim}
use Prim.Native.Nat.{ℕ, zero, suc, ◌+◌, ◌-◌, ◌≤◌, ◌<◌}
use native.Mathlib.Nat.{eq-or-lt_of_le, le_refl, mul-le-mul}
use native.Mathlib.Omega.{arith}
use Rattle.charts.specs.Answer.{room}

pub room_none : room 0 ≡ 0
unfolding room
room_none = refl

pub room_more : (a : ℕ) → room (suc a) ≡ room a + (a + a)
unfolding room
room_more zero = refl
room_more (suc a) = let e : suc (suc a) - 1 ≡ suc a = omega arith in let f : suc a - 1 ≡ a = omega arith in rw (e, f) (omega arith)

-- the rows below a, and row a, have room in what n rows have room in
pub room_below : (a n : ℕ) → a < n → room a + (a + a) ≤ room n
room_below a zero h = absurd (omega arith)
room_below a (suc n) h =
    ⊎_elim
    (λ (e : a ≡ n). rw (e, room_more) (le_refl _))
    (λ (l : a < n). omega (arith, room_below a n l, room_more n))
    (eq-or-lt_of_le {n = a} {m = n} (omega arith))

pub room_least : (a n : ℕ) → a ≤ n → room a ≤ room n
unfolding room
room_least a n h = mul-le-mul h (omega arith)
