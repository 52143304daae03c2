-- The turn that a sign says, and the sign that a turn says.
use mathlib.Core.Path.{◌≡◌, refl, sym, ◌∙◌}
use Prim.Native.Nat.{zero, suc}
use native.Mathlib.Nat.{not-suc-le-zero}
use lib.Dec.{leb→le, ltb→lt}
use lib.IntN.{ℤ, pos, negsuc}
use lib.Signed.{◌≤ℤ◌, ◌<ℤ◌}
use Rattle.std.specs.declared.cmp.Ordering.{Ordering}
use Rattle.std.specs.Ordering.{int_cmp, match_ordering}
use Rattle.std.proofs.lemmas.Cmp.{int_ranked, by_ranked}
use denote.Enum.Bare.{sameb}
use Rattle.orientation.specs.contracts.Orientation.{the_type}
use Rattle.orientation.specs.declared.Orientation.{Orientation}
use Rattle.orientation.specs.Turn.{turn_of, same_turn}
use Rattle.orientation.specs.declared.Orientation.TheVariants.{CounterClockWise, ClockWise, CoLinear}

pub turn_above : {z : ℤ} → pos 0 <ℤ z → turn_of z ≡ CounterClockWise
unfolding turn_of
turn_above {z = pos zero} h = absurd h.lt
turn_above {z = pos (suc n)} h = refl
turn_above {z = negsuc n} h = absurd h.lt

pub turn_below : {z : ℤ} → z <ℤ pos 0 → turn_of z ≡ ClockWise
unfolding turn_of
turn_below {z = pos n} h = absurd (not-suc-le-zero (ltb→lt n 0 h.lt))
turn_below {z = negsuc n} h = refl

-- neither above nor below 0: what the last branch of `orient` knows
pub turn_neither : {z : ℤ} → pos 0 ≤ℤ z → z ≤ℤ pos 0 → turn_of z ≡ CoLinear
unfolding turn_of
turn_neither {z = pos zero} h k = refl
turn_neither {z = pos (suc n)} h k = absurd (not-suc-le-zero (leb→le (suc n) 0 k.le))
turn_neither {z = negsuc n} h k = absurd h.le

-- the order to 0 tells the turn
pub turn_by_order : (z : ℤ) {o p : Ordering} → o ≡ int_cmp z (pos 0) → o ≡ p → match_ordering p ClockWise CoLinear CounterClockWise ≡ turn_of z
unfolding turn_of
turn_by_order z {o} {p} e f =
    by_ranked (z <ℤ pos 0) (z ≡ pos 0) (pos 0 <ℤ z) p (int_ranked z (pos 0) p (sym f ∙ e))
    (λ g h. rw g (sym (turn_below h)))
    (λ g h. rw (g, h))
    (λ g h. rw g (sym (turn_above h)))

-- the derived `==`
pub same_is : (o p : Orientation) → sameb the_type o p ≡ same_turn o p
same_is CounterClockWise CounterClockWise = refl
same_is CounterClockWise ClockWise = refl
same_is CounterClockWise CoLinear = refl
same_is ClockWise CounterClockWise = refl
same_is ClockWise ClockWise = refl
same_is ClockWise CoLinear = refl
same_is CoLinear CounterClockWise = refl
same_is CoLinear ClockWise = refl
same_is CoLinear CoLinear = refl
