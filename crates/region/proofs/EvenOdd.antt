-- What the half-line counts is what the half-open rule counts: the proof of `EvenOdd`. Assumes nothing.
use Rattle.std.specs.Prelude.{Option, None}
use mathlib.Core.Path.{◌≡◌, refl, sym, ap, ap₂, ◌∙◌}
use mathlib.Core.Bool.{Bool, cond, not, ◌&&◌, ◌||◌}
use mathlib.Core.List.{[], ◌∷◌}
use Prim.Native.Nat.{ℕ, zero, suc, ◌+◌}
use lib.IntN.{ℤ, pos, negsuc, neg_ℤ, ◌+ℤ◌, ◌-ℤ◌, ◌*ℤ◌, +ℤ_invr}
use lib.Signed.{lt_z, ◌<ℤ◌, clash_ℤ}
use Rattle.integers.proofs.Order.{Tri, less, same, more, tri, ≡→≤, <_cert}
use Rattle.integers.proofs.Signs.{<_diff, <→≤}
use Rattle.orientation.proofs.Signs.{turn_above, turn_below}
use Rattle.integers.proofs.Identity.{by_ring, terms}
use Rattle.orientation.specs.declared.Orientation.{Orientation}
use Rattle.orientation.specs.declared.Orientation.TheVariants.{CounterClockWise, ClockWise, CoLinear}
use Rattle.orientation.specs.Turn.{det, turn_of, reversed, is_left, is_straight}
use Rattle.line_segment.specs.Segment.{opposed}
use Rattle.half_line.specs.declared.Corner.{Corner}
use Rattle.half_line.specs.HalfLine.{corner_of, leans_of, passes_of, point_turn, half_line_of}
use Rattle.charts.proofs.Rows.{is_true, is_false, says_lt}
use Rattle.outline.specs.Counting.{count}
use Rattle.outline.specs.Outline.{side_of}
use Rattle.region.specs.Region.{counted, right_of, met_side, region_of}
use Rattle.region.specs.Demand.{crosses_right, CountsHalfOpen, even_odd, EvenOdd}

-- how an end lies to the half-line is how its height lies to the peak's
height₀ : (x y u v : ℤ) → (x +ℤ pos 1 -ℤ x) *ℤ (v -ℤ y) -ℤ (y -ℤ y) *ℤ (u -ℤ x) ≡ v -ℤ y
height₀ x y u v = by_ring (x ∷ y ∷ u ∷ v ∷ []) (search terms depth 60 fits 20000) tt

pub height : (p e : Corner) → point_turn p (right_of p) e ≡ turn_of (e.y -ℤ p.y)
unfolding point_turn det
height p e = ap turn_of (height₀ p.x p.y e.x e.y)

-- the sign of a difference
above_turn : (y v : ℤ) → lt_z y v ≡ is_left (turn_of (v -ℤ y))
unfolding turn_of
above_turn y v = go (tri y v)
  where
    under : v <ℤ y → (v -ℤ y) <ℤ pos 0
    under h = <_cert (y ∷ v ∷ []) (<_diff h) (search terms depth 60 fits 20000) tt

    go : Tri y v → lt_z y v ≡ is_left (turn_of (v -ℤ y))
    go (less h) = is_true (says_lt y v) h ∙ sym (ap is_left (turn_above (<_diff h)))
    go (same e) = is_false (says_lt y v) (λ h. clash_ℤ h (≡→≤ (sym e))) ∙ sym (ap (λ (z : ℤ). is_left (turn_of z)) (ap (λ (z : ℤ). z -ℤ y) (sym e) ∙ +ℤ_invr y))
    go (more h) = is_false (says_lt y v) (λ k. clash_ℤ k (<→≤ h)) ∙ sym (ap is_left (turn_below (under h)))

-- turned round, a side has the peak on its other side
turned₀ : (a b c d x y : ℤ) → (a -ℤ c) *ℤ (y -ℤ d) -ℤ (b -ℤ d) *ℤ (x -ℤ c) ≡ neg_ℤ ((c -ℤ a) *ℤ (y -ℤ b) -ℤ (d -ℤ b) *ℤ (x -ℤ a))
turned₀ a b c d x y = by_ring (a ∷ b ∷ c ∷ d ∷ x ∷ y ∷ []) (search terms depth 60 fits 20000) tt

turn_neg : (z : ℤ) → turn_of (neg_ℤ z) ≡ reversed (turn_of z)
unfolding turn_of
turn_neg (pos zero) = refl
turn_neg (pos (suc n)) = refl
turn_neg (negsuc n) = refl

turned : (a b p : Corner) → point_turn b a p ≡ reversed (point_turn a b p)
unfolding point_turn det
turned a b p = ap turn_of (turned₀ a.x a.y b.x b.y p.x p.y) ∙ turn_neg _

-- ---- the rules by the three turns: of the min, of the max, and of the peak to the way from min to max
abbrev pub rust : Orientation → Orientation → Orientation → Orientation → Option Orientation
rust o q t u =
    cond (is_straight o && is_straight q) None
    (cond (is_straight o) (leans_of q t)
    (cond (is_straight q) (leans_of o u)
    (passes_of o q t)))

abbrev half_open : Orientation → Orientation → Orientation → Orientation → Bool
half_open o q t u = (not (is_left o) && (is_left q && is_left t)) || (not (is_left q) && (is_left o && is_left u))

agree : (o q t : Orientation) → counted (rust o q t (reversed t)) ≡ half_open o q t (reversed t)
unfolding opposed
agree CounterClockWise CounterClockWise CounterClockWise = refl
agree CounterClockWise CounterClockWise ClockWise = refl
agree CounterClockWise CounterClockWise CoLinear = refl
agree CounterClockWise ClockWise CounterClockWise = refl
agree CounterClockWise ClockWise ClockWise = refl
agree CounterClockWise ClockWise CoLinear = refl
agree CounterClockWise CoLinear CounterClockWise = refl
agree CounterClockWise CoLinear ClockWise = refl
agree CounterClockWise CoLinear CoLinear = refl
agree ClockWise CounterClockWise CounterClockWise = refl
agree ClockWise CounterClockWise ClockWise = refl
agree ClockWise CounterClockWise CoLinear = refl
agree ClockWise ClockWise CounterClockWise = refl
agree ClockWise ClockWise ClockWise = refl
agree ClockWise ClockWise CoLinear = refl
agree ClockWise CoLinear CounterClockWise = refl
agree ClockWise CoLinear ClockWise = refl
agree ClockWise CoLinear CoLinear = refl
agree CoLinear CounterClockWise CounterClockWise = refl
agree CoLinear CounterClockWise ClockWise = refl
agree CoLinear CounterClockWise CoLinear = refl
agree CoLinear ClockWise CounterClockWise = refl
agree CoLinear ClockWise ClockWise = refl
agree CoLinear ClockWise CoLinear = refl
agree CoLinear CoLinear CounterClockWise = refl
agree CoLinear CoLinear ClockWise = refl
agree CoLinear CoLinear CoLinear = refl

pub counts_half_open : CountsHalfOpen
unfolding half_line_of crosses_right
counts_half_open p s =
    let a = corner_of s.min in
    let b = corner_of s.max in
    rw (height p a, height p b, turned a b p, above_turn p.y a.y, above_turn p.y b.y)
    (agree (turn_of (a.y -ℤ p.y)) (turn_of (b.y -ℤ p.y)) (point_turn a b p))

-- ---- so as many count
same_count : (f g : ℕ → Bool) → ((i : ℕ) → f i ≡ g i) → (n : ℕ) → count f n ≡ count g n
unfolding count
same_count f g h zero = refl
same_count f g h (suc n) = ap₂ (λ (k : ℕ) (b : Bool). k + cond b 1 0) (same_count f g h n) (h n)

pub even_odd_lem : EvenOdd
unfolding region_of even_odd met_side
even_odd_lem outline n p =
    rw (same_count (met_side outline n p) (λ i. crosses_right p (side_of outline n i)) (λ i. counts_half_open p (side_of outline n i)) n)
