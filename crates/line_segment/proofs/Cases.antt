-- The cases of the test, each with what it knows of the pieces: `cases a b la lb : Case a b (intersect_of a b)`.
use mathlib.Core.Path.{◌≡◌, refl, sym, ap, ap₂, ◌∙◌, subst}
use mathlib.Core.List.{[], ◌∷◌}
use mathlib.Core.Bool.{Bool, true, false}
use lib.IntN.{ℤ, pos, ◌+ℤ◌, ◌-ℤ◌}
use lib.Signed.{◌<ℤ◌}
use Rattle.integers.proofs.Ring.{*ℤ_idr}
use Rattle.integers.proofs.Identity.{by_ring, terms}
use Rattle.integers.proofs.Order.{Tri, less, same, more, tri, <→≢}
use Rattle.orientation.specs.declared.Orientation.{Orientation}
use Rattle.orientation.specs.declared.Orientation.TheVariants.{CounterClockWise, ClockWise, CoLinear}
use Rattle.orientation.specs.Turn.{det, turn_of}
use Rattle.orientation.proofs.Signs.{turn_above, turn_below, turn_neither}
use Rattle.line_segment.specs.declared.EndPoint.{EndPoint}
use Rattle.line_segment.specs.declared.LineSegment.{LineSegment}
use Rattle.line_segment.specs.declared.Meeting.{Meeting}
use Rattle.line_segment.specs.declared.Meeting.TheVariants.{Nothing, Crossing}
use Rattle.line_segment.specs.Piece.{point_of, HasLength}
use Rattle.line_segment.specs.Geometry.{run, rise, side, OneLine}
use Rattle.line_segment.specs.Segment.{stretch_of, touch_of, turn_to, opposed, astride_of, intersect_of}
use Rattle.line_segment.proofs.Answers.{both_on, min_on, max_on, none_on, own_min_on, own_max_on, crossed, not_astride, one_side}
use Rattle.line_segment.proofs.Sides.{tilt, tilt_first, tilt_second}
use Rattle.line_segment.proofs.Along.{leads}
use Rattle.line_segment.proofs.Lying.{End, the_min, the_max}
use Rattle.line_segment.proofs.TwoLines.{one_line_turned, Opposite, down, up, OneSided, above, below}

pub data Case (a b : LineSegment) : Meeting → Type 0 where
  aligned : OneLine a b → Case a b (stretch_of a b)
  touched : {e : EndPoint} → End b e → side a (point_of e) ≡ pos 0 → ¬ (tilt a b ≡ pos 0) → Case a b (touch_of e a)
  touching : {e : EndPoint} → End a e → side b (point_of e) ≡ pos 0 → ¬ (tilt a b ≡ pos 0) → Case a b (touch_of e b)
  astride : Opposite (side a (point_of b.min)) (side a (point_of b.max)) → Opposite (side b (point_of a.min)) (side b (point_of a.max)) → Case a b Crossing
  second_aside : OneSided (side a (point_of b.min)) (side a (point_of b.max)) → Case a b Nothing
  first_aside : OneSided (side b (point_of a.min)) (side b (point_of a.max)) → Case a b Nothing

-- ---- what a turn says
data Turn (z : ℤ) : Orientation → Type 0 where
  left : pos 0 <ℤ z → Turn z CounterClockWise
  right : z <ℤ pos 0 → Turn z ClockWise
  straight : z ≡ pos 0 → Turn z CoLinear

turn : (z : ℤ) → Turn z (turn_of z)
turn z = go (tri (pos 0) z)
  where
    go : Tri (pos 0) z → Turn z (turn_of z)
    go (less h) = rw (turn_above h) (left h)
    go (same e) = rw (← e, turn_neither {z = pos 0} (record { le = tt }) (record { le = tt })) (straight refl)
    go (more h) = rw (turn_below h) (right h)

turn_side : (s : LineSegment) (e : EndPoint) → turn_to s e ≡ turn_of (side s (point_of e))
unfolding turn_to det side run rise point_of
turn_side s e = simp *ℤ_idr

turn_to_lem : (s : LineSegment) (e : EndPoint) → Turn (side s (point_of e)) (turn_to s e)
turn_to_lem s e = rw (turn_side s e) (turn (side s (point_of e)))

-- ---- two ends of one piece
data Ends (u v : ℤ) : Bool → Type 0 where
  parted : Opposite u v → Ends u v true
  together : OneSided u v → Ends u v false

module _ (a b : LineSegment) where
  -- a line that has one end of b but not the other is not parallel to it
  tilted : {u v : ℤ} → v -ℤ u ≡ tilt a b → u ≡ pos 0 → ¬ (v ≡ pos 0) → ¬ (tilt a b ≡ pos 0)
  tilted {u} {v} t e ne z = ne (sym (minus_zero v) ∙ ap (λ (w : ℤ). v -ℤ w) (sym e) ∙ t ∙ z)
    where
      minus_zero : (v : ℤ) → v -ℤ pos 0 ≡ v
      minus_zero v = by_ring (v ∷ []) (search terms depth 60 fits 20000) tt

  tilted' : {u v : ℤ} → v -ℤ u ≡ tilt a b → v ≡ pos 0 → ¬ (u ≡ pos 0) → ¬ (tilt a b ≡ pos 0)
  tilted' {u} {v} t e ne z = ne (twice u v ∙ ap₂ (λ (w x : ℤ). w -ℤ x) e (t ∙ z))
    where
      twice : (u v : ℤ) → u ≡ v -ℤ (v -ℤ u)
      twice u v = by_ring (u ∷ v ∷ []) (search terms depth 60 fits 20000) tt

  module _ (s : Bool) (ends : Ends (side a (point_of b.min)) (side a (point_of b.max)) s) (not_one : ¬ OneLine a b) (lb : HasLength b) where
    min_tilted : side b (point_of a.min) ≡ pos 0 → ¬ (tilt a b ≡ pos 0)
    min_tilted e z =
        not_one (one_line_turned b a (leads b lb) (record { min = e; max = sym (minus (side b (point_of a.min)) (side b (point_of a.max))) ∙ ap₂ (λ (w x : ℤ). w -ℤ x) e (tilt_first a b ∙ z) }))
      where
        minus : (u v : ℤ) → u -ℤ (u -ℤ v) ≡ v
        minus u v = by_ring (u ∷ v ∷ []) (search terms depth 60 fits 20000) tt

    max_tilted : side b (point_of a.max) ≡ pos 0 → ¬ (tilt a b ≡ pos 0)
    max_tilted e z =
        not_one (one_line_turned b a (leads b lb) (record { min = sym (plus (side b (point_of a.min)) (side b (point_of a.max))) ∙ ap₂ (λ (w x : ℤ). w +ℤ x) e (tilt_first a b ∙ z); max = e }))
      where
        plus : (u v : ℤ) → v +ℤ (u -ℤ v) ≡ u
        plus u v = by_ring (u ∷ v ∷ []) (search terms depth 60 fits 20000) tt

    parting : {r : Bool} → Ends (side a (point_of b.min)) (side a (point_of b.max)) r → Opposite (side b (point_of a.min)) (side b (point_of a.max))
        → (r ≡ true → Crossing ≡ astride_of s a b) → (r ≡ false → Nothing ≡ astride_of s a b) → Case a b (astride_of s a b)
    parting (parted k) o y n = subst (Case a b) (y refl) (astride k o)
    parting (together k) o y n = subst (Case a b) (n refl) (second_aside k)

    by_first : {o p : Orientation} → Turn (side b (point_of a.min)) o → o ≡ turn_to b a.min → Turn (side b (point_of a.max)) p → p ≡ turn_to b a.max → Case a b (astride_of s a b)
    unfolding opposed
    by_first (straight e) f g h = subst (Case a b) (own_min_on s a b f h refl) (touching the_min e (min_tilted e))
    by_first (left e) f (straight g) h = subst (Case a b) (own_max_on s a b f h refl refl) (touching the_max g (max_tilted g))
    by_first (right e) f (straight g) h = subst (Case a b) (own_max_on s a b f h refl refl) (touching the_max g (max_tilted g))
    by_first (left e) f (left g) h = subst (Case a b) (one_side s a b f h refl refl refl) (first_aside (above e g))
    by_first (right e) f (right g) h = subst (Case a b) (one_side s a b f h refl refl refl) (first_aside (below e g))
    by_first (left e) f (right g) h = parting ends (down e g) (λ x. crossed s a b f h refl refl x refl) (λ x. not_astride s a b f h refl refl x)
    by_first (right e) f (left g) h = parting ends (up e g) (λ x. crossed s a b f h refl refl x refl) (λ x. not_astride s a b f h refl refl x)

  module _ (la : HasLength a) (lb : HasLength b) where
    inner : (s : Bool) → Ends (side a (point_of b.min)) (side a (point_of b.max)) s → ¬ (side a (point_of b.min) ≡ pos 0) → Case a b (astride_of s a b)
    inner s k ne = by_first s k (λ o. ne o.min) lb (turn_to_lem b a.min) refl (turn_to_lem b a.max) refl

    by_second : {o p : Orientation} → Turn (side a (point_of b.min)) o → o ≡ turn_to a b.min → Turn (side a (point_of b.max)) p → p ≡ turn_to a b.max → Case a b (intersect_of a b)
    unfolding opposed
    by_second (straight e) f (straight g) h = subst (Case a b) (both_on a b f h refl refl) (aligned (record { min = e; max = g }))
    by_second (straight e) f (left g) h = subst (Case a b) (min_on a b f h refl refl) (touched the_min e (tilted (tilt_second a b) e (λ z. <→≢ g (sym z))))
    by_second (straight e) f (right g) h = subst (Case a b) (min_on a b f h refl refl) (touched the_min e (tilted (tilt_second a b) e (λ z. <→≢ g z)))
    by_second (left e) f (straight g) h = subst (Case a b) (max_on a b f h refl refl) (touched the_max g (tilted' (tilt_second a b) g (λ z. <→≢ e (sym z))))
    by_second (right e) f (straight g) h = subst (Case a b) (max_on a b f h refl refl) (touched the_max g (tilted' (tilt_second a b) g (λ z. <→≢ e z)))
    by_second (left e) f (left g) h = subst (Case a b) (none_on a b f h refl refl) (inner false (together (above e g)) (λ z. <→≢ e (sym z)))
    by_second (left e) f (right g) h = subst (Case a b) (none_on a b f h refl refl) (inner true (parted (down e g)) (λ z. <→≢ e (sym z)))
    by_second (right e) f (left g) h = subst (Case a b) (none_on a b f h refl refl) (inner true (parted (up e g)) (λ z. <→≢ e z))
    by_second (right e) f (right g) h = subst (Case a b) (none_on a b f h refl refl) (inner false (together (below e g)) (λ z. <→≢ e z))

    pub cases : Case a b (intersect_of a b)
    cases = by_second (turn_to_lem a b.min) refl (turn_to_lem a b.max) refl
