-- Where the test says Crossing the lines are not parallel, for any two pieces, of no length too: so Cramer's D is positive.
-- Assumes nothing.
use mathlib.Core.Path.{◌≡◌, refl, sym, ap, subst, ◌∙◌}
use mathlib.Core.Bool.{Bool, true, false, cond, ◌&&◌}
use mathlib.Core.Logic.{◌⊎◌, inl, inr}
use mathlib.Core.List.{List, [], ◌∷◌}
use Prim.Native.Nat.{zero, suc}
use lib.IntN.{ℤ, pos, negsuc, ◌-ℤ◌, ◌*ℤ◌}
use Rattle.integers.proofs.Ring.{*ℤ_idr}
use Rattle.integers.proofs.Identity.{by_ring, terms}
use Rattle.integers.proofs.Signs.{z+z, x*z, diff-≡}
use Rattle.integers.proofs.Order.{≡_cert, ≤_antisym}
use Rattle.integers.proofs.Factors.{zero_product}
use Rattle.orientation.specs.declared.Orientation.{Orientation}
use Rattle.orientation.specs.declared.Orientation.TheVariants.{CounterClockWise, ClockWise, CoLinear}
use Rattle.orientation.specs.Turn.{det, turn_of, reversed, is_straight, same_turn}
use Rattle.std.specs.declared.cmp.Ordering.{Ordering}
use Rattle.std.specs.declared.cmp.Ordering.TheVariants.{Less, Equal, Greater}
use Rattle.fractions.specs.Point.{point_order}
use Rattle.line_segment.specs.declared.EndPoint.{EndPoint}
use Rattle.line_segment.specs.declared.LineSegment.{LineSegment}
use Rattle.line_segment.specs.declared.Meeting.{Meeting}
use Rattle.line_segment.specs.declared.Meeting.TheVariants.{Nothing, Crossing, Overlap}
use Rattle.line_segment.specs.Geometry.{run, rise, admits}
use Rattle.line_segment.specs.Piece.{point_of, end_order, join_by, join_of}
use Rattle.line_segment.specs.Segment.{intersect_of, astride_of, opposed, stretch_by, stretch_of, touch_of, turn_to, leftmost_of, rightmost_of, within, inner_between}
use Rattle.line_segment.proofs.Booleans.{both, no}
use Rattle.place.proofs.Order.{no_later}

abbrev Crosses : Meeting → Type 0
Crosses Nothing = ⊥
Crosses Crossing = Unit
Crosses (Overlap s) = ⊥

-- ---- a stretch is no crossing
no_stretch : (o : Ordering) (s : LineSegment) → ¬ Crosses (stretch_by o s)
unfolding stretch_by
no_stretch Less s h = h
no_stretch Equal s h = go (s.max.included && s.min.included) h
  where
    go : (b : Bool) → ¬ Crosses (cond b (Overlap s) Nothing)
    go true h = h
    go false h = h
no_stretch Greater s h = h

no_overlap : (a b : LineSegment) → ¬ Crosses (stretch_of a b)
unfolding stretch_of
no_overlap a b = no_stretch _ (record { min = rightmost_of a.min b.min; max = leftmost_of a.max b.max })

-- ---- the test's cases, by the turns of b's ends and of a's; where both of a piece turn alike, a touch by a's min is left
abbrev cases : Orientation → Orientation → Orientation → Orientation → Meeting → Meeting → Meeting → Meeting → Meeting → Meeting
cases b_min b_max a_min a_max stretch byBMin byBMax byAMin byAMax =
    cond (is_straight b_min && is_straight b_max) stretch
    (cond (is_straight b_min) byBMin
    (cond (is_straight b_max) byBMax
    (cond (is_straight a_min) byAMin
    (cond (is_straight a_max) byAMax
    (cond (same_turn b_min (reversed b_max) && same_turn a_min (reversed a_max)) Crossing Nothing)))))

only_touch : (o p : Orientation) (s t u v w : Meeting) → ¬ Crosses s → Crosses (cases o o p p s t u v w) → ¬ (o ≡ CoLinear) × (p ≡ CoLinear) × Crosses v
only_touch CoLinear p s t u v w n h = absurd (n h)
only_touch CounterClockWise CoLinear s t u v w n h = (λ e. no (cc), refl, h)
only_touch CounterClockWise CounterClockWise s t u v w n h = absurd h
only_touch CounterClockWise ClockWise s t u v w n h = absurd h
only_touch ClockWise CoLinear s t u v w n h = (λ e. no (cc), refl, h)
only_touch ClockWise CounterClockWise s t u v w n h = absurd h
only_touch ClockWise ClockWise s t u v w n h = absurd h

straight : (z : ℤ) → turn_of z ≡ CoLinear → z ≡ pos 0
unfolding turn_of
straight (pos zero) e = refl
straight (pos (suc n)) e = no (cc)
straight (negsuc n) e = no (cc)

-- ---- a piece of no length has one point
second : (i j : Bool) → Crosses (cond (i && j) Crossing Nothing) → j ≡ true
second true true h = refl
second true false h = absurd h
second false j h = absurd h

joined : (o : Ordering) (e f : EndPoint) → point_of e ≡ point_of f → (point_of (join_by o e f).min ≡ point_of e) × (point_of (join_by o e f).max ≡ point_of e)
unfolding join_by
joined Less e f h = (refl, sym h)
joined Equal e f h = (sym h, refl)
joined Greater e f h = (sym h, refl)

one_point : (c e f : EndPoint) → point_of e ≡ point_of f → inner_between (point_of c) e f ≡ true → (e.x ≡ c.x) × (e.y ≡ c.y)
unfolding inner_between within join_of point_of
one_point c e f h t =
    let s = join_by (end_order e f) e f in
    let j = joined (end_order e f) e f h in
    let u = both {x = admits (point_order (point_of s.min) (point_of c)) s.min.included} t in
    let there = no_later (point_of e) (point_of c) s.min.included (rw j.0 at u.0) in
    let back = no_later (point_of c) (point_of e) s.max.included (rw j.1 at u.1) in
    let x = ≤_antisym there.x back.x in
    let y = ≤_antisym (there.y x) (back.y (sym x)) in
    (sym (*ℤ_idr e.x) ∙ x ∙ *ℤ_idr c.x, sym (*ℤ_idr e.y) ∙ y ∙ *ℤ_idr c.y)

at_end : (i j k l : ℤ) → det i j k l i j ≡ pos 0
unfolding det
at_end i j k l = by_ring (i ∷ j ∷ k ∷ l ∷ []) (search terms depth 60 fits 20000) tt

-- ---- two pieces on parallel lines
-- the determinant of which `turn_to` gives the sign
abbrev to : LineSegment → EndPoint → ℤ
to s e = det s.min.x s.min.y s.max.x s.max.y e.x e.y

module _ (a b : LineSegment) (flat : run a *ℤ rise b -ℤ rise a *ℤ run b ≡ pos 0) where
  abbrev ρ : List ℤ
  ρ = a.min.x ∷ a.min.y ∷ a.max.x ∷ a.max.y ∷ b.min.x ∷ b.min.y ∷ b.max.x ∷ b.max.y ∷ []

  alike_b : turn_to a b.max ≡ turn_to a b.min
  unfolding turn_to det run rise
  alike_b = ap turn_of (≡_cert ρ {a = to a b.max} {b = to a b.min} (x*z (negsuc 0) flat) (search terms depth 60 fits 20000) tt)

  alike_a : turn_to b a.max ≡ turn_to b a.min
  unfolding turn_to det run rise
  alike_a = ap turn_of (≡_cert ρ {a = to b a.max} {b = to b a.min} flat (search terms depth 60 fits 20000) tt)

  -- a's min on the line of b: then b's min is on the line of a, or b has no length
  by_run : to b a.min ≡ pos 0 → run b *ℤ to a b.min ≡ pos 0
  unfolding det run rise
  by_run on = ≡_cert ρ (z+z (x*z (run a) on) (x*z (a.min.x -ℤ b.min.x) flat)) (search terms depth 60 fits 20000) tt

  by_rise : to b a.min ≡ pos 0 → rise b *ℤ to a b.min ≡ pos 0
  unfolding det run rise
  by_rise on = ≡_cert ρ (z+z (x*z (rise a) on) (x*z (a.min.y -ℤ b.min.y) flat)) (search terms depth 60 fits 20000) tt

  on_line : to b a.min ≡ pos 0 → inner_between (point_of a.min) b.min b.max ≡ true → to a b.min ≡ pos 0
  unfolding run rise point_of
  on_line on h = go (zero_product (run b) (to a b.min) (by_run on)) (zero_product (rise b) (to a b.min) (by_rise on))
    where
      go : (run b ≡ pos 0) ⊎ (to a b.min ≡ pos 0) → (rise b ≡ pos 0) ⊎ (to a b.min ≡ pos 0) → to a b.min ≡ pos 0
      go (inr z) t = z
      go (inl x) (inr z) = z
      go (inl x) (inl y) =
          let one : point_of b.min ≡ point_of b.max = λ i. record { x = diff-≡ b.min.x b.max.x x i; y = diff-≡ b.min.y b.max.y y i; d = 1 } in
          let same = one_point a.min b.min b.max one h in
          rw (same.0, same.1) (at_end a.min.x a.min.y a.max.x a.max.y)

  pub no_crossing : ¬ (intersect_of a b ≡ Crossing)
  unfolding intersect_of astride_of opposed touch_of turn_to turn_of
  no_crossing e =
      let h : Crosses (cases (turn_to a b.min) (turn_to a b.max) (turn_to b a.min) (turn_to b a.max) (stretch_of a b) (touch_of b.min a) (touch_of b.max a) (touch_of a.min b) (touch_of a.max b)) = subst Crosses (sym e) tt in
      let t = only_touch (turn_to a b.min) (turn_to b a.min) (stretch_of a b) (touch_of b.min a) (touch_of b.max a) (touch_of a.min b) (touch_of a.max b) (no_overlap a b) (rw (alike_b, alike_a) at h) in
      t.0 (ap turn_of (on_line (straight (to b a.min) t.1) (second a.min.included (inner_between (point_of a.min) b.min b.max) t.2)))
