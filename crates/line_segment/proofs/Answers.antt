-- What the parts of the test answer, from what a branch of the code knows.
use mathlib.Core.Path.{◌≡◌, refl, sym, ◌∙◌}
use mathlib.Core.Bool.{Bool, true, false, ◌&&◌}
use Rattle.std.proofs.lemmas.Bool.{false≢true}
use Rattle.orientation.specs.declared.Orientation.{Orientation}
use Rattle.orientation.specs.Turn.{is_straight}
use Rattle.std.specs.declared.cmp.Ordering.{Ordering}
use Rattle.std.specs.declared.cmp.Ordering.TheVariants.{Less, Equal, Greater}
use Rattle.fractions.specs.declared.Point.{Point}
use Rattle.fractions.specs.Point.{point_order}
use Rattle.line_segment.specs.declared.EndPoint.{EndPoint}
use Rattle.line_segment.specs.declared.LineSegment.{LineSegment}
use Rattle.line_segment.specs.declared.Meeting.TheVariants.{Nothing, Crossing, Overlap}
use Rattle.line_segment.specs.Piece.{point_of, join_of}
use Rattle.line_segment.specs.Geometry.{admits}
use Rattle.line_segment.proofs.Booleans.{and_true, and_false, false_and}
use Rattle.line_segment.specs.Segment.{within, inner_between, stretch_by, stretch_of, touch_of, turn_to, opposed, astride_of, intersect_of}

module _ (p : Point) (a b : EndPoint) {s : LineSegment} {o : Ordering} (j : s ≡ join_of a b) (first : o ≡ point_order (point_of s.min) p) where
  pub between_then : admits o s.min.included ≡ true → {o' : Ordering} → o' ≡ point_order p (point_of s.max) → {r : Bool} → r ≡ admits o' s.max.included → r ≡ inner_between p a b
  unfolding within inner_between
  between_then e second f = f ∙ rw (← j, ← first, e, ← second)

  pub between_not : {r : Bool} → r ≡ admits o s.min.included → r ≡ false → r ≡ inner_between p a b
  unfolding within inner_between
  between_not e f = f ∙ rw (← j, ← first, sym e ∙ f)

-- the stretch between two ends is one where the first end admits the second
pub stretch_yes : (o : Ordering) (s : LineSegment) → admits o (s.max.included && s.min.included) ≡ true → Overlap s ≡ stretch_by o s
unfolding stretch_by
stretch_yes Less s e = refl
stretch_yes Equal s e = rw e
stretch_yes Greater s e = absurd (false≢true e)

pub stretch_no : (o : Ordering) (s : LineSegment) → admits o (s.max.included && s.min.included) ≡ false → Nothing ≡ stretch_by o s
unfolding stretch_by
stretch_no Less s e = absurd (false≢true (sym e))
stretch_no Equal s e = rw e
stretch_no Greater s e = refl

module _ (e : EndPoint) (s : LineSegment) where
  pub touch_yes : e.included ≡ true → inner_between (point_of e) s.min s.max ≡ true → Crossing ≡ touch_of e s
  unfolding touch_of
  touch_yes h k = rw (and_true h k)

  pub touch_outside : inner_between (point_of e) s.min s.max ≡ false → Nothing ≡ touch_of e s
  unfolding touch_of
  touch_outside h = rw (and_false e.included h)

  pub touch_excluded : e.included ≡ false → Nothing ≡ touch_of e s
  unfolding touch_of
  touch_excluded h = rw (false_and (inner_between (point_of e) s.min s.max) h)

module _ (a b : LineSegment) {o p : Orientation} (from : o ≡ turn_to a b.min) (to : p ≡ turn_to a b.max) where
  pub both_on : is_straight o ≡ true → is_straight p ≡ true → stretch_of a b ≡ intersect_of a b
  unfolding intersect_of
  both_on h k = rw (← from, ← to, h, k)

  pub min_on : is_straight o ≡ true → is_straight p ≡ false → touch_of b.min a ≡ intersect_of a b
  unfolding intersect_of
  min_on h k = rw (← from, ← to, h, k)

  pub max_on : is_straight o ≡ false → is_straight p ≡ true → touch_of b.max a ≡ intersect_of a b
  unfolding intersect_of
  max_on h k = rw (← from, ← to, h, k)

  pub none_on : is_straight o ≡ false → is_straight p ≡ false → astride_of (opposed o p) a b ≡ intersect_of a b
  unfolding intersect_of
  none_on h k = rw (← from, ← to, h, k)

module _ (s : Bool) (a b : LineSegment) {o p : Orientation} (from : o ≡ turn_to b a.min) (to : p ≡ turn_to b a.max) where
  pub own_min_on : is_straight o ≡ true → touch_of a.min b ≡ astride_of s a b
  unfolding astride_of
  own_min_on h = rw (← from, ← to, h)

  pub own_max_on : is_straight o ≡ false → is_straight p ≡ true → touch_of a.max b ≡ astride_of s a b
  unfolding astride_of
  own_max_on h k = rw (← from, ← to, h, k)

  module _ (h : is_straight o ≡ false) (k : is_straight p ≡ false) where
    pub crossed : s ≡ true → opposed o p ≡ true → Crossing ≡ astride_of s a b
    unfolding astride_of
    crossed x y = rw (← from, ← to, h, k, and_true x y)

    pub not_astride : s ≡ false → Nothing ≡ astride_of s a b
    unfolding astride_of
    not_astride x = rw (← from, ← to, h, k, false_and (opposed o p) x)

    pub one_side : opposed o p ≡ false → Nothing ≡ astride_of s a b
    unfolding astride_of
    one_side y = rw (← from, ← to, h, k, and_false s y)
