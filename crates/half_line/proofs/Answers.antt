-- What the parts of the test answer, from what a branch of the code knows.
use Rattle.std.specs.Prelude.{None, Some}
use mathlib.Core.Path.{◌≡◌}
use mathlib.Core.Bool.{true, false}
use Rattle.orientation.specs.declared.Orientation.{Orientation}
use Rattle.orientation.specs.declared.Orientation.TheVariants.{CoLinear}
use Rattle.orientation.specs.Turn.{is_straight, reversed, same_turn}
use Rattle.line_segment.specs.declared.LineSegment.{LineSegment}
use Rattle.line_segment.specs.Segment.{opposed}
use Rattle.line_segment.proofs.Booleans.{and_false}
use Rattle.half_line.specs.declared.Corner.{Corner}
use Rattle.half_line.specs.HalfLine.{corner_of, leans_of, passes_of, point_turn, half_line_of}

module _ (min max start : Orientation) where
  pub passes_yes : same_turn min (reversed max) ≡ true → same_turn min (reversed start) ≡ true → Some CoLinear ≡ passes_of min max start
  unfolding opposed
  passes_yes h k = rw (h, k)

  pub passes_behind : same_turn min (reversed start) ≡ false → None ≡ passes_of min max start
  unfolding opposed
  passes_behind k = rw (and_false (same_turn min (reversed max)) k)

  pub passes_beside : same_turn min (reversed max) ≡ false → None ≡ passes_of min max start
  unfolding opposed
  passes_beside h = rw h

module _ (start through : Corner) (s : LineSegment) {a b : Corner} (i : a ≡ corner_of s.min) (j : b ≡ corner_of s.max)
    {o p : Orientation} (from : o ≡ point_turn start through a) (to : p ≡ point_turn start through b) where
  pub both_on : is_straight o ≡ true → is_straight p ≡ true → None ≡ half_line_of start through s
  unfolding half_line_of
  both_on h k = rw (← i, ← j, ← from, ← to, h, k)

  pub min_on : is_straight o ≡ true → is_straight p ≡ false → {q : Orientation} → q ≡ point_turn a b start → leans_of p q ≡ half_line_of start through s
  unfolding half_line_of
  min_on h k e = rw (← i, ← j, ← from, ← to, h, k, e)

  pub max_on : is_straight o ≡ false → is_straight p ≡ true → {q : Orientation} → q ≡ point_turn b a start → leans_of o q ≡ half_line_of start through s
  unfolding half_line_of
  max_on h k e = rw (← i, ← j, ← from, ← to, h, k, e)

  pub none_on : is_straight o ≡ false → is_straight p ≡ false → {q : Orientation} → q ≡ point_turn a b start → passes_of o p q ≡ half_line_of start through s
  unfolding half_line_of
  none_on h k e = rw (← i, ← j, ← from, ← to, h, k, e)
