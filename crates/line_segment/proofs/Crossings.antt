-- Two pieces of lines that are not parallel: they meet where the lines do, if that point lies on both.
use mathlib.Core.Path.{◌≡◌, refl, sym, ◌∙◌}
use mathlib.Core.Bool.{Bool, true, false, cond, ◌&&◌}
use Prim.Native.Nat.{◌<◌}
use lib.IntN.{ℤ, pos}
use Rattle.integers.proofs.Order.{<_trans, <→≢}
use Rattle.std.specs.declared.cmp.Ordering.TheVariants.{Equal}
use Rattle.fractions.specs.declared.Point.{Point}
use Rattle.fractions.specs.Point.{point_order}
use Rattle.line_segment.specs.declared.EndPoint.{EndPoint}
use Rattle.line_segment.specs.declared.LineSegment.{LineSegment}
use Rattle.line_segment.specs.declared.Meeting.TheVariants.{Nothing, Crossing}
use Rattle.line_segment.specs.Piece.{point_of, HasLength}
use Rattle.line_segment.specs.Geometry.{side, LiesOn, Common}
use Rattle.line_segment.specs.Segment.{inner_between, touch_of, cramer_of}
use Rattle.line_segment.specs.Demand.{says_yes, says_overlap}
use Rattle.line_segment.proofs.Booleans.{both}
use Rattle.line_segment.proofs.Answers.{touch_yes}
use Rattle.line_segment.proofs.Sides.{tilt, tilt_second, alike}
use Rattle.line_segment.proofs.CramersPoint.{cramer_first, cramer_second, cramer_positive}
use Rattle.line_segment.proofs.Along.{leads}
use Rattle.line_segment.proofs.Lying.{whole, same_lies, lies_inside, End, end_lies, end_included, lies_between, between_lies}
use Rattle.line_segment.proofs.TwoLines.{Opposite, down, up, inside}

-- ---- an end e of t on the line of s, where the two lines have no other common point
module _ (s t : LineSegment) (ls : HasLength s) (lt : HasLength t) {e : EndPoint} (end : End t e) (on : side s (point_of e) ≡ pos 0)
    (only : (p : Point) → side s p ≡ pos 0 → side t p ≡ pos 0 → point_order p (point_of e) ≡ Equal) where
  pub touch_lies : says_yes (touch_of e s) ≡ true → LiesOn s (point_of e) × LiesOn t (point_of e)
  unfolding touch_of
  touch_lies h =
      let k = both (asked (e.included && inner_between (point_of e) s.min s.max) h) in
      (between_lies s ls (point_of e) on k.1, end_lies t lt end k.0)
    where
      asked : (m : Bool) → says_yes (cond m Crossing Nothing) ≡ true → m ≡ true
      asked true h = refl
      asked false h = h

  pub lies_touch : (p : Point) → 0 < p.d → LiesOn s p → LiesOn t p → touch_of e s ≡ Crossing
  lies_touch p d h k =
      let q = only p h.line k.line in
      sym (touch_yes e s (end_included t lt end (same_lies t p (point_of e) d (whole e) q k)) (lies_between s ls (point_of e) (same_lies s p (point_of e) d (whole e) q h)))

-- a touch is never an Overlap
pub touch_plain : (e : EndPoint) (s : LineSegment) → says_overlap (touch_of e s) ≡ false
unfolding touch_of
touch_plain e s = go (e.included && inner_between (point_of e) s.min s.max)
  where
    go : (m : Bool) → says_overlap (cond m Crossing Nothing) ≡ false
    go true = refl
    go false = refl

-- ---- the ends of each on opposite sides of the other
module _ (a b : LineSegment) (la : HasLength a) (lb : HasLength b) (k : Opposite (side a (point_of b.min)) (side a (point_of b.max))) where
  pub astride_tilted : ¬ (tilt a b ≡ pos 0)
  astride_tilted z = apart k (alike _ _ (tilt_second a b ∙ z))
    where
      apart : {u v : ℤ} → Opposite u v → v ≡ u → ⊥
      apart (down p m) e = <→≢ (<_trans m p) e
      apart (up m p) e = <→≢ (<_trans m p) (sym e)

  pub astride_common : Opposite (side b (point_of a.min)) (side b (point_of a.max)) → Common a b (cramer_of a b)
  astride_common l =
      let c = cramer_of a b in
      let d = cramer_positive a b astride_tilted in
      let x = inside b a c (leads a la) d (cramer_second a b) (cramer_first a b) l in
      let y = inside a b c (leads b lb) d (cramer_first a b) (cramer_second a b) k in
      record {
        positive = d;
        first = lies_inside a c (cramer_first a b) x.0 x.1;
        second = lies_inside b c (cramer_second a b) y.0 y.1;
      }
