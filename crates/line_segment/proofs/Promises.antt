-- What line_segment's specs/Demand.antt promises of the test of two pieces, kept.
use mathlib.Core.Path.{◌≡◌, refl, sym, ap, ◌∙◌}
use mathlib.Core.Logic.{◌⊎◌, inl, inr, ⊎_elim}
use mathlib.Core.Bool.{Bool, true, false, cond, ◌&&◌}
use lib.IntN.{ℤ, pos}
use Rattle.integers.proofs.Order.{<→≢, Tri, less, same, more, tri}
use Rattle.orientation.specs.Turn.{turn_of, is_straight}
use Rattle.orientation.proofs.Signs.{turn_above, turn_below, turn_neither}
use Rattle.std.specs.declared.cmp.Ordering.{Ordering}
use Rattle.std.specs.declared.cmp.Ordering.TheVariants.{Less, Equal, Greater}
use Rattle.fractions.specs.declared.Point.{Point}
use Rattle.fractions.specs.Point.{point_order}
use Rattle.fractions.specs.Order.{turned as turned_order}
use Rattle.fractions.proofs.Points.{point_turned, point_alike}
use Rattle.fractions.proofs.Promises.{orders_points}
use Rattle.line_segment.specs.declared.EndPoint.{EndPoint}
use Rattle.line_segment.specs.declared.LineSegment.{LineSegment}
use Rattle.line_segment.specs.declared.Meeting.{Meeting}
use Rattle.line_segment.specs.declared.Meeting.TheVariants.{Nothing, Crossing, Overlap}
use Rattle.line_segment.specs.Piece.{point_of, end_order, HasLength}
use Rattle.line_segment.specs.Geometry.{side, Common, OneLine}
use Rattle.line_segment.specs.Segment.{stretch_by, stretch_of, intersect_of, in_bounds, contains_of, cramer_of, crossing_of}
use Rattle.line_segment.specs.Demand.{says_yes, says_overlap, Meet, SaysYesExactly, OverlapExactly, SameWhicheverAsks, CrossingIsCramers, OverlapEnds, ContainsExactly}
use Rattle.line_segment.proofs.Booleans.{no, clash, both}
use Rattle.line_segment.proofs.Holding.{in_bounds_lem, holds_between}
use Rattle.line_segment.proofs.Sides.{tilt, one_point}
pub use Rattle.line_segment.proofs.CramersPoint.{crossing_stays_bounded}
use Rattle.line_segment.proofs.CramersPoint.{cramer_first, cramer_second, cramer_positive, crossing_swapped, crossing_lowest, crossing_same}
use Rattle.line_segment.proofs.Along.{leads}
use Rattle.line_segment.proofs.Lying.{whole, same_lies, End, end_on, lies_between, between_lies}
use Rattle.line_segment.proofs.TwoLines.{level, one_line_turned, OneSided, above, below, outside}
use Rattle.line_segment.proofs.Cases.{Case, aligned, touched, touching, astride, second_aside, first_aside, cases}
use Rattle.line_segment.proofs.Crossings.{touch_lies, lies_touch, touch_plain, astride_tilted, astride_common}
use Rattle.line_segment.proofs.Stretches.{stretch_turned, stretch_meets, meets_stretch, overlap_part}

-- ---- answers
overlap_yes : (m : Meeting) → says_overlap m ≡ true → says_yes m ≡ true
overlap_yes Nothing e = e
overlap_yes Crossing e = refl
overlap_yes (Overlap s) e = refl

module _ (a b : LineSegment) where
  stretch_never : stretch_of a b ≡ Crossing → ⊥
  unfolding stretch_of stretch_by
  stretch_never = never (end_order _ _) _
    where
      never : (o : Ordering) (s : LineSegment) → stretch_by o s ≡ Crossing → ⊥
      never Less s e = no (cc)
      never Equal s e = marked (s.max.included && s.min.included) e
        where
          marked : (m : Bool) → cond m (Overlap s) Nothing ≡ Crossing → ⊥
          marked true e = no (cc)
          marked false e = no (cc)
      never Greater s e = no (cc)

  stretch_overlap : says_yes (stretch_of a b) ≡ true → says_overlap (stretch_of a b) ≡ true
  stretch_overlap y = go (stretch_of a b) refl y
    where
      go : (m : Meeting) → stretch_of a b ≡ m → says_yes m ≡ true → says_overlap m ≡ true
      go Nothing e y = y
      go Crossing e y = absurd (stretch_never e)
      go (Overlap s) e y = refl

-- ---- case by case
module _ (a b : LineSegment) (la : HasLength a) (lb : HasLength b) where
  -- an end on the other line is the one point of both lines
  at_second : {e : EndPoint} → End b e → side a (point_of e) ≡ pos 0 → ¬ (tilt a b ≡ pos 0) → (p : Point) → side a p ≡ pos 0 → side b p ≡ pos 0 → point_order p (point_of e) ≡ Equal
  at_second {e} end on ne p h k = one_point a b ne p (point_of e) h k on (end_on b end)

  at_first : {e : EndPoint} → End a e → side b (point_of e) ≡ pos 0 → ¬ (tilt a b ≡ pos 0) → (p : Point) → side b p ≡ pos 0 → side a p ≡ pos 0 → point_order p (point_of e) ≡ Equal
  at_first {e} end on ne p h k = one_point a b ne p (point_of e) k h (end_on a end) on

  yes_meet : {m : Meeting} → Case a b m → says_yes m ≡ true → Meet a b
  yes_meet (aligned o) y = stretch_meets a b la lb o y
  yes_meet (touched {e} end on ne) y =
      let h = touch_lies a b la lb end on (at_second end on ne) y in
      (point_of e, record { positive = whole e; first = h.0; second = h.1 })
  yes_meet (touching {e} end on ne) y =
      let h = touch_lies b a lb la end on (at_first end on ne) y in
      (point_of e, record { positive = whole e; first = h.1; second = h.0 })
  yes_meet (astride k l) y = (cramer_of a b, astride_common a b la lb k l)
  yes_meet (second_aside k) y = clash y
  yes_meet (first_aside k) y = clash y

  meet_yes : {m : Meeting} → Case a b m → Meet a b → says_yes m ≡ true
  meet_yes (aligned o) m = meets_stretch a b la lb o m
  meet_yes (touched end on ne) (p, c) = ap says_yes (lies_touch a b la lb end on (at_second end on ne) p c.positive c.first c.second)
  meet_yes (touching end on ne) (p, c) = ap says_yes (lies_touch b a lb la end on (at_first end on ne) p c.positive c.second c.first)
  meet_yes (astride k l) m = refl
  meet_yes (second_aside k) (p, c) = absurd (outside a b p (leads b lb) c.positive c.first.line c.second.line c.second k)
  meet_yes (first_aside k) (p, c) = absurd (outside b a p (leads a la) c.positive c.second.line c.first.line c.first k)

  -- lines that are one are parallel, and both ends of each lie on the other
  zeros_together : {u v : ℤ} → OneSided u v → u ≡ pos 0 → ⊥
  zeros_together (above p q) e = <→≢ p (sym e)
  zeros_together (below p q) e = <→≢ p e

  parallel : OneLine a b → tilt a b ≡ pos 0
  parallel o = level a b (leads a la) o

  turned : OneLine a b → OneLine b a
  turned o = one_line_turned a b (leads a la) o

  -- on one line the test answers the stretch, and else no Overlap
  aligned_is : {m : Meeting} → Case a b m → OneLine a b → m ≡ stretch_of a b
  aligned_is (aligned _) o = refl
  aligned_is (touched end on ne) o = absurd (ne (parallel o))
  aligned_is (touching end on ne) o = absurd (ne (parallel o))
  aligned_is (astride k l) o = absurd (astride_tilted a b la lb k (parallel o))
  aligned_is (second_aside k) o = absurd (zeros_together k o.min)
  aligned_is (first_aside k) o = absurd (zeros_together k (turned o).min)

  aligned_or_plain : {m : Meeting} → Case a b m → OneLine a b ⊎ (says_overlap m ≡ false)
  aligned_or_plain (aligned o) = inl o
  aligned_or_plain (touched {e} end on ne) = inr (touch_plain e a)
  aligned_or_plain (touching {e} end on ne) = inr (touch_plain e b)
  aligned_or_plain (astride k l) = inr refl
  aligned_or_plain (second_aside k) = inr refl
  aligned_or_plain (first_aside k) = inr refl

  -- a Crossing is of lines that are not parallel
  crossing_tilted : {m : Meeting} → Case a b m → m ≡ Crossing → ¬ (tilt a b ≡ pos 0)
  crossing_tilted (aligned o) e = absurd (stretch_never a b e)
  crossing_tilted (touched end on ne) e = ne
  crossing_tilted (touching end on ne) e = ne
  crossing_tilted (astride k l) e = astride_tilted a b la lb k
  crossing_tilted (second_aside k) e = no (cc)
  crossing_tilted (first_aside k) e = no (cc)

-- ---- the promises
pub says_yes_exactly : SaysYesExactly
says_yes_exactly a b la lb = (yes_meet a b la lb (cases a b la lb), meet_yes a b la lb (cases a b la lb))

pub overlap_exactly : OverlapExactly
overlap_exactly a b la lb = (there, back)
  where
    there : says_overlap (intersect_of a b) ≡ true → OneLine a b × Meet a b
    there y =
        ⊎_elim (λ (o : OneLine a b). (o, yes_meet a b la lb (cases a b la lb) (overlap_yes (intersect_of a b) y)))
        (λ (n : says_overlap (intersect_of a b) ≡ false). clash (sym n ∙ y))
        (aligned_or_plain a b la lb (cases a b la lb))

    back : OneLine a b × Meet a b → says_overlap (intersect_of a b) ≡ true
    back h = ap says_overlap (aligned_is a b la lb (cases a b la lb) h.0) ∙ stretch_overlap a b (meets_stretch a b la lb h.0 h.1)

pub same_whichever_asks : SameWhicheverAsks
same_whichever_asks a b la lb = (answer, λ e. crossing_swapped a b (crossing_tilted a b la lb (cases a b la lb) e))
  where
    swap : {a b : LineSegment} → Meet a b → Meet b a
    swap (p, c) = (p, record { positive = c.positive; first = c.second; second = c.first })

    agree : (x y : Bool) → (x ≡ true → y ≡ true) → (y ≡ true → x ≡ true) → x ≡ y
    agree true y f g = sym (f refl)
    agree false true f g = g refl
    agree false false f g = refl

    yes : says_yes (intersect_of a b) ≡ says_yes (intersect_of b a)
    yes =
        agree _ _
        (λ y. meet_yes b a lb la (cases b a lb la) (swap (yes_meet a b la lb (cases a b la lb) y)))
        (λ y. meet_yes a b la lb (cases a b la lb) (swap (yes_meet b a lb la (cases b a lb la) y)))

    plain : (m n : Meeting) → says_overlap m ≡ false → says_overlap n ≡ false → says_yes m ≡ says_yes n → m ≡ n
    plain Nothing Nothing e f y = refl
    plain Nothing Crossing e f y = clash y
    plain Nothing (Overlap t) e f y = clash (sym f)
    plain Crossing Nothing e f y = clash (sym y)
    plain Crossing Crossing e f y = refl
    plain Crossing (Overlap t) e f y = clash (sym f)
    plain (Overlap s) n e f y = clash (sym e)

    on_one : OneLine a b → intersect_of a b ≡ intersect_of b a
    on_one o = aligned_is a b la lb (cases a b la lb) o ∙ stretch_turned a b ∙ sym (aligned_is b a lb la (cases b a lb la) (turned a b la lb o))

    answer : intersect_of a b ≡ intersect_of b a
    answer =
        ⊎_elim on_one
        (λ (n : says_overlap (intersect_of a b) ≡ false).
        ⊎_elim (λ (o : OneLine b a). on_one (turned b a lb la o)) (λ (k : says_overlap (intersect_of b a) ≡ false). plain _ _ n k yes)
        (aligned_or_plain b a lb la (cases b a lb la)))
        (aligned_or_plain a b la lb (cases a b la lb))

pub crossing_is_cramers : CrossingIsCramers
crossing_is_cramers a b la lb e =
    let ne = crossing_tilted a b la lb (cases a b la lb) e in
    let m = yes_meet a b la lb (cases a b la lb) (ap says_yes e) in
    let d = (crossing_lowest a b ne).positive in
    let at : point_order m.0 (crossing_of a b) ≡ Equal = meeting_at m.0 m.1 ne in
    let c : Common a b (crossing_of a b) =
    record {
      positive = d;
      first = same_lies a m.0 (crossing_of a b) m.1.positive d at m.1.first;
      second = same_lies b m.0 (crossing_of a b) m.1.positive d at m.1.second;
    } in (
      (λ o. ne (parallel a b la lb o)),
      record {
        lowest = crossing_lowest a b ne;
        common = c;
        only = λ p l h k. orders_points.one_record p (crossing_of a b) l (crossing_lowest a b ne) (one_point a b ne p (crossing_of a b) h k c.first.line c.second.line);
      },
    )
  where
    -- the common point found is Cramer's, and that in lowest terms is the same
    meeting_at : (p : Point) → Common a b p → ¬ (tilt a b ≡ pos 0) → point_order p (crossing_of a b) ≡ Equal
    meeting_at p c ne =
        point_alike p (cramer_of a b) (crossing_of a b) c.positive (cramer_positive a b ne) (one_point a b ne p (cramer_of a b) c.first.line c.second.line (cramer_first a b) (cramer_second a b))
        ∙ point_turned (crossing_of a b) (cramer_of a b) ∙ ap turned_order (crossing_same a b)

pub overlap_ends : OverlapEnds
overlap_ends a b s la lb e =
    ⊎_elim (λ (o : OneLine a b). overlap_part a b la lb o s (sym (aligned_is a b la lb (cases a b la lb) o) ∙ e))
    (λ (n : says_overlap (intersect_of a b) ≡ false). clash (sym n ∙ ap says_overlap e))
    (aligned_or_plain a b la lb (cases a b la lb))

-- ---- contains
straight_zero : (z : ℤ) → is_straight (turn_of z) ≡ true → z ≡ pos 0
straight_zero z e = go (tri (pos 0) z)
  where
    go : Tri (pos 0) z → z ≡ pos 0
    go (less h) = clash (sym (ap is_straight (turn_above h)) ∙ e)
    go (same q) = sym q
    go (more h) = clash (sym (ap is_straight (turn_below h)) ∙ e)

zero_straight : (z : ℤ) → z ≡ pos 0 → is_straight (turn_of z) ≡ true
zero_straight z e = ap (λ (w : ℤ). is_straight (turn_of w)) e ∙ ap is_straight (turn_neither {z = pos 0} (record { le = tt }) (record { le = tt }))

pub contains_exactly : ContainsExactly
unfolding contains_of
contains_exactly s p l d h = (
  (λ e. let k = both (both {x = in_bounds p} e).1 in between_lies s l p (straight_zero (side s p) k.0) k.1),
  (λ on. sym (holds_between s p (in_bounds_lem p h) (zero_straight (side s p) on.line) (sym (lies_between s l p on)))),
)
