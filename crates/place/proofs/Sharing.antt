-- How many points two pieces share, their ends added, decides between At and Along: specs/Demand.
-- Assumes nothing.
use mathlib.Core.Path.{◌≡◌, refl, sym, ap, subst, ◌∙◌}
use mathlib.Core.Logic.{◌⊎◌, inl, inr}
use mathlib.Core.Bool.{true}
use Prim.Native.Nat.{◌<◌}
use lib.IntN.{pos}
use Rattle.std.specs.declared.cmp.Ordering.{Ordering}
use Rattle.std.specs.declared.cmp.Ordering.TheVariants.{Less, Equal, Greater}
use Rattle.fractions.specs.declared.Point.{Point}
use Rattle.fractions.specs.Order.{turned}
use Rattle.fractions.specs.Point.{Lowest, point_order, lowest_of}
use Rattle.fractions.proofs.Points.{point_turned, point_alike, less_at_most, at_most_less, at_most_trans}
use Rattle.fractions.proofs.LowestTerms.{lowest_same, lowest_lowest, whole_lowest, one_record}
use Rattle.line_segment.specs.declared.EndPoint.{EndPoint}
use Rattle.line_segment.specs.declared.LineSegment.{LineSegment}
use Rattle.line_segment.specs.declared.Meeting.{Meeting}
use Rattle.line_segment.specs.declared.Meeting.TheVariants.{Nothing, Crossing, Overlap}
use Rattle.line_segment.specs.Piece.{HasLength, point_of, end_order, closed}
use Rattle.line_segment.specs.Geometry.{run, rise, side, Common, OneLine}
use Rattle.line_segment.specs.Segment.{stretch_by, stretch_of, intersect_of, crossing_of}
use Rattle.line_segment.specs.Demand.{says_yes, says_overlap, CommonPart}
use Rattle.line_segment.proofs.Booleans.{no, clash}
use Rattle.line_segment.proofs.Lying.{whole, same_side, same_lies, lies_closed, closed_line, closed_from, closed_upto}
use Rattle.line_segment.proofs.Picking.{rightmost_is, leftmost_is}
use Rattle.line_segment.proofs.Stretches.{stretch, stretch_meets}
use Rattle.line_segment.proofs.Promises.{says_yes_exactly, overlap_exactly, crossing_is_cramers, overlap_ends}
use Rattle.place.specs.declared.Where.{Where}
use Rattle.place.specs.Place.{along_by, along_of, where_by, where_of}
use Rattle.place.specs.Demand.{Shared, Single, AtExactly, Several, says_along, AlongExactly}

-- ---- points between two ends
module _ (e f : EndPoint) where
  -- one point, where the ends are equal
  squeezed : (p : Point) → end_order e f ≡ Equal → ¬ (point_order (point_of e) p ≡ Greater) → ¬ (point_order p (point_of f) ≡ Greater) → point_order (point_of e) p ≡ Equal
  unfolding end_order
  squeezed p q h k = go (point_order (point_of e) p) refl
    where
      go : (o : Ordering) → point_order (point_of e) p ≡ o → o ≡ Equal
      go Less l = absurd (k (point_turned (point_of f) p ∙ ap turned (sym (point_alike (point_of e) (point_of f) p (whole e) (whole f) q) ∙ l)))
      go Equal _ = refl
      go Greater g = absurd (h g)

  -- two of them, and the ends differ
  apart : (p q : Point) → 0 < p.d → 0 < q.d → ¬ (point_order (point_of e) p ≡ Greater) → point_order p q ≡ Less → ¬ (point_order q (point_of f) ≡ Greater) → end_order e f ≡ Less
  unfolding end_order
  apart p q dp dq h l k = less_at_most (point_of e) q (point_of f) (whole e) dq (whole f) (at_most_less (point_of e) p q (whole e) dp dq h l) k

yes_overlap : (m : Meeting) → says_overlap m ≡ true → (s : LineSegment) × (m ≡ Overlap s)
yes_overlap Nothing e = clash e
yes_overlap Crossing e = clash e
yes_overlap (Overlap s) e = (s, refl)

shared : {a b : LineSegment} {p : Point} → Common a b p → Shared a b p
shared {a} {b} {p} c = record { positive = c.positive; first = lies_closed a p c.first; second = lies_closed b p c.second }

-- ---- a crossing: no other point is on both lines
crossing_only : (a b : LineSegment) → HasLength a → HasLength b → intersect_of a b ≡ Crossing → (q : Point) → 0 < q.d → side a q ≡ pos 0 → side b q ≡ pos 0 → point_order (crossing_of a b) q ≡ Equal
crossing_only a b la lb e q d h k =
    let l = lowest_of q.x q.y q.d in
    let low : Lowest l = lowest_lowest q.x q.y q.d d in
    let to : point_order l q ≡ Equal = lowest_same q.x q.y q.d in
    let from : point_order q l ≡ Equal = point_turned l q ∙ ap turned to in
    subst (λ (c : Point). point_order c q ≡ Equal)
    ((crossing_is_cramers a b la lb e).1.only l low (same_side a q l d low.positive from h) (same_side b q l d low.positive from k)) to

module _ (a b : LineSegment) (la : HasLength a) (lb : HasLength b) where
  crossing_single : intersect_of a b ≡ Crossing → Single a b (crossing_of a b)
  crossing_single e =
      let c = (crossing_is_cramers a b la lb e).1 in
      record { lowest = c.lowest; meet = c.common; only = λ q h. crossing_only a b la lb e q h.positive (closed_line a q h.first) (closed_line b q h.second) }

  -- ---- an overlap: every shared point is between the stretch's ends
  module _ (s : LineSegment) (e : intersect_of a b ≡ Overlap s) where
    part : CommonPart a b s
    part = overlap_ends a b s la lb e

    from_min : (q : Point) → Shared a b q → ¬ (point_order (point_of s.min) q ≡ Greater)
    from_min q h = closed_from s q (part.ends q h)

    upto_max : (q : Point) → Shared a b q → ¬ (point_order q (point_of s.max) ≡ Greater)
    upto_max q h = closed_upto s q (part.ends q h)

    met : (q : Point) × Common a b q
    met = (says_yes_exactly a b la lb).0 (ap says_yes e)

    -- it runs forward, or is one point
    pub no_back : ¬ (end_order s.min s.max ≡ Greater)
    unfolding end_order
    no_back =
        let h = shared met.1 in
        at_most_trans (point_of s.min) met.0 (point_of s.max) (whole s.min) met.1.positive (whole s.max) (from_min met.0 h) (upto_max met.0 h)

    point_only : end_order s.min s.max ≡ Equal → (q : Point) → Shared a b q → point_order (point_of s.min) q ≡ Equal
    point_only o q h = squeezed s.min s.max q o (from_min q h) (upto_max q h)

    point_single : end_order s.min s.max ≡ Equal → Single a b (point_of s.min)
    unfolding point_of
    point_single o =
        let p = met.0 in
        let c = met.1 in
        let m = point_of s.min in
        let is : point_order p m ≡ Equal = point_turned m p ∙ ap turned (point_only o p (shared c)) in
        record {
          lowest = whole_lowest s.min.x s.min.y;
          meet = record { positive = whole s.min; first = same_lies a p m c.positive (whole s.min) is c.first; second = same_lies b p m c.positive (whole s.min) is c.second };
          only = point_only o;
        }

    ends_several : end_order s.min s.max ≡ Less → Several a b
    unfolding end_order
    ends_several l = record { one = point_of s.min; another = point_of s.max; one_shared = part.first; another_shared = part.last; before = l }

    -- At and Along, back from what they say
    along_at : (p : Point) → along_of s ≡ Where.At p → Single a b p
    unfolding along_of along_by
    along_at p w = go (end_order s.min s.max) refl w
      where
        go : (o : Ordering) → end_order s.min s.max ≡ o → along_by o (point_of s.min) (point_of s.max) ≡ Where.At p → Single a b p
        go Less o w = no (cc)
        go Equal o w = let is : point_of s.min ≡ p = cc in subst (Single a b) is (point_single o)
        go Greater o w = no (cc)

    along_several : says_along (along_of s) ≡ true → Several a b
    unfolding along_of along_by
    along_several y = go (end_order s.min s.max) refl y
      where
        go : (o : Ordering) → end_order s.min s.max ≡ o → says_along (along_by o (point_of s.min) (point_of s.max)) ≡ true → Several a b
        go Less o y = ends_several o
        go Equal o y = clash y
        go Greater o y = absurd (no_back o)

    at_along : (p : Point) → Single a b p → along_of s ≡ Where.At p
    unfolding along_of along_by end_order point_of
    at_along p h =
        let m = point_of s.min in
        let to : point_order p m ≡ Equal = h.only m part.first in
        let one : end_order s.min s.max ≡ Equal = sym (point_alike p m (point_of s.max) h.lowest.positive (whole s.min) to) ∙ h.only (point_of s.max) part.last in
        rw one (ap Where.At (sym (one_record p m h.lowest (whole_lowest s.min.x s.min.y) to)))

    several_along : Several a b → says_along (along_of s) ≡ true
    unfolding along_of along_by
    several_along h =
        rw (apart s.min s.max h.one h.another h.one_shared.positive h.another_shared.positive (from_min h.one h.one_shared) h.before (upto_max h.another h.another_shared))

  -- ---- two shared points: the lines are one, and the stretch runs forward
  module _ (h : Several a b) where
    unequal : (c : Point) → 0 < c.d → point_order c h.one ≡ Equal → point_order c h.another ≡ Equal → ⊥
    unequal c d e f = less_or (sym h.before ∙ sym (point_alike c h.one h.another d h.one_shared.positive e) ∙ f)
      where
        less_or : Less ≡ Equal → ⊥
        less_or e = no (cc)

    -- the pieces with their ends added do not cross
    ends_overlap : says_overlap (intersect_of (closed a) (closed b)) ≡ true
    unfolding closed end_order point_of
    ends_overlap = go (intersect_of (closed a) (closed b)) refl ((says_yes_exactly (closed a) (closed b) la lb).1 (h.one, h.one_shared))
      where
        go : (m : Meeting) → intersect_of (closed a) (closed b) ≡ m → says_yes m ≡ true → says_overlap m ≡ true
        go Nothing e y = y
        go Crossing e y =
            let at : (q : Point) → Shared a b q → point_order (crossing_of (closed a) (closed b)) q ≡ Equal = λ q k. crossing_only (closed a) (closed b) la lb e q k.positive k.first.line k.second.line in
            absurd (unequal (crossing_of (closed a) (closed b)) (crossing_is_cramers (closed a) (closed b) la lb e).1.lowest.positive (at h.one h.one_shared) (at h.another h.another_shared))
        go (Overlap s) e y = refl

    one_line : OneLine a b
    unfolding closed end_order point_of side run rise
    one_line = let o = ((overlap_exactly (closed a) (closed b) la lb).0 ends_overlap).0 in record { min = o.min; max = o.max }

    forward : end_order (stretch a b).min (stretch a b).max ≡ Less
    forward =
        apart (stretch a b).min (stretch a b).max h.one h.another h.one_shared.positive h.another_shared.positive
        (first (rightmost_is a.min b.min)) h.before (last (leftmost_is a.max b.max))
      where
        first : {e : EndPoint} → (e ≡ a.min) ⊎ (e ≡ b.min) → ¬ (point_order (point_of e) h.one ≡ Greater)
        first (inl e) = rw e (closed_from a h.one h.one_shared.first)
        first (inr e) = rw e (closed_from b h.one h.one_shared.second)

        last : {e : EndPoint} → (e ≡ a.max) ⊎ (e ≡ b.max) → ¬ (point_order h.another (point_of e) ≡ Greater)
        last (inl e) = rw e (closed_upto a h.another h.another_shared.first)
        last (inr e) = rw e (closed_upto b h.another h.another_shared.second)

    overlap : (s : LineSegment) × (intersect_of a b ≡ Overlap s)
    unfolding stretch_of stretch_by
    overlap = yes_overlap (intersect_of a b) ((overlap_exactly a b la lb).1 (one_line, stretch_meets a b la lb one_line (rw forward)))

-- ---- what is promised
pub at_exactly : AtExactly
unfolding where_of where_by
at_exactly a b la lb p = (there (intersect_of a b) refl, λ h. back h (intersect_of a b) refl ((says_yes_exactly a b la lb).1 (p, h.meet)))
  where
    there : (m : Meeting) → intersect_of a b ≡ m → where_by m (crossing_of a b) ≡ Where.At p → Single a b p
    there Nothing e w = no (cc)
    there Crossing e w = let is : crossing_of a b ≡ p = cc in subst (Single a b) is (crossing_single a b la lb e)
    there (Overlap s) e w = along_at a b la lb s e p w

    back : Single a b p → (m : Meeting) → intersect_of a b ≡ m → says_yes m ≡ true → where_by m (crossing_of a b) ≡ Where.At p
    back h Nothing e y = clash y
    back h Crossing e y =
        let c = crossing_single a b la lb e in
        ap Where.At (one_record (crossing_of a b) p c.lowest h.lowest (c.only p (shared h.meet)))
    back h (Overlap s) e y = at_along a b la lb s e p h

pub along_exactly : AlongExactly
unfolding where_of where_by
along_exactly a b la lb = (there (intersect_of a b) refl, λ h. back h (overlap a b la lb h))
  where
    there : (m : Meeting) → intersect_of a b ≡ m → says_along (where_by m (crossing_of a b)) ≡ true → Several a b
    there Nothing e y = clash y
    there Crossing e y = clash y
    there (Overlap s) e y = along_several a b la lb s e y

    back : Several a b → (s : LineSegment) × (intersect_of a b ≡ Overlap s) → says_along (where_of a b) ≡ true
    back h (s, e) = rw e (several_along a b la lb s e h)
