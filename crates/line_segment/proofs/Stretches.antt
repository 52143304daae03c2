-- Two pieces of one line: their common part runs from the rightmost min to the leftmost max.
use mathlib.Core.Path.{◌≡◌, refl, sym, ap, ap₂, ◌∙◌, subst}
use mathlib.Core.Logic.{◌⊎◌, inl, inr}
use mathlib.Core.Bool.{Bool, true, false, cond, ◌&&◌}
use mathlib.Core.List.{[], ◌∷◌}
use Prim.Native.Nat.{◌<◌}
use native.Mathlib.Omega.{arith}
use lib.IntN.{ℤ, pos, ◌+ℤ◌, ◌-ℤ◌, ◌*ℤ◌}
use lib.Signed.{◌<ℤ◌}
use Rattle.integers.proofs.Identity.{by_ring, terms}
use Rattle.integers.proofs.Signs.{<_diff}
use Rattle.integers.proofs.Order.{<_cert}
use Rattle.std.specs.declared.cmp.Ordering.{Ordering}
use Rattle.std.specs.declared.cmp.Ordering.TheVariants.{Less, Equal, Greater}
use Rattle.fractions.specs.declared.Point.{Point}
use Rattle.fractions.specs.Point.{point_order}
use Rattle.fractions.proofs.Points.{Places, left, below, places, placed, point_itself, less_at_most, at_most_less, at_most_trans}
use Rattle.line_segment.specs.declared.EndPoint.{EndPoint}
use Rattle.line_segment.specs.declared.LineSegment.{LineSegment}
use Rattle.line_segment.specs.declared.Meeting.TheVariants.{Nothing, Overlap}
use Rattle.line_segment.specs.Piece.{point_of, end_order, HasLength}
use Rattle.line_segment.specs.Geometry.{run, rise, side, admits, LiesOn, Common, OneLine}
use Rattle.line_segment.specs.Segment.{moment, rightmost_of, leftmost_of, stretch_by, stretch_of}
use Rattle.line_segment.specs.Demand.{says_yes, Meet, CommonPart}
use Rattle.line_segment.proofs.Booleans.{no, clash, both}
use Rattle.line_segment.proofs.Sides.{side_line, min_on, max_on}
use Rattle.line_segment.proofs.Along.{leads}
use Rattle.line_segment.proofs.Lying.{whole, same_side, not_after, closed_of, closed_line, closed_from, closed_upto}
use Rattle.line_segment.proofs.TwoLines.{carried, one_line_turned}
use Rattle.line_segment.proofs.Picking.{from_both, upto_both, rightmost_is, leftmost_is, rightmost_turned, leftmost_turned, rightmost_after, leftmost_before}

-- ---- the middle of two points
middle : EndPoint → EndPoint → Point
middle e f = record { x = e.x +ℤ f.x; y = e.y +ℤ f.y; d = 2 }

middle_on : (s : LineSegment) (e f : EndPoint) → side s (point_of e) ≡ pos 0 → side s (point_of f) ≡ pos 0 → side s (middle e f) ≡ pos 0
unfolding middle point_of
middle_on s e f h k =
    side_line s (middle e f)
    ∙ sum₀ (run s) (rise s) (moment s) e.x e.y f.x f.y
    ∙ ap₂ (λ (u v : ℤ). u +ℤ v) (sym (side_line s (point_of e)) ∙ h) (sym (side_line s (point_of f)) ∙ k)
  where
    sum₀ : (u v m x y x' y' : ℤ) → u *ℤ (y +ℤ y') -ℤ v *ℤ (x +ℤ x') +ℤ m *ℤ pos 2 ≡ (u *ℤ y -ℤ v *ℤ x +ℤ m *ℤ pos 1) +ℤ (u *ℤ y' -ℤ v *ℤ x' +ℤ m *ℤ pos 1)
    sum₀ u v m x y x' y' = by_ring (u ∷ v ∷ m ∷ x ∷ y ∷ x' ∷ y' ∷ []) (search terms depth 60 fits 20000) tt

module _ (e f : EndPoint) (h : point_order (point_of e) (point_of f) ≡ Less) where
  half_up : (a b : ℤ) → (a *ℤ pos 1) <ℤ (b *ℤ pos 1) → (a *ℤ pos 2) <ℤ ((a +ℤ b) *ℤ pos 1)
  half_up a b h = <_cert (a ∷ b ∷ []) (<_diff h) (search terms depth 60 fits 20000) tt

  half_down : (a b : ℤ) → (a *ℤ pos 1) <ℤ (b *ℤ pos 1) → ((a +ℤ b) *ℤ pos 1) <ℤ (b *ℤ pos 2)
  half_down a b h = <_cert (a ∷ b ∷ []) (<_diff h) (search terms depth 60 fits 20000) tt

  level_up : (a b : ℤ) → a *ℤ pos 1 ≡ b *ℤ pos 1 → a *ℤ pos 2 ≡ (a +ℤ b) *ℤ pos 1
  level_up a b e = by_ring (a ∷ []) {a = a *ℤ pos 2} {b = a *ℤ pos 1 +ℤ a *ℤ pos 1} (search terms depth 60 fits 20000) tt ∙ ap (λ (z : ℤ). a *ℤ pos 1 +ℤ z) e ∙ by_ring (a ∷ b ∷ []) (search terms depth 60 fits 20000) tt

  level_down : (a b : ℤ) → a *ℤ pos 1 ≡ b *ℤ pos 1 → (a +ℤ b) *ℤ pos 1 ≡ b *ℤ pos 2
  level_down a b e = by_ring (a ∷ b ∷ []) {a = (a +ℤ b) *ℤ pos 1} {b = a *ℤ pos 1 +ℤ b *ℤ pos 1} (search terms depth 60 fits 20000) tt ∙ ap (λ (z : ℤ). z +ℤ b *ℤ pos 1) e ∙ by_ring (b ∷ []) (search terms depth 60 fits 20000) tt

  before_middle : point_order (point_of e) (middle e f) ≡ Less
  unfolding middle point_of
  before_middle = go (subst (Places (point_of e) (point_of f)) h (places (point_of e) (point_of f)))
    where
      go : Places (point_of e) (point_of f) Less → point_order (point_of e) (middle e f) ≡ Less
      go (left k) = placed (left (half_up e.x f.x k))
      go (below q k) = placed (below (level_up e.x f.x q) (half_up e.y f.y k))

  middle_before : point_order (middle e f) (point_of f) ≡ Less
  unfolding middle point_of
  middle_before = go (subst (Places (point_of e) (point_of f)) h (places (point_of e) (point_of f)))
    where
      go : Places (point_of e) (point_of f) Less → point_order (middle e f) (point_of f) ≡ Less
      go (left k) = placed (left (half_down e.x f.x k))
      go (below q k) = placed (below (level_down e.x f.x q) (half_down e.y f.y k))

-- ---- the stretch of two pieces
abbrev pub stretch : LineSegment → LineSegment → LineSegment
stretch a b = record { min = rightmost_of a.min b.min; max = leftmost_of a.max b.max }

pub stretch_turned : (a b : LineSegment) → stretch_of a b ≡ stretch_of b a
unfolding stretch_of
stretch_turned a b = rw (rightmost_turned a.min b.min, leftmost_turned a.max b.max)

module _ (a b : LineSegment) (la : HasLength a) (lb : HasLength b) (o : OneLine a b) where
  -- both its ends are on the line
  min_line : side a (point_of (stretch a b).min) ≡ pos 0
  min_line = go (rightmost_is a.min b.min)
    where
      go : {e : EndPoint} → (e ≡ a.min) ⊎ (e ≡ b.min) → side a (point_of e) ≡ pos 0
      go (inl q) = rw q (min_on a)
      go (inr q) = rw q o.min

  max_line : side a (point_of (stretch a b).max) ≡ pos 0
  max_line = go (leftmost_is a.max b.max)
    where
      go : {e : EndPoint} → (e ≡ a.max) ⊎ (e ≡ b.max) → side a (point_of e) ≡ pos 0
      go (inl q) = rw q (max_on a)
      go (inr q) = rw q o.max

  -- the point is on the line, and between its ends
  record Spanned (p : Point) : Type 0 where
    line : side a p ≡ pos 0
    from : admits (point_order (point_of (stretch a b).min) p) (stretch a b).min.included ≡ true
    upto : admits (point_order p (point_of (stretch a b).max)) (stretch a b).max.included ≡ true

  common_spanned : (p : Point) → Common a b p → Spanned p
  common_spanned p c =
      record {
        line = c.first.line;
        from = (from_both a.min b.min p c.positive).1 (c.first.from, c.second.from);
        upto = (upto_both a.max b.max p c.positive).1 (c.first.upto, c.second.upto);
      }

  spanned_common : (p : Point) → 0 < p.d → Spanned p → Common a b p
  spanned_common p d h =
      let f = (from_both a.min b.min p d).0 h.from in
      let u = (upto_both a.max b.max p d).0 h.upto in
      record {
        positive = d;
        first = record { line = h.line; from = f.0; upto = u.0 };
        second = record { line = carried b a p (leads a la) (one_line_turned a b (leads a la) o) h.line; from = f.1; upto = u.1 };
      }

  -- ---- yes exactly when a common point exists
  pub stretch_meets : says_yes (stretch_of a b) ≡ true → Meet a b
  unfolding stretch_of stretch_by end_order middle
  stretch_meets = go (point_order (point_of (stretch a b).min) (point_of (stretch a b).max)) refl
    where
      inc : (m : Bool) → says_yes (cond m (Overlap (stretch a b)) Nothing) ≡ true → m ≡ true
      inc true e = refl
      inc false e = clash e

      go : (q : Ordering) → point_order (point_of (stretch a b).min) (point_of (stretch a b).max) ≡ q → says_yes (stretch_by q (stretch a b)) ≡ true → Meet a b
      go Less q e = (
        middle (stretch a b).min (stretch a b).max,
        spanned_common _ (omega arith)
            (record { line = middle_on a _ _ min_line max_line; from = rw (before_middle _ _ q); upto = rw (middle_before _ _ q) }),
      )
      go Equal q e =
          let i = both (inc ((stretch a b).max.included && (stretch a b).min.included) e) in (
            point_of (stretch a b).min,
            spanned_common _ (whole (stretch a b).min)
                (record { line = min_line; from = rw (point_itself (point_of (stretch a b).min)) i.1; upto = rw q i.0 }),
          )
      go Greater q e = clash e

  -- from the first end to the last, at most: no further than p is from either
  module _ (p : Point) (d : 0 < p.d)
      (from : admits (point_order (point_of (stretch a b).min) p) (stretch a b).min.included ≡ true)
      (upto : admits (point_order p (point_of (stretch a b).max)) (stretch a b).max.included ≡ true) where
    abbrev first : Point
    first = point_of (stretch a b).min

    abbrev last : Point
    last = point_of (stretch a b).max

    from_at_most : ¬ (point_order first p ≡ Greater)
    from_at_most = not_after (point_order first p) (stretch a b).min.included from

    upto_at_most : ¬ (point_order p last ≡ Greater)
    upto_at_most = not_after (point_order p last) (stretch a b).max.included upto

    runs : ¬ (point_order first last ≡ Greater)
    runs = at_most_trans first p last (whole (stretch a b).min) d (whole (stretch a b).max) from_at_most upto_at_most

    no_less : {o : Ordering} → o ≡ Less → o ≡ Equal → ⊥
    no_less e f = no (cc)

    -- where the stretch is one point, both ends count
    closes : (o : Ordering) (m : Bool) → admits o m ≡ true → ¬ (o ≡ Less) → m ≡ true
    closes Less m e ne = absurd (ne refl)
    closes Equal m e ne = e
    closes Greater m e ne = clash e

    module _ (q : point_order first last ≡ Equal) where
      not_past : ¬ (point_order first p ≡ Less)
      not_past l = no_less (less_at_most first p last (whole (stretch a b).min) d (whole (stretch a b).max) l upto_at_most) q

      min_counts : (stretch a b).min.included ≡ true
      min_counts = closes (point_order first p) (stretch a b).min.included from not_past

      max_counts : (stretch a b).max.included ≡ true
      max_counts =
          closes (point_order p last) (stretch a b).max.included upto
          (λ l. no_less (at_most_less first p last (whole (stretch a b).min) d (whole (stretch a b).max) from_at_most l) q)

      the_point : point_order first p ≡ Equal
      the_point = sole (point_order first p) refl
        where
          sole : (o : Ordering) → point_order first p ≡ o → point_order first p ≡ Equal
          sole Less e = absurd (not_past e)
          sole Equal e = e
          sole Greater e = absurd (from_at_most e)

    spanned_yes : says_yes (stretch_of a b) ≡ true
    unfolding stretch_of stretch_by end_order
    spanned_yes = go (point_order first last) refl
      where
        go : (q : Ordering) → point_order first last ≡ q → says_yes (stretch_by q (stretch a b)) ≡ true
        go Less q = refl
        go Equal q = rw (max_counts q, min_counts q)
        go Greater q = absurd (runs q)

  pub meets_stretch : Meet a b → says_yes (stretch_of a b) ≡ true
  meets_stretch m = let h = common_spanned m.0 m.1 in spanned_yes m.0 m.1.positive h.from h.upto

  -- ---- the stretch that is answered
  on_line : OneLine a (stretch a b)
  on_line = record { min = min_line; max = max_line }

  of_line : (p : Point) → side a p ≡ pos 0 → side (stretch a b) p ≡ pos 0
  of_line p e = carried (stretch a b) a p (leads a la) (one_line_turned a (stretch a b) (leads a la) on_line) e

  lies_spanned : (p : Point) → 0 < p.d → LiesOn (stretch a b) p → Spanned p
  lies_spanned p d h = record { line = go (point_order (point_of (stretch a b).min) (point_of (stretch a b).max)) refl; from = h.from; upto = h.upto }
    where
      go : (q : Ordering) → point_order (point_of (stretch a b).min) (point_of (stretch a b).max) ≡ q → side a p ≡ pos 0
      go Less q = carried a (stretch a b) p (leads (stretch a b) (unfold end_order in q)) on_line h.line
      go Equal q = same_side a (point_of (stretch a b).min) p (whole (stretch a b).min) d (the_point p d h.from h.upto q) min_line
      go Greater q = absurd (runs p d h.from h.upto q)

  module _ (run_on : ¬ (point_order (point_of (stretch a b).min) (point_of (stretch a b).max) ≡ Greater)) where
    -- the ends of the stretch are on both pieces, with their ends counted in
    o' : OneLine b a
    o' = one_line_turned a b (leads a la) o

    there : (p : Point) → side a p ≡ pos 0 → side b p ≡ pos 0
    there p e = carried b a p (leads a la) o' e

    chain : (e f g : EndPoint) → ¬ (point_order (point_of e) (point_of f) ≡ Greater) → ¬ (point_order (point_of f) (point_of g) ≡ Greater) → ¬ (point_order (point_of e) (point_of g) ≡ Greater)
    chain e f g h k = at_most_trans (point_of e) (point_of f) (point_of g) (whole e) (whole f) (whole g) h k

    from_a : ¬ (point_order (point_of a.min) (point_of (stretch a b).min) ≡ Greater)
    from_a = rightmost_after a.min b.min

    from_b : ¬ (point_order (point_of b.min) (point_of (stretch a b).min) ≡ Greater)
    from_b = rw (rightmost_turned a.min b.min) (rightmost_after b.min a.min)

    upto_a : ¬ (point_order (point_of (stretch a b).max) (point_of a.max) ≡ Greater)
    upto_a = leftmost_before a.max b.max

    upto_b : ¬ (point_order (point_of (stretch a b).max) (point_of b.max) ≡ Greater)
    upto_b = rw (leftmost_turned a.max b.max) (leftmost_before b.max a.max)

    pub common_part : CommonPart a b (stretch a b)
    common_part =
        record {
          part = λ p d. (
            (λ c. let h = common_spanned p c in record { line = of_line p h.line; from = h.from; upto = h.upto }),
            (λ h. spanned_common p d (lies_spanned p d h)),
          );
          first = record {
            positive = whole (stretch a b).min;
            first = closed_of a _ min_line from_a (chain (stretch a b).min (stretch a b).max a.max run_on upto_a);
            second = closed_of b _ (there _ min_line) from_b (chain (stretch a b).min (stretch a b).max b.max run_on upto_b);
          };
          last = record {
            positive = whole (stretch a b).max;
            first = closed_of a _ max_line (chain a.min (stretch a b).min (stretch a b).max from_a run_on) upto_a;
            second = closed_of b _ (there _ max_line) (chain b.min (stretch a b).min (stretch a b).max from_b run_on) upto_b;
          };
          ends = λ p c.
              closed_of (stretch a b) p (of_line p (closed_line a p c.first))
              (one_from p (rightmost_is a.min b.min) (closed_from a p c.first) (closed_from b p c.second))
              (one_upto p (leftmost_is a.max b.max) (closed_upto a p c.first) (closed_upto b p c.second));
        }
      where
        one_from : {e : EndPoint} (p : Point) → (e ≡ a.min) ⊎ (e ≡ b.min) → ¬ (point_order (point_of a.min) p ≡ Greater) → ¬ (point_order (point_of b.min) p ≡ Greater) → ¬ (point_order (point_of e) p ≡ Greater)
        one_from p (inl q) h k = rw q h
        one_from p (inr q) h k = rw q k

        one_upto : {e : EndPoint} (p : Point) → (e ≡ a.max) ⊎ (e ≡ b.max) → ¬ (point_order p (point_of a.max) ≡ Greater) → ¬ (point_order p (point_of b.max) ≡ Greater) → ¬ (point_order p (point_of e) ≡ Greater)
        one_upto p (inl q) h k = rw q h
        one_upto p (inr q) h k = rw q k

  -- an Overlap is the stretch, and runs forward or is one point
  pub overlap_part : (t : LineSegment) → stretch_of a b ≡ Overlap t → CommonPart a b t
  unfolding stretch_of stretch_by end_order
  overlap_part t e = let r = go (point_order (point_of (stretch a b).min) (point_of (stretch a b).max)) refl e in subst (CommonPart a b) r.0 (common_part r.1)
    where
      go : (q : Ordering) → point_order (point_of (stretch a b).min) (point_of (stretch a b).max) ≡ q → stretch_by q (stretch a b) ≡ Overlap t
          → (stretch a b ≡ t) × ¬ (point_order (point_of (stretch a b).min) (point_of (stretch a b).max) ≡ Greater)
      go Less q e = (cc, λ g. no (cc))
      go Equal q e = (marked ((stretch a b).max.included && (stretch a b).min.included) e, λ g. no (cc))
        where
          marked : (m : Bool) → cond m (Overlap (stretch a b)) Nothing ≡ Overlap t → stretch a b ≡ t
          marked true e = cc
          marked false e = no (cc)
      go Greater q e = no (cc)
