-- The rightmost of two ends admits just what both admit, and the leftmost likewise; each is one of the two.
use mathlib.Core.Path.{◌≡◌, refl, sym, ap, ◌∙◌}
use mathlib.Core.Logic.{◌↔◌, ◌⊎◌, inl, inr}
use mathlib.Core.Bool.{Bool, true, false, cond}
use Prim.Native.Nat.{◌<◌}
use Rattle.std.specs.declared.cmp.Ordering.{Ordering}
use Rattle.std.specs.declared.cmp.Ordering.TheVariants.{Less, Equal, Greater}
use Rattle.fractions.specs.declared.Point.{Point}
use Rattle.fractions.specs.Order.{turned}
use Rattle.fractions.specs.Point.{point_order}
use Rattle.integers.proofs.Ring.{*ℤ_idr}
use Rattle.fractions.proofs.Points.{Places, same, places, point_itself, point_turned, point_alike, point_alike', less_at_most, at_most_less}
use Rattle.line_segment.specs.declared.EndPoint.{EndPoint}
use Rattle.line_segment.specs.Piece.{point_of, end_order}
use Rattle.line_segment.specs.Geometry.{admits}
use Rattle.line_segment.specs.Segment.{exclusive_of, right_by, rightmost_of, left_by, leftmost_of}
use Rattle.line_segment.proofs.Booleans.{no, clash}
use Rattle.line_segment.proofs.Lying.{whole, not_after}

-- ---- `o` tells how each end comes to a point; ef how e comes to f
module _ (o : EndPoint → Ordering) (e f : EndPoint) where
  abbrev Admits : EndPoint → Type 0
  Admits x = admits (o x) x.included ≡ true

  of_equals : o e ≡ o f → (m : Bool) → e.included ≡ m → Admits (cond m f e) ↔ (Admits e × Admits f)
  of_equals alike true i = ((λ h. (rw (alike, i) (widen (o f) f.included h), h)), (λ h. h.1))
    where
      widen : (o : Ordering) (m : Bool) → admits o m ≡ true → admits o true ≡ true
      widen Less m h = refl
      widen Equal m h = refl
      widen Greater m h = h
  of_equals alike false i = ((λ h. (h, narrow (o f) f.included (rw (alike, i) at h))), (λ h. h.0))
    where
      narrow : (o : Ordering) (m : Bool) → admits o false ≡ true → admits o m ≡ true
      narrow Less m h = refl
      narrow Equal m h = clash h
      narrow Greater m h = h

  pick : (ef : Ordering)
      → (ef ≡ Less → ¬ (o f ≡ Greater) → o e ≡ Less) → (ef ≡ Equal → o e ≡ o f) → (ef ≡ Greater → ¬ (o e ≡ Greater) → o f ≡ Less)
      → Admits (right_by ef e f) ↔ (Admits e × Admits f)
  unfolding right_by
  pick Less l q g = ((λ h. (rw (l refl (not_after (o f) f.included h)), h)), (λ h. h.1))
  pick Equal l q g = of_equals (q refl) e.included refl
  pick Greater l q g = ((λ h. (h, rw (g refl (not_after (o e) e.included h)))), (λ h. h.0))

-- the end picked is one of the two
one_of : (e f : EndPoint) (ef : Ordering) → (right_by ef e f ≡ e) ⊎ (right_by ef e f ≡ f)
unfolding right_by
one_of e f Less = inr refl
one_of e f Equal = go e.included
  where
    go : (m : Bool) → (cond m f e ≡ e) ⊎ (cond m f e ≡ f)
    go true = inr refl
    go false = inl refl
one_of e f Greater = inl refl

-- ---- which of the two is asked first does not matter
same_end : {e f : EndPoint} → e.x ≡ f.x → e.y ≡ f.y → e.included ≡ f.included → e ≡ f
same_end h k l i = record { x = h i; y = k i; included = l i }

exclusive_turned : (e f : EndPoint) → e.x ≡ f.x → e.y ≡ f.y → exclusive_of e f ≡ exclusive_of f e
exclusive_turned e f h k = go e.included f.included refl refl
  where
    go : (m n : Bool) → e.included ≡ m → f.included ≡ n → cond m f e ≡ cond n e f
    go true true i j = sym (same_end h k (i ∙ sym j))
    go true false i j = refl
    go false true i j = refl
    go false false i j = same_end h k (i ∙ sym j)

at_one_point : (e f : EndPoint) → end_order e f ≡ Equal → exclusive_of e f ≡ exclusive_of f e
unfolding end_order point_of
at_one_point e f q = go (rw q at (places (point_of e) (point_of f)))
  where
    go : Places (point_of e) (point_of f) Equal → exclusive_of e f ≡ exclusive_of f e
    go (same x y) = exclusive_turned e f (sym (*ℤ_idr e.x) ∙ x ∙ *ℤ_idr f.x) (sym (*ℤ_idr e.y) ∙ y ∙ *ℤ_idr f.y)

right_turned : (e f : EndPoint) (o : Ordering) → end_order e f ≡ o → right_by o e f ≡ right_by (turned o) f e
unfolding right_by
right_turned e f Less q = refl
right_turned e f Equal q = at_one_point e f q
right_turned e f Greater q = refl

left_turned : (e f : EndPoint) (o : Ordering) → end_order e f ≡ o → left_by o e f ≡ left_by (turned o) f e
unfolding left_by
left_turned e f Less q = refl
left_turned e f Equal q = at_one_point e f q
left_turned e f Greater q = refl

left_is : (o : Ordering) (e f : EndPoint) → left_by o e f ≡ right_by (turned o) e f
unfolding left_by right_by
left_is Less e f = refl
left_is Equal e f = refl
left_is Greater e f = refl

module _ (e f : EndPoint) where
  -- ---- from the rightmost
  module _ (p : Point) (d : 0 < p.d) where
    pub from_both : (admits (point_order (point_of (rightmost_of e f)) p) (rightmost_of e f).included ≡ true)
        ↔ ((admits (point_order (point_of e) p) e.included ≡ true) × (admits (point_order (point_of f) p) f.included ≡ true))
    unfolding rightmost_of end_order
    from_both =
        pick (λ (x : EndPoint). point_order (point_of x) p) e f (point_order (point_of e) (point_of f))
        (λ l g. less_at_most (point_of e) (point_of f) p (whole e) (whole f) d l g)
        (λ q. point_alike (point_of e) (point_of f) p (whole e) (whole f) q)
        (λ l g. less_at_most (point_of f) (point_of e) p (whole f) (whole e) d (point_turned (point_of e) (point_of f) ∙ ap turned l) g)

    pub upto_both : (admits (point_order p (point_of (leftmost_of e f))) (leftmost_of e f).included ≡ true)
        ↔ ((admits (point_order p (point_of e)) e.included ≡ true) × (admits (point_order p (point_of f)) f.included ≡ true))
    unfolding leftmost_of end_order
    upto_both =
        rw (left_is (point_order (point_of e) (point_of f)) e f)
        (pick (λ (x : EndPoint). point_order p (point_of x)) e f (turned (point_order (point_of e) (point_of f)))
        (λ l g. at_most_less p (point_of f) (point_of e) d (whole f) (whole e) g (point_turned (point_of e) (point_of f) ∙ l))
        (λ q. point_alike' p (point_of e) (point_of f) (whole e) (whole f) (level q))
        (λ l g. at_most_less p (point_of e) (point_of f) d (whole e) (whole f) g (sym (turned_twice (point_order (point_of e) (point_of f))) ∙ ap turned l)))
      where
        turned_twice : (o : Ordering) → turned (turned o) ≡ o
        turned_twice Less = refl
        turned_twice Equal = refl
        turned_twice Greater = refl

        level : {o : Ordering} → turned o ≡ Equal → o ≡ Equal
        level {o} q = sym (turned_twice o) ∙ ap turned q

  pub rightmost_is : (rightmost_of e f ≡ e) ⊎ (rightmost_of e f ≡ f)
  unfolding rightmost_of
  rightmost_is = one_of e f (end_order e f)

  pub leftmost_is : (leftmost_of e f ≡ e) ⊎ (leftmost_of e f ≡ f)
  unfolding leftmost_of
  leftmost_is = rw (left_is (end_order e f) e f) (one_of e f (turned (end_order e f)))

  end_turned : end_order f e ≡ turned (end_order e f)
  unfolding end_order
  end_turned = point_turned (point_of e) (point_of f)

  pub rightmost_turned : rightmost_of e f ≡ rightmost_of f e
  unfolding rightmost_of
  rightmost_turned = right_turned e f (end_order e f) refl ∙ ap (λ (o : Ordering). right_by o f e) (sym end_turned)

  pub leftmost_turned : leftmost_of e f ≡ leftmost_of f e
  unfolding leftmost_of
  leftmost_turned = left_turned e f (end_order e f) refl ∙ ap (λ (o : Ordering). left_by o f e) (sym end_turned)

  -- no end comes after the rightmost, nor before the leftmost
  pub rightmost_after : ¬ (point_order (point_of e) (point_of (rightmost_of e f)) ≡ Greater)
  unfolding rightmost_of right_by end_order
  rightmost_after = go (point_order (point_of e) (point_of f)) refl (point_itself (point_of e))
    where
      go : (o : Ordering) → point_order (point_of e) (point_of f) ≡ o → point_order (point_of e) (point_of e) ≡ Equal → ¬ (point_order (point_of e) (point_of (right_by o e f)) ≡ Greater)
      go Less q i g = no (cc)
      go Equal q i g = pair e.included g
        where
          pair : (m : Bool) → point_order (point_of e) (point_of (cond m f e)) ≡ Greater → ⊥
          pair true g = no (cc)
          pair false g = no (cc)
      go Greater q i g = no (cc)

  pub leftmost_before : ¬ (point_order (point_of (leftmost_of e f)) (point_of e) ≡ Greater)
  unfolding leftmost_of left_by end_order
  leftmost_before = go (point_order (point_of e) (point_of f)) refl (point_itself (point_of e))
    where
      back : {o : Ordering} → point_order (point_of e) (point_of f) ≡ o → point_order (point_of f) (point_of e) ≡ turned o
      back q = point_turned (point_of e) (point_of f) ∙ ap turned q

      go : (o : Ordering) → point_order (point_of e) (point_of f) ≡ o → point_order (point_of e) (point_of e) ≡ Equal → ¬ (point_order (point_of (left_by o e f)) (point_of e) ≡ Greater)
      go Less q i g = no (cc)
      go Equal q i g = pair e.included (back q) g
        where
          pair : (m : Bool) → point_order (point_of f) (point_of e) ≡ Equal → point_order (point_of (cond m f e)) (point_of e) ≡ Greater → ⊥
          pair true b g = no (cc)
          pair false b g = no (cc)
      go Greater q i g = let b = back q in no (cc)
