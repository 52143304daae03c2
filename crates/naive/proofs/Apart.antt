-- What the sides say: a piece to one side of another's line does not meet it, and two that lie across each other do.
-- Assumes nothing.
use mathlib.Core.Path.{◌≡◌, refl, sym, subst}
use mathlib.Core.Bool.{Bool, true, false, cond, ◌&&◌}
use lib.Dec.{T}
use lib.IntN.{ℤ, pos}
use lib.Signed.{lt_z, lt_z_yes}
use Rattle.integers.proofs.Tests.{holds}
use Rattle.line_segment.specs.declared.LineSegment.{LineSegment}
use Rattle.line_segment.specs.Piece.{HasLength}
use Rattle.line_segment.specs.Segment.{intersect_of, cramer_of}
use Rattle.line_segment.specs.Demand.{says_yes, Meet}
use Rattle.line_segment.proofs.Along.{leads}
use Rattle.line_segment.proofs.TwoLines.{OneSided, above, below, Opposite, down, up, outside}
use Rattle.line_segment.proofs.Crossings.{astride_common}
use Rattle.line_segment.proofs.Promises.{says_yes_exactly}
use Rattle.naive.specs.Sides.{one_side, two_sides, beside_of, across_of}

-- the branch that a test of this shape took
branch : {P : Type 0} (p q r s : Bool) → cond p q (r && s) ≡ true → (p ≡ true → q ≡ true → P) → (r ≡ true → s ≡ true → P) → P
branch true q r s e f g = f refl e
branch false q true s e f g = g refl e
branch false q false s e f g = absurd (subst T (sym e) tt)

one_sided : (d e : ℤ) → one_side d e ≡ true → OneSided d e
unfolding one_side
one_sided d e h =
    branch (lt_z (pos 0) d) (lt_z (pos 0) e) (lt_z d (pos 0)) (lt_z e (pos 0)) h
    (λ p q. above (lt_z_yes (holds p)) (lt_z_yes (holds q))) (λ p q. below (lt_z_yes (holds p)) (lt_z_yes (holds q)))

opposite : (d e : ℤ) → two_sides d e ≡ true → Opposite d e
unfolding two_sides
opposite d e h =
    branch (lt_z (pos 0) d) (lt_z e (pos 0)) (lt_z d (pos 0)) (lt_z (pos 0) e) h
    (λ p q. down (lt_z_yes (holds p)) (lt_z_yes (holds q))) (λ p q. up (lt_z_yes (holds p)) (lt_z_yes (holds q)))

module _ (a b : LineSegment) (la : HasLength a) (lb : HasLength b) where
  no_point : beside_of a b ≡ true → ¬ Meet a b
  unfolding beside_of
  no_point e m = let c = m.1 in outside a b m.0 (leads b lb) c.positive c.first.line c.second.line c.second (one_sided _ _ e)

  pub beside_apart : beside_of a b ≡ true → says_yes (intersect_of a b) ≡ false
  beside_apart e = go (says_yes (intersect_of a b)) refl
    where
      go : (t : Bool) → says_yes (intersect_of a b) ≡ t → says_yes (intersect_of a b) ≡ false
      go true f = absurd (no_point e ((says_yes_exactly a b la lb).0 f))
      go false f = f

  pub across_meet : across_of a b ≡ true → across_of b a ≡ true → says_yes (intersect_of a b) ≡ true
  unfolding across_of
  across_meet e f = (says_yes_exactly a b la lb).1 (cramer_of a b, astride_common a b la lb (opposite _ _ e) (opposite _ _ f))
