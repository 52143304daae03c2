-- What is known of the peak of an accepted outline. Assumes nothing.
use mathlib.Core.Path.{◌≡◌, refl}
use mathlib.Core.Bool.{Bool, true, false, cond, ◌||◌}
use mathlib.Core.List.{List}
use Prim.Native.Nat.{ℕ, ◌/◌, ◌<◌, ◌^◌}
use native.Mathlib.Omega.{arith}
use borrow.Author.Tests.{ltb-false}
use lib.Dec.{ltb, lt→ltb}
use lib.IntN.{ℤ, pos, negsuc, neg_ℤ, nat_abs}
use lib.ListN.{length}
use lib.Signed.{lt_z, ◌<ℤ◌}
use mir.Syntax.{w16}
use mir.Facts.{Fits-nat_abs}
use Rattle.line_segment.proofs.Booleans.{no}
use Rattle.charts.specs.Fault.{range, outside, off_range}
use Rattle.charts.specs.Piece.{coordinate_of}
use Rattle.charts.specs.Verdict.{Accepted, Refused}
use Rattle.charts.proofs.Ranges.{coordinate_fits, coordinate_kept}
use Rattle.outline.specs.Counting.{first}
use Rattle.outline.specs.Outline.{off_at, same_at, off_peak, no_outline, verdict_of}

pub or_false : (a b : Bool) → (a || b) ≡ false → (a ≡ false) × (b ≡ false)
or_false true b e = no (cc)
or_false false b e = (refl, e)

-- the last test before an outline is accepted
last : (k l m n : ℕ) (a b c d : Bool) → cond a (Refused 15 0) (cond b (Refused 5 k) (cond c (Refused 6 l) (cond d (Refused 5 0) (Accepted m)))) ≡ Accepted n → (d ≡ false) × (n ≡ m)
last k l m n true b c d e = no (cc)
last k l m n false true c d e = no (cc)
last k l m n false false true d e = no (cc)
last k l m n false false false true e = no (cc)
last k l m n false false false false e = (refl, cc)

module _ (outline : List ℤ) (x y : ℤ) {n : ℕ} (e : verdict_of outline x y ≡ Accepted n) where
  pub peak_fine : off_peak x y ≡ false
  unfolding verdict_of
  peak_fine = (last (first (off_at outline) (length outline / 2)) (first (same_at outline (length outline / 2)) (length outline / 2)) (length outline / 2) n (no_outline outline) (ltb (first (off_at outline) (length outline / 2)) (length outline / 2)) (ltb (first (same_at outline (length outline / 2)) (length outline / 2)) (length outline / 2)) (off_peak x y) e).0

  parts : (off_range x y ≡ false) × (lt_z (pos 32766) x ≡ false)
  unfolding off_peak
  parts = or_false (off_range x y) (lt_z (pos 32766) x) peak_fine

  in_range : (outside (neg_ℤ range) range x ≡ false) × (outside (neg_ℤ range) range y ≡ false)
  unfolding off_range
  in_range = or_false (outside (neg_ℤ range) range x) (outside (neg_ℤ range) range y) parts.0

  pub peak_x : coordinate_of x ≡ x
  peak_x = coordinate_kept x in_range.0

  pub peak_y : coordinate_of y ≡ y
  peak_y = coordinate_kept y in_range.1

  -- far below what a point of the chart may be
  pub peak_small : (nat_abs x < 2 ^ 48) × (nat_abs y < 2 ^ 48)
  peak_small = (small x in_range.0, small y in_range.1)
    where
      small : (v : ℤ) → outside (neg_ℤ range) range v ≡ false → nat_abs v < 2 ^ 48
      small v h = let k = (Fits-nat_abs {w = w16} {w' = w16} tt (coordinate_fits v h)).fits in omega (arith, k)

  -- there is a point to the right of it
  pub peak_below : coordinate_of x <ℤ pos 32767
  peak_below = rw peak_x (below x parts.1)
    where
      below : (z : ℤ) → lt_z (pos 32766) z ≡ false → z <ℤ pos 32767
      below (pos n) h = let k = ltb-false 32766 n h in record { lt = lt→ltb n 32767 (omega arith) }
      below (negsuc n) h = record { lt = tt }
