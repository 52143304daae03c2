-- What is known of an accepted outline: its sides are made of its numbers and have some length. Assumes nothing.
use mathlib.Core.Path.{◌≡◌, refl}
use mathlib.Core.Bool.{Bool, true, false, cond}
use mathlib.Core.List.{List}
use mathlib.Core.Logic.{inl, inr}
use Prim.Native.Nat.{ℕ, ◌+◌, ◌<◌}
use native.Mathlib.Omega.{arith}
use borrow.Author.Tests.{ltb-true}
use lib.Dec.{ltb}
use lib.IntN.{ℤ}
use Rattle.line_segment.specs.Piece.{piece_of, first_included, second_included}
use Rattle.charts.specs.Verdict.{Accepted}
use Rattle.charts.proofs.Accepted.{apart, in_range}
use Rattle.outline.specs.Outline.{number_at, next_of, side_of, verdict_of}
use Rattle.outline.specs.Demand.{OffCorner, SameCorner, NoneBelow, Due, done, SidesAsGiven, SidesHaveLength, PeakAsGiven}
use Rattle.outline.proofs.Exactly.{refuses_exactly}
use Rattle.outline.proofs.Peaks.{peak_x, peak_y, peak_below}

-- the next corner is one
pub next_below : (n i : ℕ) → i < n → next_of n i < n
unfolding next_of
next_below n i h = go (ltb (i + 1) n) refl
  where
    go : (b : Bool) → ltb (i + 1) n ≡ b → cond b (i + 1) 0 < n
    go true e = ltb-true _ _ e
    go false e = omega arith

module _ (outline : List ℤ) (x y : ℤ) {n : ℕ} (e : verdict_of outline x y ≡ Accepted n) where
  pub none_off : NoneBelow outline n (OffCorner outline)
  none_off = go ((refuses_exactly outline x y (Accepted n)).0 e)
    where
      go : Due outline x y (Accepted n) → NoneBelow outline n (OffCorner outline)
      go (done n c h k p) = h

  pub none_same : NoneBelow outline n (SameCorner outline n)
  none_same = go ((refuses_exactly outline x y (Accepted n)).0 e)
    where
      go : Due outline x y (Accepted n) → NoneBelow outline n (SameCorner outline n)
      go (done n c h k p) = k

pub sides_as_given : SidesAsGiven
unfolding side_of
sides_as_given outline x y n i e l =
    let h = none_off outline x y e i l in
    let k = none_off outline x y e (next_of n i) (next_below n i l) in
    rw (in_range (number_at outline i 0) (λ z. h (inl z)), in_range (number_at outline i 1) (λ z. h (inr z)), in_range (number_at outline (next_of n i) 0) (λ z. k (inl z)), in_range (number_at outline (next_of n i) 1) (λ z. k (inr z)))

pub sides_have_length : SidesHaveLength
unfolding piece_of
sides_have_length outline x y n i e l =
    rw (sides_as_given outline x y n i e l)
    (apart (record { x = number_at outline i 0; y = number_at outline i 1; included = first_included 3 }) (record { x = number_at outline (next_of n i) 0; y = number_at outline (next_of n i) 1; included = second_included 3 })
    (none_same outline x y e i l))

pub peak_as_given : PeakAsGiven
peak_as_given outline x y n e = (peak_x outline x y e, peak_y outline x y e, rw (peak_x outline x y e) at (peak_below outline x y e))
