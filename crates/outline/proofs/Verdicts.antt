-- How the verdict on an outline and a peak comes about, test by test. Assumes nothing.
use mathlib.Core.Path.{◌≡◌, refl}
use mathlib.Core.Bool.{Bool, true, false, not, ◌||◌}
use mathlib.Core.List.{List}
use Prim.Native.Nat.{ℕ, ◌<◌, ◌≤◌, ◌/◌, ◌%◌}
use borrow.Author.Tests.{eq-eqb, ne_eqb, lt-ltb, le-ltb}
use lib.Dec.{eqb, ltb}
use lib.IntN.{ℤ}
use lib.ListN.{length}
use Rattle.charts.specs.Verdict.{Accepted, Refused}
use Rattle.outline.specs.Counting.{first}
use Rattle.outline.specs.Outline.{fewest, most, off_at, same_at, off_peak, no_outline, verdict_of}

or_true : (a : Bool) {b : Bool} → b ≡ true → (a || b) ≡ true
or_true true e = refl
or_true false e = e

module _ (outline : List ℤ) where
  pub odd_count : ¬ (length outline % 2 ≡ 0) → no_outline outline ≡ true
  unfolding no_outline
  odd_count h = rw (ne_eqb _ _ h)

  pub too_few : length outline / 2 < fewest → no_outline outline ≡ true
  unfolding no_outline
  too_few h = or_true (not (eqb (length outline % 2) 0)) (rw (lt-ltb _ _ h))

  pub too_many : most < length outline / 2 → no_outline outline ≡ true
  unfolding no_outline
  too_many h = or_true (not (eqb (length outline % 2) 0)) (or_true (ltb (length outline / 2) fewest) (lt-ltb _ _ h))

  pub an_outline : length outline % 2 ≡ 0 → fewest ≤ length outline / 2 → length outline / 2 ≤ most → no_outline outline ≡ false
  unfolding no_outline
  an_outline e h k = rw (eq-eqb _ _ e, le-ltb _ _ h, le-ltb _ _ k)

  module _ (x y : ℤ) where
    pub refused : no_outline outline ≡ true → Refused 15 0 ≡ verdict_of outline x y
    unfolding verdict_of
    refused e = rw e

    -- the first corner out of range, and the first equal to its next, by what the loops found
    module _ (e : no_outline outline ≡ false) {off : ℕ} (o : off ≡ first (off_at outline) (length outline / 2)) where
      pub off_corner : off < length outline / 2 → Refused 5 off ≡ verdict_of outline x y
      unfolding verdict_of
      off_corner h = rw (e, ← o, lt-ltb _ _ h)

      module _ (h : length outline / 2 ≤ off) {same : ℕ} (s : same ≡ first (same_at outline (length outline / 2)) (length outline / 2)) where
        pub same_corner : same < length outline / 2 → Refused 6 same ≡ verdict_of outline x y
        unfolding verdict_of
        same_corner k = rw (e, ← o, le-ltb _ _ h, ← s, lt-ltb _ _ k)

        module _ (k : length outline / 2 ≤ same) where
          pub off_peak' : off_peak x y ≡ true → Refused 5 0 ≡ verdict_of outline x y
          unfolding verdict_of
          off_peak' p = rw (e, ← o, le-ltb _ _ h, ← s, le-ltb _ _ k, p)

          pub accepted : off_peak x y ≡ false → Accepted (length outline / 2) ≡ verdict_of outline x y
          unfolding verdict_of
          accepted p = rw (e, ← o, le-ltb _ _ h, ← s, le-ltb _ _ k, p)
