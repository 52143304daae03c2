-- On exactly when the peak lies on a side: the proof of `OnExactly`. Assumes nothing.
use mathlib.Core.Path.{◌≡◌, refl, sym, ap, ap₂, ◌∙◌}
use mathlib.Core.Bool.{Bool, true, false, cond}
use mathlib.Core.Logic.{◌↔◌}
use mathlib.Core.List.{List}
use Prim.Native.Nat.{ℕ, ◌%◌, ◌<◌}
use native.Mathlib.Omega.{arith}
use borrow.Author.Tests.{lt-ltb, ltb-true}
use lib.Dec.{eqb, ltb}
use lib.IntN.{ℤ}
use Rattle.std.specs.Prelude.{Some}
use Rattle.std.proofs.lemmas.Option.{same_Some}
use Rattle.fractions.specs.Point.{Bounded, whole_of}
use Rattle.line_segment.specs.Geometry.{LiesOn}
use Rattle.line_segment.specs.Segment.{contains_of}
use Rattle.line_segment.proofs.Booleans.{no, clash}
use Rattle.line_segment.proofs.Promises.{contains_exactly}
use Rattle.half_line.specs.Call.{corner_at}
use Rattle.charts.specs.Verdict.{Accepted}
use Rattle.outline.specs.Counting.{first, count}
use Rattle.outline.specs.Outline.{side_of, verdict_of}
use Rattle.outline.proofs.First.{Finds, at, nowhere, finds}
use Rattle.outline.proofs.Peaks.{peak_small}
use Rattle.outline.proofs.Accepted.{sides_have_length, peak_as_given}
use Rattle.region.specs.declared.Region.{Region}
use Rattle.region.specs.Region.{on_side, met_side, parity, region_of, region_answer_of}
use Rattle.region.specs.Demand.{OnSome, OnExactly}

-- only the first question answers On
not_on : (k : ℕ) → ¬ (parity k ≡ Region.On)
not_on k = go (eqb (k % 2) 1)
  where
    go : (b : Bool) → ¬ (cond b Region.Inside Region.Outside ≡ Region.On)
    go true e = no (cc)
    go false e = no (cc)

asked : (b : Bool) (r : Region) → ¬ (r ≡ Region.On) → cond b Region.On r ≡ Region.On → b ≡ true
asked true r h e = refl
asked false r h e = absurd (h e)

-- some number below n is a yes
pub some : (f : ℕ → Bool) (n : ℕ) → ltb (first f n) n ≡ true → (i : ℕ) × (i < n) × (f i ≡ true)
some f n e = go (first f n) (ltb-true _ _ e) (finds f n)
  where
    go : (m : ℕ) → m < n → Finds f n m → (i : ℕ) × (i < n) × (f i ≡ true)
    go m l (at i h b q) = (i, h, q)
    go m l (nowhere b) = absurd (omega arith)

pub any : (f : ℕ → Bool) (n i : ℕ) → i < n → f i ≡ true → ltb (first f n) n ≡ true
any f n i h e = go (first f n) (finds f n)
  where
    go : (m : ℕ) → Finds f n m → ltb m n ≡ true
    go m (at j l b q) = lt-ltb _ _ l
    go m (nowhere b) = clash (sym (b i h) ∙ e)

module _ (outline : List ℤ) (x y : ℤ) (n : ℕ) (e : verdict_of outline x y ≡ Accepted n) where
  peak : whole_of (corner_at x y).x (corner_at x y).y ≡ whole_of x y
  peak = let k = peak_as_given outline x y n e in ap₂ whole_of k.0 k.1

  pub answer : (region_answer_of outline x y).region ≡ Some (region_of outline n (corner_at x y))
  unfolding region_answer_of
  answer = rw e

  bounded : Bounded (whole_of x y)
  bounded = let k = peak_small outline x y e in record { d_small = omega arith; x_small = k.0; y_small = k.1 }

  pub held : (i : ℕ) → i < n → (on_side outline n (corner_at x y) i ≡ true) ↔ LiesOn (side_of outline n i) (whole_of x y)
  unfolding on_side
  held i l =
      let k = contains_exactly (side_of outline n i) (whole_of x y) (sides_have_length outline x y n i e l) (omega arith) bounded in
      ((λ h. k.0 (ap (contains_of (side_of outline n i)) (sym peak) ∙ h)), (λ h. ap (contains_of (side_of outline n i)) peak ∙ k.1 h))

  on_some : (region_answer_of outline x y).region ≡ Some Region.On → OnSome outline n x y
  unfolding region_of
  on_some h =
      let s = some (on_side outline n (corner_at x y)) n (asked _ (parity (count (met_side outline n (corner_at x y)) n)) (not_on (count (met_side outline n (corner_at x y)) n)) (same_Some _ _ (sym answer ∙ h))) in
      (s.0, s.1, (held s.0 s.1).0 s.2)

  some_on : OnSome outline n x y → (region_answer_of outline x y).region ≡ Some Region.On
  unfolding region_of
  some_on s = answer ∙ ap Some (rw (any (on_side outline n (corner_at x y)) n s.0 s.1 ((held s.0 s.1).1 s.2)))

pub on_exactly : OnExactly
on_exactly outline x y n e = (on_some outline x y n e, some_on outline x y n e)
