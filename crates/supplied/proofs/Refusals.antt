-- The verdict on a chart and a supplier's list: that of the chart, then 16.
-- Assumes nothing.
use mathlib.Core.Path.{◌≡◌, refl, ◌∙◌}
use mathlib.Core.Bool.{Bool, true, false, cond, not}
use mathlib.Core.List.{List}
use Prim.Native.Nat.{ℕ, ◌%◌}
use native.Mathlib.Omega.{arith}
use borrow.Author.Tests.{eq-eqb, ne_eqb, eqb-true}
use lib.Dec.{eqb}
use lib.IntN.{ℤ}
use Rattle.charts.specs.Chart.{verdict_of}
use Rattle.charts.specs.Verdict.{Verdict}
use Rattle.charts.specs.Verdict.{Accepted, Refused}
use Rattle.supplied.specs.Checking.{then_even, supplied_of}

module _ (list : List ℤ) (bytes : ℕ) where
  -- what is known where the check goes ahead
  pub supplied_goes : (n : ℕ) → supplied_of list bytes ≡ Accepted n → (verdict_of list ≡ Accepted n) × (bytes % 2 ≡ 0)
  unfolding supplied_of
  supplied_goes n e = go (verdict_of list) refl e
    where
      even : (m : ℕ) (t : Bool) → eqb (bytes % 2) 0 ≡ t → verdict_of list ≡ Accepted m → cond (not t) (Refused 16 0) (Accepted m) ≡ Accepted n → (verdict_of list ≡ Accepted n) × (bytes % 2 ≡ 0)
      even m true q h k = (h ∙ k, eqb-true _ _ q)
      even m false q h k = let z : ◌≡◌ {A = ℕ} 0 1 = cc in absurd (omega arith)

      go : (v : Verdict) → verdict_of list ≡ v → then_even bytes v ≡ Accepted n → (verdict_of list ≡ Accepted n) × (bytes % 2 ≡ 0)
      go (Accepted m) h k = even m (eqb (bytes % 2) 0) refl h k
      go (Refused j p) h k = let z : ◌≡◌ {A = ℕ} 0 1 = cc in absurd (omega arith)

  pub supplied_accepted : (n : ℕ) → verdict_of list ≡ Accepted n → bytes % 2 ≡ 0 → supplied_of list bytes ≡ Accepted n
  unfolding supplied_of
  supplied_accepted n e h = rw (e, eq-eqb _ _ h)

  pub supplied_refused : (k p : ℕ) → verdict_of list ≡ Refused k p → supplied_of list bytes ≡ Refused k p
  unfolding supplied_of
  supplied_refused k p e = rw e

  pub supplied_odd : (n : ℕ) → verdict_of list ≡ Accepted n → ¬ (bytes % 2 ≡ 0) → supplied_of list bytes ≡ Refused 16 0
  unfolding supplied_of
  supplied_odd n e h = rw (e, ne_eqb _ _ h)
