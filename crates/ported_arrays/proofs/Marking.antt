-- A pair's mark set in the array of marks: its own changes, and no other's.
use mathlib.Core.Path.{◌≡◌, ap}
use mathlib.Core.Logic.{◌≢◌, ◌⊎◌, inl, inr, by_cases}
use mathlib.Core.List.{List}
use Prim.Native.Nat.{ℕ, ◌*◌, ◌≤◌}
use native.Mathlib.Omega.{arith}
use native.Mathlib.Decide.{ℕ_discrete}
use lib.ListN.{length, get_or, set}
use lib.Seq.{get_or-set_same, get_or-set_other}
use Rattle.charts.specs.Chart.{most}
use Rattle.sweep.specs.Lists.{Pair}
use Rattle.sweep.specs.Chart.{Chart}
use Rattle.sweep.specs.Demand.{Pieces}
use Rattle.ported_arrays.specs.Numbers.{cell}
use Rattle.ported_arrays.proofs.Cells.{cell_one, cell_small}

-- two pairs are one or not
pub same_or_not : (q r : Pair) → (q ≡ r) ⊎ (q ≢ r)
same_or_not (i, j) (k, l) =
    by_cases (ℕ_discrete i k)
    (λ (e : i ≡ k). by_cases (ℕ_discrete j l) (λ (f : j ≡ l). inl (rw (e, f))) (λ (f : j ≢ l). inr (λ g. f (ap (λ (q : Pair). q.1) g))))
    (λ (e : i ≢ k). inr (λ g. e (ap (λ (q : Pair). q.0) g)))

module _ (C : Chart) (few : C.n ≤ most) (marks : List ℕ) (long : length marks ≡ most * most) (q : Pair) (v : Pieces C q) (x : ℕ) where
  pub set_own : get_or (set marks (cell q) x) (cell q) 0 ≡ x
  set_own = get_or-set_same marks (cell q) x 0 (omega (arith, cell_small q v.0 (omega arith)))

  pub set_others : (r : Pair) → Pieces C r → r ≢ q → get_or (set marks (cell q) x) (cell r) 0 ≡ get_or marks (cell r) 0
  set_others r w d = get_or-set_other marks (cell q) (cell r) x 0 (λ e. d (cell_one r q (omega arith) (omega arith) e))
