-- A sweep that has ended stays as it is, however large the budget.
-- Assumes nothing.
use mathlib.Core.Path.{◌≡◌, refl, ap}
use mathlib.Core.Bool.{true}
use mathlib.Core.Option.{Option, none, some}
use Prim.Native.Nat.{ℕ, zero, suc, ◌+◌}
use native.Mathlib.Omega.{arith}
use native.Mathlib.Nat.{add-zero, add-suc}
use Rattle.sweep.specs.Chart.{Chart}
use Rattle.sweep.specs.Run.{is_none}
use Rattle.full_steps.specs.Steps.{next, move_to, move, run, answer_of, answer}

module _ (C : Chart) where
  open C use {Point}

  nothing_left : (o : Option Point) → is_none C o ≡ true → o ≡ none
  unfolding is_none
  nothing_left none e = refl
  nothing_left (some p) e = let z : ◌≡◌ {A = ℕ} 0 1 = cc in absurd (omega arith)

  stays : (a : ℕ) → next C (run C a) ≡ none → (b : ℕ) → run C (a + b) ≡ run C a
  unfolding run move move_to
  stays a e zero = rw (add-zero a)
  stays a e (suc b) = rw (add-suc a b) (rw (stays a e b, e))

  pub settled : (a b : ℕ) → (answer C a).ended ≡ true → answer C (a + b) ≡ answer C a
  unfolding answer answer_of
  settled a b e = ap (answer_of C) (stays a (nothing_left (next C (run C a)) e) b)
