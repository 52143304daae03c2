-- A run does as many steps as its budget allows, unless the queue is empty before.
-- Assumes nothing.
use mathlib.Core.Path.{◌≡◌, refl, ap}
use mathlib.Core.Logic.{◌⊎◌, inl, inr, ⊎_elim}
use mathlib.Core.Bool.{true}
use mathlib.Core.Option.{Option, none, some}
use Prim.Native.Nat.{ℕ, zero, suc, ◌≤◌}
use native.Mathlib.Omega.{arith}
use Rattle.sweep.specs.Chart.{Chart}
use Rattle.sweep.specs.State.{State, start}
use Rattle.sweep.specs.Queue.{next}
use Rattle.sweep.specs.Step.{step}
use Rattle.sweep.specs.Run.{move_to, move, onwards, run, is_none, answer_of, answer}

module _ (C : Chart) where
  open C use {Point}

  abbrev Spent : ℕ → State C → Type 0
  Spent m s = ((next C s ≡ none) × (s.steps ≤ m)) ⊎ (s.steps ≡ m)

  moved : (m : ℕ) (s : State C) → Spent m s → (o : Option Point) → next C s ≡ o → Spent (suc m) (move_to C s o)
  unfolding move_to step
  moved m s (inl (f, h)) none e = inl (e, omega arith)
  moved m s (inr h) none e = inl (e, omega arith)
  moved m s (inl (f, h)) (some p) e = let z : ◌≡◌ {A = ℕ} 0 1 = cc in absurd (omega arith)
  moved m s (inr h) (some p) e = inr (ap suc h)

  spent : (m : ℕ) → Spent m (onwards C m (start C))
  unfolding onwards move start
  spent zero = inr refl
  spent (suc m) = moved m (onwards C m (start C)) (spent m) (next C (onwards C m (start C))) refl

  pub steps_within : (budget : ℕ) → (answer C budget).steps ≤ budget
  unfolding answer answer_of run
  steps_within budget = ⊎_elim (λ h. h.1) (λ h. omega arith) (spent budget)

  pub ended_or_spent : (budget : ℕ) → ((answer C budget).ended ≡ true) ⊎ ((answer C budget).steps ≡ budget)
  unfolding answer answer_of run is_none
  ended_or_spent budget = ⊎_elim (λ h. inl (ap (is_none C) h.0)) (λ h. inr h) (spent budget)
