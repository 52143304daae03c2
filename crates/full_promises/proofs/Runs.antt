-- A run that loses nothing has all that the promises of its call ask for.
-- Assumes nothing.
use mathlib.Core.Path.{◌≡◌}
use mathlib.Core.Logic.{◌⊎◌, inl, inr, ⊎_elim}
use mathlib.Core.Bool.{true, false}
use Prim.Native.Nat.{ℕ, ◌≤◌}
use native.Mathlib.Omega.{arith}
use lib.ListN.{length}
use Rattle.sweep.specs.Chart.{Chart}
use Rattle.sweep.specs.Sought.{points}
use Rattle.sweep.specs.Demand.{Run, RunPromises, Tells}
use Rattle.sweep.proofs.Tests.{ask, clash}
use Rattle.sweep.proofs.Lists.{take_in, pairwise_take}
use Rattle.promises.proofs.Sweeping.{Runs, Sweeps}

module _ (C : Chart) (R : Run C) (T : Tells C R) (P : RunPromises C R) where
  -- as many steps as the budget, unless the queue is empty before
  ended_or_spent : (budget : ℕ) → ((R.answer budget).ended ≡ true) ⊎ ((R.answer budget).steps ≡ budget)
  ended_or_spent budget =
      ⊎_elim
      (λ (e : (R.answer budget).ended ≡ true). inl e)
      (λ (e : (R.answer budget).ended ≡ false). inr (let h : ¬ (length (points C) ≤ budget) = λ l. clash ((P.ends_exactly budget).1 l) e in omega (arith, P.counts_steps budget, h)))
      (ask (R.answer budget).ended)

  pub runs : Runs C R.answer R.visited
  runs =
      record {
        lists_only = λ budget q h. let t = (P.lists_exactly budget q).0 h in (t.0, t.1);
        lists_once = P.lists_once;
        lists_on = P.lists_on;
        visits_only = λ budget p h. (P.visits_in_order.all_of p).0 (take_in budget (points C) (rw (P.visits_in_order.first_of budget) at h));
        visits_up = λ budget. rw (P.visits_in_order.first_of budget) (pairwise_take _ budget (points C) P.visits_in_order.ascending);
        steps_visited = T.counts_visited;
        last_visited = P.last_visited;
        steps_within = λ budget. omega (arith, P.counts_steps budget);
        ended_or_spent = ended_or_spent;
        steps_bounded = P.steps_bounded;
        ends_soon = λ budget h. (P.ends_exactly budget).1 (omega (arith, h, P.counts_steps (length (points C)), P.steps_bounded (length (points C))));
      }

  pub sweeps : Sweeps C R.answer R.visited
  sweeps =
      record {
        lists_exactly = P.lists_exactly;
        lists_in_order = P.lists_in_order;
        lists_all = P.lists_all;
        visits_first = P.visits_in_order.first_of;
        all_of = P.visits_in_order.all_of;
        ascending = P.visits_in_order.ascending;
        counts_steps = P.counts_steps;
        ends_exactly = P.ends_exactly;
      }
