-- What is promised of the adjacent pairs that the ported sweep examines: on every chart, upright pieces or not, at every budget.
use Rattle.std.specs.Prelude.{◌≡◌, true, List, ℕ, suc, ◌+◌, ◌*◌, ◌≤◌, ◌<◌, ◌^◌, ℤ}
use Rattle.charts.specs.Chart.{most}
use Rattle.charts.specs.Piece.{piece_at}
use Rattle.sweep.specs.Ported.{ported}
use Rattle.examinations.specs.Examined.{examined}
use Rattle.examinations.specs.Demand.{a_step}
use Rattle.bentley_ottmann.specs.declared.Swept.{Swept}
use Rattle.promises.specs.Chart.{Accepts, NoneUpright}
use Rattle.promises.specs.Sweep.{Ported, OnEveryChart, OnWholeCharts, BesideAllPairs}

pub record ExaminedPromises : Type 0 where
  -- the sum is that of the definition's steps
  pub counts : OnEveryChart Ported (λ list n budget lent r after. r.examined ≡ examined (ported n (piece_at list)) budget)
  -- "at most 2(n - 1) a step": whatever the budget, one step more adds no more than that
  pub a_step' : (list : List ℤ) (n budget : ℕ) (lent : List ℕ) (r s : Swept) (after beyond : List ℕ) → Accepts list lent n
      → Ported list budget lent r after → Ported list (suc budget) lent s beyond
      → (r.examined ≤ s.examined) × (s.examined ≤ r.examined + a_step n)
  -- .. as often as there were steps; "zero for an empty chart"
  pub of_steps : OnEveryChart Ported (λ list n budget lent r after. r.examined ≤ r.steps * a_step n)
  pub none_of_none : OnEveryChart Ported (λ list n budget lent r after. n ≡ 0 → r.examined ≡ 0)
  -- "at most 2(n - 1)(2n + k)", k the count of all pairs, wherever a run is stopped
  pub in_all : OnEveryChart Ported (BesideAllPairs Ported (λ list n budget r after a all. r.examined ≤ (2 * n + a.count) * a_step n))
  -- .. k the count of those listed, of a full run on a chart with no upright piece
  pub full_run : OnWholeCharts Ported NoneUpright (λ list n budget lent r after. r.ended ≡ true → r.examined ≤ (2 * n + r.pairs) * a_step n)
  -- with budgets of 32 bits the sum stays below 2^32 times what a step may examine of the largest chart, and so within 64 bits
  pub fits : OnEveryChart Ported (λ list n budget lent r after. budget < 2 ^ 32 → r.examined < 2 ^ 32 * a_step most)
