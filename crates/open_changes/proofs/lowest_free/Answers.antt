-- `open_changes::lowest_free` meets its contract: the first place that is not used, and every place below it is.
use borrow.Author.Rules.{rules}
use borrow.Author.Tests.{tests}
use Rattle.std.proofs.Common.{◌≡◌, ℕ, ◌<◌, ◌≤◌, true, false, List, ℤ, Option, Some, None, unwrap_or, MatchOption, sym, ◌∙◌, arith}
use Rattle.std.proofs.lemmas.Iterator.{first_from_Range}
use Rattle.open_chart.specs.Memory.{places, is_used, lowest_free}
use Rattle.open_chart.proofs.Lowest.{found, used_up}
use Rattle.open_changes.proofs.lowest_free.Goals as goal

-- what a search over the places says of the lowest free one
searched :
    (chart : List ℤ) (r : Option ℕ) →
    MatchOption r ((k : ℕ) → 0 ≤ k → k < places → is_used chart k ≡ true)
    (λ i. (0 ≤ i) × (i < places) × (is_used chart i ≡ false) × ((k : ℕ) → 0 ≤ k → k < i → is_used chart k ≡ true))
    → unwrap_or r places ≡ lowest_free chart places
searched chart None h = sym (used_up chart places (λ k. h k (omega arith)))
searched chart (Some i) h = sym (found chart i places (used_up chart i (λ k. h.3 k (omega arith))) h.2 h.1)

pub returns : goal.returns
returns c =
    let chart = c.args.chart.now in
    c.unwrap_or.ensures ∙ searched chart c.find.result
    (first_from_Range _ _ _ _ (λ x. is_used chart x ≡ false) (λ x. is_used chart x ≡ true) c.find.ensures.ran (λ x q k. search (rules, tests)) (λ x q k. search (rules, tests)))
