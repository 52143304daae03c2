-- `open_changes::empty` meets its contract: every number of the places is -1.
use borrow.Author.Rules.{rules}
use mathlib.Core.Path.{◌≡◌, ap, ◌∙◌}
use mathlib.Core.List.{List, ◌++◌}
use Prim.Native.Nat.{ℕ}
use lib.IntN.{ℤ, negsuc}
use lib.ListN.{drop, replicate}
use lib.Seq.{length-take-le}
use Rattle.open_chart.specs.Memory.{memory}
use Rattle.open_chart.specs.Changes.{emptied}
use Rattle.open_chart.proofs.Outcomes.{empty_small, empty_large}
use Rattle.open_changes.proofs.empty.Goals as goal

pub returns-then-chart-lt-NUMBERS : goal.returns-then-chart-lt-NUMBERS
returns-then-chart-lt-NUMBERS c = let t = empty_small c.args.chart.now c.if-chart-lt-NUMBERS.true in ((rw c.at.ensures at c.refused.ensures) ∙ t.0, t.1)

pub returns : goal.returns
unfolding emptied
returns c =
    let chart = c.args.chart.now in
    let t = empty_large chart c.if-chart-lt-NUMBERS.false in
    let filled : c.fill.new.self ≡ replicate memory (negsuc 0) =
    c.fill.ensures.after (λ y h. search rules) ∙ ap (λ (n : ℕ). replicate n (negsuc 0)) (length-take-le memory chart c.if-chart-lt-NUMBERS.false) in
    (c.done.ensures ∙ t.0, ap (λ (r : List ℤ). r ++ drop memory chart) filled ∙ t.1)
