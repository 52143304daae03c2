-- `open_changes::drop` meets its contract: by whether the number is a used place.
use Rattle.open_chart.proofs.Outcomes.{dropped, dropping_small, dropping_unknown, dropping_free, dropping_at}
use mathlib.Core.Path.{sym, ◌∙◌}
use Rattle.open_changes.proofs.drop.Goals as goal

pub returns-then-chart-lt-NUMBERS : goal.returns-then-chart-lt-NUMBERS
returns-then-chart-lt-NUMBERS c = let s = c.args in let t = dropped s.chart.now s.piece _ (dropping_small s.chart.now s.piece c.if-chart-lt-NUMBERS.true) in (c.refused.ensures ∙ t.0, t.1)

pub returns-then-piece-ge-PLACES : goal.returns-then-piece-ge-PLACES
returns-then-piece-ge-PLACES c =
    let s = c.args in
    let t = dropped s.chart.now s.piece _ (dropping_unknown s.chart.now s.piece c.if-chart-lt-NUMBERS.false c.if-piece-ge-PLACES.true) in
    (c.refused-then-piece-ge-PLACES.ensures ∙ t.0, t.1)

pub returns-then-not-is_used : goal.returns-then-not-is_used
returns-then-not-is_used c =
    let s = c.args in
    let t =
    dropped s.chart.now s.piece _
    (dropping_free s.chart.now s.piece c.if-chart-lt-NUMBERS.false c.if-piece-ge-PLACES.false (sym c.is_used.ensures ∙ c.if-not-is_used.true)) in
    (c.refused-then-not-is_used.ensures ∙ t.0, t.1)

pub returns : goal.returns
returns c =
    let s = c.args in
    let t =
    dropped s.chart.now s.piece _
    (dropping_at s.chart.now s.piece c.if-chart-lt-NUMBERS.false c.if-piece-ge-PLACES.false (sym c.is_used.ensures ∙ c.if-not-is_used.false)) in
    (c.done.ensures ∙ t.0, c.put.ensures ∙ t.1)
