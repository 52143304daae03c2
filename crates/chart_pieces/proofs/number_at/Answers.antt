-- `chart_pieces::number_at` meets its contract: past the end the definition reads 0 too.
use borrow.Author.Rules.{rules}
use mathlib.Core.Path.{sym}
use native.Mathlib.Omega.{arith}
use lib.IntN.{pos}
use lib.ListN.{get_or-eq_default}
use Rattle.charts.specs.Chart.{number_at}
use Rattle.chart_pieces.proofs.number_at.Goals as goal

pub returns-then-list-i : goal.returns-then-list-i
unfolding number_at
returns-then-list-i c = sym (get_or-eq_default c.args.list.now (pos 0) (omega arith))

pub returns-then-list-at : goal.returns-then-list-at
unfolding number_at
returns-then-list-at c = sym (get_or-eq_default c.args.list.now (pos 0) (omega arith))

pub returns : goal.returns
unfolding number_at
returns c = search rules
