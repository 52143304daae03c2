-- `chart_pieces::is_upright` meets its contract: bits that are the same are numbers that are.
use borrow.Author.Rules.{rules}
use mir.Syntax.{w16}
use Rattle.charts.specs.Piece.{is_upright}
use Rattle.charts.proofs.Numbers.{eq_bits}
use Rattle.chart_pieces.proofs.is_upright.Goals as goal

pub returns : goal.returns
unfolding is_upright
returns c = let s = c.args.s in eq_bits w16 s.min.x s.max.x (search rules) (search rules)
