-- `chart_pieces::coordinate` meets its contract: a number that passes the test fits an i16.
use mathlib.Core.Path.{◌≡◌, sym, ap, ◌∙◌}
use mathlib.Core.Bool.{false}
use lib.IntN.{neg_ℤ}
use mir.Facts.{to_z-of_z}
use Rattle.charts.specs.Fault.{range, outside}
use Rattle.charts.specs.Piece.{coordinate_of}
use Rattle.charts.proofs.Numbers.{shown}
use Rattle.charts.proofs.Ranges.{coordinate_fits, coordinate_kept}
use Rattle.chart_pieces.proofs.coordinate.Goals as goal
use Rattle.chart_pieces.proofs.coordinate.Goals.{After-is_outside, Else-is_outside}

said : (c : After-is_outside) → c.is_outside.result ≡ outside (neg_ℤ range) range c.args.v
said c = c.is_outside.ensures ∙ ap (outside (neg_ℤ range) range) (to_z-of_z c.ranges.v)

pub returns-then-is_outside : goal.returns-then-is_outside
unfolding coordinate_of
returns-then-is_outside c = rw (shown (said c.before) c.if-is_outside.true)

-- it is in range
inside : (c : Else-is_outside) → outside (neg_ℤ range) range c.args.v ≡ false
inside c = shown (said c.before) c.if-is_outside.false

pub overflow_cast-result : goal.overflow_cast-result
overflow_cast-result c = rw (to_z-of_z c.ranges.v) (coordinate_fits c.args.v (inside c))

pub returns : goal.returns
returns c =
    let v = c.args.v in
    rw (to_z-of_z c.ranges.v, to_z-of_z (coordinate_fits v (inside c))) (sym (coordinate_kept v (inside c)))
