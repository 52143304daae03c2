-- `chart_pieces::kind_at` meets its contract: a number that passes the test is a kind from 0 to 3.
use mathlib.Core.Path.{◌≡◌, sym, ap, ◌∙◌}
use mathlib.Core.Bool.{false}
use native.Mathlib.Omega.{arith}
use lib.IntN.{ℤ, pos, nat_abs}
use mir.Syntax.{w32}
use mir.Val.{of_z, to_z}
use Rattle.charts.specs.Fault.{outside}
use Rattle.charts.specs.Chart.{number_at}
use Rattle.charts.specs.Piece.{kind_of}
use Rattle.charts.proofs.Numbers.{shown, told}
use Rattle.charts.proofs.Ranges.{kind_in, kind_kept}
use Rattle.chart_pieces.proofs.kind_at.Goals as goal
use Rattle.chart_pieces.proofs.kind_at.Goals.{After-is_outside, After-number_at-v, Else-is_outside}

-- the number, as it comes back from its bits
abbrev number : After-number_at-v → ℤ
number c = number_at c.args.list.now c.args.i 0

kept : (c : After-number_at-v) → to_z w32 (of_z w32 c.number_at-v.result) ≡ number c
kept c = told w32 c.number_at-v.result c.number_at-v.type_inv c.number_at-v.ensures

said : (c : After-is_outside) → c.is_outside.result ≡ outside (pos 0) (pos 3) (number c.before)
said c = c.is_outside.ensures ∙ ap (outside (pos 0) (pos 3)) (kept c.before)

pub returns-then-is_outside : goal.returns-then-is_outside
unfolding kind_of
returns-then-is_outside c = rw (shown (said c.before) c.if-is_outside.true)

-- it is a kind
inside : (c : Else-is_outside) → outside (pos 0) (pos 3) (number c.before.before) ≡ false
inside c = shown (said c.before) c.if-is_outside.false

pub overflow_cast-result : goal.overflow_cast-result
overflow_cast-result c = let k = kind_in (number c.before.before) (inside c) in rw (kept c.before.before, k.0) (tt, omega arith)

pub returns : goal.returns
returns c = ap nat_abs (kept c.before.before) ∙ sym (kind_kept (number c.before.before) (inside c))
