-- `kind_of`: 3 for the final piece, 1 for any other.
use mathlib.Core.Path.{sym, ap}
use native.Mathlib.Omega.{arith}
use lib.IntN.{pos}
use Rattle.folded_line.proofs.Numbers.{kind_last, kind_other}
use Rattle.line_pieces.proofs.kind_of.Goals as goal

pub returns-then-j-n : goal.returns-then-j-n
returns-then-j-n c = ap pos (sym (kind_last _ _ (omega (arith, c.if-j-n.true))))

pub returns-else-j-n : goal.returns-else-j-n
returns-else-j-n c = ap pos (sym (kind_other _ _ (λ e. c.if-j-n.false (omega arith))))
