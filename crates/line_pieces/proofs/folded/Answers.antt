-- `folded`: from the even multiple below, or from the one above where that is nearer.
use mathlib.Core.Path.{sym}
use Prim.Native.Nat.{◌*◌}
use native.Mathlib.Nat.{mod-lt}
use native.Mathlib.Omega.{arith}
use Rattle.folded_line.proofs.Verdicts.{folded_low, folded_high}
use Rattle.line_pieces.proofs.folded.Goals as goal

pub overflow_sub-result : goal.overflow_sub-result
overflow_sub-result c = let a = c.args in omega (arith, mod-lt a.v {m = 2 * a.h} (omega arith))

pub returns-then-h-r : goal.returns-then-h-r
returns-then-h-r c = sym (folded_high _ _ c.if-h-r.true)

pub returns-else-h-r : goal.returns-else-h-r
returns-else-h-r c = sym (folded_low _ _ c.if-h-r.false)
