-- `decimals::put_byte` meets its contract, with room and without.
use native.Mathlib.Omega.{arith}
use Rattle.decimals.proofs.Puts.{put_one, put_none}
use Rattle.decimals.proofs.put_byte.Goals as goal

pub returns-then-text-end : goal.returns-then-text-end
returns-then-text-end c = put_none _ _ _ c.if-text-end.true

pub returns : goal.returns
returns c = put_one _ _ _ (omega arith)
