-- The point to the right of a peak fits, since x stops before the last. Assumes nothing.
use Prim.Native.Nat.{zero, suc}
use native.Mathlib.Omega.{arith}
use borrow.Author.Tests.{lt-ltb}
use lib.Dec.{ltb→lt}
use lib.IntN.{ℤ, pos, negsuc, ◌+ℤ◌}
use lib.Signed.{◌<ℤ◌}
use mir.Syntax.{w16}
use mir.Val.{SFits}

pub right_fits : (z : ℤ) → SFits w16 z → z <ℤ pos 32767 → SFits w16 (z +ℤ pos 1)
right_fits (pos n) f h = let k = ltb→lt n 32767 h.lt in record { sfits = omega arith }
right_fits (negsuc zero) f h = record { sfits = omega arith }
right_fits (negsuc (suc n)) f h = let k = f.sfits in rw (lt-ltb 1 (suc (suc n)) (omega arith)) (record { sfits = omega arith })
