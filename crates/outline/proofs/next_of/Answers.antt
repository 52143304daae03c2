-- `outline::next_of` meets its contract: each branch knows whether there is a corner after.
use Prim.Native.Nat.{◌+◌}
use native.Mathlib.Omega.{arith}
use borrow.Author.Tests.{lt-ltb, le-ltb}
use Rattle.outline.specs.Outline.{next_of}
use Rattle.outline.proofs.next_of.Goals as goal

pub returns-then-n-i : goal.returns-then-n-i
unfolding next_of
returns-then-n-i c = rw (le-ltb (c.args.i + 1) c.args.n (omega arith))

pub returns-then-j-n : goal.returns-then-j-n
unfolding next_of
returns-then-j-n c = rw (lt-ltb _ _ c.if-j-n.true)

pub returns-else-j-n : goal.returns-else-j-n
unfolding next_of
returns-else-j-n c = rw (le-ltb _ _ c.if-j-n.false)
