-- `ported_ledger::push` meets its contract.
use borrow.Author.Tests.{le-ltb, lt-ltb}
use mathlib.Core.Path.{refl}
use Prim.Native.Nat.{◌+◌}
use native.Mathlib.Omega.{arith}
use lib.ListN.{length}
use Rattle.ported_arrays.specs.Ledger.{put, past}
use Rattle.ported_ledger.proofs.push.Goals as goal

pub returns-then-bytes-end : goal.returns-then-bytes-end
unfolding put past
returns-then-bytes-end c = rw (le-ltb (c.args.end + 1) (length c.args.bytes.now) (omega (arith, c.if-bytes-end.true))) (refl, refl)

pub returns-then-bytes-end-2 : goal.returns-then-bytes-end-2
unfolding put past
returns-then-bytes-end-2 c = rw (le-ltb (c.args.end + 1) (length c.args.bytes.now) c.if-bytes-end-2.true) (refl, refl)

pub returns : goal.returns
unfolding put past
returns c = rw (lt-ltb (c.args.end + 1) (length c.args.bytes.now) c.if-bytes-end-2.false) (refl, refl)
