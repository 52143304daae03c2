-- `ported_ledger::Book::wait_pair` meets its contract.
use mathlib.Core.Path.{refl, ap, ◌∙◌}
use Prim.Native.Nat.{ℕ}
use native.Mathlib.Omega.{arith}
use lib.ListN.{set}
use Rattle.ported_arrays.specs.Numbers.{cell}
use Rattle.ported_ledger.proofs.Waits.{waits_by}
use Rattle.ported_ledger.proofs.Book.wait_pair.Goals as goal

pub overflow_cast-c : goal.overflow_cast-c
unfolding cell
overflow_cast-c c = omega (arith, c.cell_of-c.ensures, c.ranges)

pub invariant_of-self : goal.invariant_of-self
invariant_of-self c =
    let w = c.wait-self.ensures 0 in
    record { within = omega (arith, w.0, w.1, c.args.self.now.within) }

pub returns : goal.returns
returns c n bytes =
    let k = c.cell_of-c.ensures in
    let w = c.wait-self.ensures n in
    let b = c.args.self.now in
    waits_by _ (c.args.i, c.args.j) b.marks b.waiting bytes _ _ b.head b.end _
    (c.set_mark.ensures ∙ ap (λ (z : ℕ). set b.marks z 1) k) w.0 (w.2 ∙ rw k refl)
