-- `full_block::search` meets its contract: the place sought is between lo and hi, however the test goes.
use mathlib.Core.Path.{◌≡◌, sym, ◌∙◌}
use Prim.Native.Nat.{◌+◌, ◌-◌, ◌/◌}
use native.Mathlib.Omega.{arith}
use Rattle.full_active.specs.Parts.{below_in}
use Rattle.full_active.proofs.Places.{all_of_it, above_half, below_half, edge}
use Rattle.full_block.proofs.search.Goals as goal

pub loop-lo-init : goal.loop-lo-init
loop-lo-init c = (omega arith, omega arith, λ q m. all_of_it _ _ _)

pub loop-lo-preserved-then-is_below : goal.loop-lo-preserved-then-is_below
loop-lo-preserved-then-is_below c =
    let s = c.args in (
      omega arith,
      omega arith,
      λ q m.
          above_half (below_in s.table.now q) s.active.now s.live c.loop-lo.lo c.loop-lo.hi (c.loop-lo.lo + (c.loop-lo.hi - c.loop-lo.lo) / 2) (c.loop-lo.invariant.2 q m)
          (sym (c.is_below.ensures q m) ∙ c.if-is_below.true),
    )

pub loop-lo-preserved : goal.loop-lo-preserved
loop-lo-preserved c =
    let s = c.args in (
      omega arith,
      omega arith,
      λ q m.
          below_half (below_in s.table.now q) s.active.now s.live c.loop-lo.lo c.loop-lo.hi (c.loop-lo.lo + (c.loop-lo.hi - c.loop-lo.lo) / 2) (c.loop-lo.invariant.2 q m)
          (sym (c.is_below.ensures q m) ∙ c.if-is_below.false),
    )

pub returns : goal.returns
returns c =
    λ q m.
    let s = c.args in
    let e : c.loop-lo.hi ≡ c.loop-lo.lo = omega arith in
    edge (below_in s.table.now q) s.active.now s.live c.loop-lo.lo (omega arith) (rw e at (c.loop-lo.invariant.2 q m))
