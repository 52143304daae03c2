-- `full_replace::replace` meets its contract: what stands behind the block is moved along, and the new pieces come between.
use mathlib.Core.Path.{refl, ap, ◌∙◌}
use mathlib.Core.List.{List, ◌++◌}
use Prim.Native.Nat.{ℕ, ◌+◌, ◌-◌}
use native.Mathlib.Omega.{arith}
use lib.ListN.{take, replicate, length-replicate}
use lib.Seq.{paste, slice, take_all}
use Rattle.full_lanes.specs.Lanes.{no_key}
use Rattle.full_active.proofs.Shifting.{replaced}
use Rattle.full_replace.proofs.replace.Goals as goal

pub returns : goal.returns
returns c =
    let a = c.args in
    let all = take_all a.m (replicate a.m no_key) (omega (arith, length-replicate a.m no_key)) in
    record {
      count = refl;
      pieces_are =
          ap (take (a.lo + a.m + (a.live - a.hi))) (c.write.ensures.0 ∙ ap (λ (l : List ℕ). paste l a.lo a.fresh.now a.m) c.shift.ensures.0)
          ∙ replaced a.active.now a.fresh.now a.live a.lo a.hi a.m (omega arith) (omega arith) (omega arith) (omega arith) (omega arith);
      lanes_are =
          ap (take (a.lo + a.m + (a.live - a.hi))) (c.write.ensures.1 ∙ ap (λ (l : List ℕ). paste l a.lo (replicate a.m no_key) a.m) c.shift.ensures.1)
          ∙ replaced a.lanes.now (replicate a.m no_key) a.live a.lo a.hi a.m (omega arith) (omega arith) (omega arith) (omega arith) (omega (arith, length-replicate a.m no_key))
          ∙ ap (λ (l : List ℕ). take a.lo a.lanes.now ++ (l ++ slice a.hi a.live a.lanes.now)) all;
    }
