-- `full_halves::turn` meets its contract: the new pieces are the block anew, and there is room for them.
use mathlib.Core.Path.{ap, ◌∙◌}
use mathlib.Core.List.{List, ◌++◌}
use Prim.Native.Nat.{ℕ, ◌+◌, ◌-◌, ◌≤◌}
use native.Mathlib.Omega.{arith}
use lib.ListN.{length, take}
use lib.Seq.{slice, length-slice}
use Rattle.full_active.specs.Ranks.{goes_on_in, starters}
use Rattle.full_step.proofs.Counts.{no_more}
use Rattle.full_halves.proofs.turn.Goals as goal

pub replace-requires : goal.replace-requires
replace-requires c =
    let a = c.args in
    let t = c.requires.3 in
    let b = c.requires.2 in
    let few : c.renew-m.result ≤ a.hi - a.lo + length (starters a.ends.now) =
    omega (
      arith,
      (c.renew-m.ensures c.requires.1.point c.requires.1.marks).count,
      no_more (goes_on_in a.table.now c.requires.1.point) (slice a.lo a.hi a.active.now) (starters a.ends.now),
      length-slice a.lo a.hi a.active.now b.within,
    ) in (
      record { inside = t.inside; within = omega (arith, t.fits); fits = omega (arith, few, t.fits, t.inside, b.ordered); alike = t.alike },
      b.ordered,
      omega (arith, few, b.few, b.ordered, c.renew-m.auto.fresh),
    )

pub returns : goal.returns
returns c =
    λ q m.
    let a = c.args in
    let P = c.replace.ensures in
    record {
      pieces_are =
          (rw P.count at P.pieces_are)
          ∙ ap (λ (z : List ℕ). take a.lo a.active.now ++ (z ++ slice a.hi a.live a.active.now)) (c.renew-m.ensures q m).list;
      lanes_are = rw P.count at P.lanes_are;
    }
