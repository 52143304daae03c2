-- `full_replace::put_in` meets its contract: the places from lo on are moved up by one, and the piece comes between.
use mathlib.Core.Path.{ap, ◌∙◌}
use mathlib.Core.List.{List}
use Prim.Native.Nat.{ℕ, ◌+◌}
use native.Mathlib.Omega.{arith}
use lib.ListN.{take, set}
use Rattle.full_lanes.specs.Lanes.{no_key}
use Rattle.full_active.proofs.Single.{put_one}
use Rattle.full_replace.proofs.put_in.Goals as goal

pub returns : goal.returns
returns c =
    let a = c.args in
    let P = c.requires in
    record {
      count = omega (arith, P.inside);
      pieces_are =
          ap (λ (l : List ℕ). take (a.live + 1) (set l a.lo a.i)) c.shift.ensures.0
          ∙ put_one a.active.now a.live a.lo a.i P.inside (omega (arith, P.inside, P.fits));
      lanes_are =
          ap (λ (l : List ℕ). take (a.live + 1) (set l a.lo no_key)) c.shift.ensures.1
          ∙ put_one a.lanes.now a.live a.lo no_key P.inside (omega (arith, P.inside, P.fits, P.alike));
    }
