-- `full_at_point::at_crossing` meets its contract: the block of two places that cross is found from there, and where they are all
-- of it they change places.
use mathlib.Core.Path.{◌≡◌, refl, sym, subst}
use mathlib.Core.List.{List, []}
use Prim.Native.Nat.{ℕ}
use lib.IntN.{ℤ}
use Rattle.fractions.specs.declared.Point.{Point}
use native.Mathlib.Omega.{arith}
use Rattle.full_points.specs.Spot.{ChartPoint}
use Rattle.full_at_point.specs.AtPoint.{Awaits}
use Rattle.full_at_point.proofs.AtPoint.{crossing_stands, crossing_carries, carries_to, two_cross, two_carry}
use Rattle.full_at_point.proofs.at_crossing.Goals as goal

-- no key stands there
none_there : {n : ℕ} {table : List ℤ} {lent : List ℕ} {m : ℕ} {p : Point} {keys active lanes : List ℕ} {live : ℕ} {bytes : List ℕ} {end : ℕ} → keys ≡ []
    → Awaits n table lent m p keys active lanes live bytes end → Awaits n table lent m p [] active lanes live bytes end
none_there {n} {table} {lent} {m} {p} {keys} {active} {lanes} {live} {bytes} {end} e a =
    subst (λ (ks : List ℕ). Awaits n table lent m p ks active lanes live bytes end) e a

pub spot_of-spot-requires : goal.spot_of-spot-requires
spot_of-spot-requires c = subst ChartPoint (sym c.requires.p_value.0) c.requires.ready.1.charted

pub overflow_sub-hi : goal.overflow_sub-hi
overflow_sub-hi c =
    let m = (crossing_stands c.args.table.now c.args.active.now c.args.k c.requires.p_value.0 c.spot_of-spot.ensures).marks in
    omega (arith, (c.widen_down-lo.ensures _ m).within, (c.widen_up-hi.ensures _ m).begun)

pub cross-requires : goal.cross-requires
cross-requires c =
    let P = c.requires.ready in
    -- the spot is the crossing's
    let at = crossing_stands c.args.table.now c.args.active.now c.args.k c.requires.p_value.0 c.spot_of-spot.ensures in
    two_cross (none_there c.requires.p_value.1 P.0.3) at c.args.k P.1 refl c.widen_down-lo.ensures c.widen_up-hi.ensures c.if-hi-lo-eq2.true

pub returns-then-hi-lo-eq2 : goal.returns-then-hi-lo-eq2
returns-then-hi-lo-eq2 c n lent m a =
    let at = crossing_stands c.args.table.now c.args.active.now c.args.k c.requires.p_value.0 c.spot_of-spot.ensures in
    two_carry (none_there c.requires.p_value.1 a) at c.args.k c.requires.ready.1 refl c.widen_down-lo.ensures c.widen_up-hi.ensures c.if-hi-lo-eq2.true _ _ _ _
    (omega arith) (omega arith) c.cross.ensures

pub step-requires : goal.step-requires
step-requires c =
    let P = c.requires.ready in
    let at = crossing_stands c.args.table.now c.args.active.now c.args.k c.requires.p_value.0 c.spot_of-spot.ensures in
    (crossing_carries P.0.3 at c.args.k P.1 refl c.widen_down-lo.ensures c.widen_up-hi.ensures).steppable

pub returns : goal.returns
returns c n lent m a =
    let at = crossing_stands c.args.table.now c.args.active.now c.args.k c.requires.p_value.0 c.spot_of-spot.ensures in
    carries_to a at (crossing_carries a at c.args.k c.requires.ready.1 refl c.widen_down-lo.ensures c.widen_up-hi.ensures) _ _ _ _
    (omega arith) (omega arith) (c.step.ensures _ at.marks)
