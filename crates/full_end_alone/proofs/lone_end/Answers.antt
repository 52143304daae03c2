-- `full_end_alone::lone_end` meets its contract: each branch knows what the end does.
use mathlib.Core.Path.{sym, ◌∙◌}
use native.Mathlib.Omega.{arith}
use Rattle.full_end_alone.proofs.Standing.{one_starts, none_starts}
use Rattle.full_end_alone.proofs.lone_end.Goals as goal

pub returns-then-ends-ne1 : goal.returns-then-ends-ne1
returns-then-ends-ne1 c q m = tt

pub returns-then-lo-hi : goal.returns-then-lo-hi
returns-then-lo-hi c q m =
    let one = c.if-ends-ne1.false in
    record { one_end = one; none_through = omega (arith, c.if-lo-hi.true); starts_alone = one_starts _ one c.if-e-eq0.true }

pub returns-then-finishes : goal.returns-then-finishes
returns-then-finishes c q m =
    let one = c.if-ends-ne1.false in
    record {
      one_through = omega (arith, c.if-hi-lo-eq1.true, c.requires.1);
      none_starts = none_starts _ one c.if-e-eq0.false;
      finishes = sym (c.finishes.ensures q m) ∙ c.if-finishes.true;
    }

pub returns-else-lo-hi : goal.returns-else-lo-hi
returns-else-lo-hi c q m = tt

pub returns-else-finishes : goal.returns-else-finishes
returns-else-finishes c q m = tt

pub returns-else-hi-lo-eq1 : goal.returns-else-hi-lo-eq1
returns-else-hi-lo-eq1 c q m = tt
