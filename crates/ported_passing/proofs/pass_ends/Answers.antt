-- `ported_passing::pass_ends` meets its contract: the ends passed are the front of the list.
use mathlib.Core.Path.{refl, ap, ◌∙◌}
use mathlib.Core.Bool.{not}
use mathlib.Core.List.{List}
use Prim.Native.Nat.{ℕ, ◌+◌}
use native.Mathlib.Omega.{arith}
use lib.ListN.{length-drop}
use Rattle.std.proofs.lemmas.List.{take_all}
use Rattle.sweep.specs.Lists.{keep}
use Rattle.ported_arrays.specs.Numbers.{is_min}
use Rattle.ported_arrays.specs.Event.{flag, halves}
use Rattle.ported_passing.proofs.Passed.{passing, passed_all, flag_more}
use Rattle.ported_passing.proofs.pass_ends.Goals as goal

pub loop-e-init : goal.loop-e-init
unfolding flag halves keep
loop-e-init c = (refl, refl)

pub loop-e-preserved : goal.loop-e-preserved
loop-e-preserved c =
    let i = c.loop-e.invariant in
    let m = c.flag_end.ensures in (
      flag_more _ c.loop-e.e-index (omega arith) is_min _ i.0 m.0,
      flag_more _ c.loop-e.e-index (omega arith) (λ f. not (is_min f)) _ i.1 m.1,
    )

pub returns : goal.returns
returns c =
    let p = c.ends_at.ensures in
    let all = passed_all c.args.ends.now c.args.from (c.args.from + c.ends_at.result) c.loop-e.e-index (omega arith) in
    record {
      passes = λ n. passing c.args.from c.ends_at.result c.requires.0 (take_all _ _ (omega (arith, length-drop c.args.from c.args.ends.now))) p.within (p.passed n) (p.stops n);
      starts = c.loop-e.invariant.0 ∙ ap (λ (z : List ℕ). flag (halves (keep is_min z)) c.args.starting.now) all;
      finishes = c.loop-e.invariant.1 ∙ ap (λ (z : List ℕ). flag (halves (keep (λ f. not (is_min f)) z)) c.args.finishing.now) all;
    }
