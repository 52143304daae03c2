-- `ported_passing::pass_crossings` meets its contract: the pairs passed are the front of the list.
use mathlib.Core.Path.{refl, ap, ◌∙◌}
use mathlib.Core.List.{List}
use Prim.Native.Nat.{ℕ, ◌+◌}
use native.Mathlib.Omega.{arith}
use lib.ListN.{length-drop}
use Rattle.std.proofs.lemmas.List.{take_all}
use Rattle.ported_arrays.specs.Event.{flag, pieces, free_all}
use Rattle.ported_passing.proofs.Passed.{passing, passed_all, turn_more, free_more}
use Rattle.ported_passing.proofs.pass_crossings.Goals as goal

pub loop-c-init : goal.loop-c-init
unfolding flag pieces free_all
loop-c-init c = (refl, refl)

pub loop-c-preserved : goal.loop-c-preserved
loop-c-preserved c =
    let i = c.loop-c.invariant in
    let m = c.flag_crossing.ensures in (
      turn_more _ c.loop-c.c-index (omega arith) _ i.0 m.0,
      free_more _ c.loop-c.c-index (omega arith) _ i.1 m.1,
    )

pub returns : goal.returns
returns c =
    let p = c.crossings_at.ensures in
    let all = passed_all c.args.waiting.now c.args.from (c.args.from + c.crossings_at.result) c.loop-c.c-index (omega arith) in
    record {
      passes = λ n. passing c.args.from c.crossings_at.result c.requires.0 (take_all _ _ (omega (arith, length-drop c.args.from c.args.waiting.now))) p.within (p.passed n) (p.stops n);
      turns = c.loop-c.invariant.0 ∙ ap (λ (z : List ℕ). flag (pieces z) c.args.turning.now) all;
      frees = c.loop-c.invariant.1 ∙ ap (λ (z : List ℕ). free_all z c.args.marks.now) all;
    }
