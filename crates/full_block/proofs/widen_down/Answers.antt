-- `full_block::widen_down` meets its contract: as many in front of `from` are through the point.
use mathlib.Core.Path.{◌≡◌, ap, ◌∙◌}
use mathlib.Core.List.{List, reverse}
use Prim.Native.Nat.{ℕ}
use native.Mathlib.Omega.{arith}
use borrow.Author.Rules.{rules}
use borrow.Author.Tests.{tests}
use lib.ListN.{length, take}
use lib.Seq.{length-take-le}
use Rattle.std.specs.List.{prefix_len}
use Rattle.std.proofs.lemmas.Iterator.Adapters.{YieldsList-from_rev_slice}
use Rattle.std.proofs.lemmas.Iterator.Consumers.{YieldsList-at, count_from_yields_List}
use Rattle.std.proofs.lemmas.Iterator.Search.{YieldsList-from_take_while}
use Rattle.std.proofs.lemmas.List.Folds.{length-prefix_len}
use Rattle.full_active.specs.Parts.{through_in}
use Rattle.full_active.proofs.Reached.{down_from}
use Rattle.full_block.proofs.widen_down.Goals as goal

pub overflow_sub-result : goal.overflow_sub-result
overflow_sub-result c =
    let e : c.take_while.result.iter.iter.rest.now ≡ take c.args.from c.args.active.now = cc in
    omega (arith, ap length e, length-take-le c.args.from c.args.active.now c.requires.1)

pub returns : goal.returns
returns c =
    λ q m.
    let s = c.args in
    let through = through_in s.table.now q in
    let front : List ℕ = take s.from s.active.now in
    let n : c.count.result ≡ prefix_len through (reverse front) =
    count_from_yields_List c.take_while.result c.count.result c.count.ensures.ran
    (YieldsList-from_take_while _ through (YieldsList-at c.take_while.ensures.source (YieldsList-from_rev_slice front (cc)))
    c.take_while.ensures.closure c.take_while.ensures.done (λ x b f k. search (rules, tests)))
    ∙ length-prefix_len through (reverse front) in
    down_from through s.active.now s.from c.count.result (omega arith) n
