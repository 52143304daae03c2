-- `full_block::widen_up` meets its contract: as many from `from` on are through the point.
use mathlib.Core.Path.{◌≡◌, ◌∙◌}
use mathlib.Core.List.{List}
use Prim.Native.Nat.{ℕ}
use native.Mathlib.Omega.{arith}
use borrow.Author.Rules.{rules}
use borrow.Author.Tests.{tests}
use Rattle.std.specs.List.{prefix_len, between}
use Rattle.std.proofs.lemmas.Iterator.{YieldsList-from_slice}
use Rattle.std.proofs.lemmas.Iterator.Consumers.{YieldsList-at, count_from_yields_List}
use Rattle.std.proofs.lemmas.Iterator.Search.{YieldsList-from_take_while}
use Rattle.std.proofs.lemmas.List.Folds.{length-prefix_len}
use Rattle.full_active.specs.Parts.{through_in}
use Rattle.full_active.proofs.Reached.{up_from}
use Rattle.full_block.proofs.widen_up.Goals as goal

pub returns : goal.returns
returns c =
    λ q m.
    let s = c.args in
    let through = through_in s.table.now q in
    let behind : List ℕ = between s.from s.live s.active.now in
    let n : c.count.result ≡ prefix_len through behind =
    count_from_yields_List c.take_while.result c.count.result c.count.ensures.ran
    (YieldsList-from_take_while _ through (YieldsList-at c.take_while.ensures.source (YieldsList-from_slice behind (cc)))
    c.take_while.ensures.closure c.take_while.ensures.done (λ x b f k. search (rules, tests)))
    ∙ length-prefix_len through behind in
    up_from through s.active.now s.live s.from c.count.result (omega arith) (omega arith) n
