-- `outline::first_repeated` meets its contract: `find` gives the first corner equal to its next, where there is one.
use Rattle.std.proofs.Common.{◌≡◌, true, false, ◌∙◌, rules, tests}
use Rattle.std.proofs.lemmas.Iterator.{first_from_Range}
use Rattle.outline.specs.Outline.{same_at}
use Rattle.outline.proofs.First.{find_or}
use Rattle.outline.proofs.first_repeated.Goals as goal

pub returns : goal.returns
returns c =
    let f = same_at c.args.outline.now c.args.n in
    c.unwrap_or.ensures
    ∙ find_or f c.args.n c.find.result
    (first_from_Range _ _ _ c.find.result (λ i. f i ≡ true) (λ i. f i ≡ false) c.find.ensures.ran (λ x q k. search (rules, tests)) (λ x q k. search (rules, tests)))
