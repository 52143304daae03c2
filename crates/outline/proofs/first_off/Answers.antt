-- `outline::first_off` meets its contract: `find` gives the first corner out of range, where there is one.
use Rattle.std.proofs.Common.{◌≡◌, true, false, ◌∙◌, rules, tests}
use Rattle.std.proofs.lemmas.Iterator.{first_from_Range}
use Rattle.outline.specs.Outline.{off_at}
use Rattle.outline.proofs.First.{find_or}
use Rattle.outline.proofs.first_off.Goals as goal

pub returns : goal.returns
returns c =
    let f = off_at c.args.outline.now in
    c.unwrap_or.ensures
    ∙ find_or f c.args.n c.find.result
    (first_from_Range _ _ _ c.find.result (λ i. f i ≡ true) (λ i. f i ≡ false) c.find.ensures.ran (λ x q k. search (rules, tests)) (λ x q k. search (rules, tests)))
