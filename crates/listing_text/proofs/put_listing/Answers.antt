-- `put_listing` meets its contract: there is room for every listing.
use mathlib.Core.Path.{◌∙◌}
use native.Mathlib.Omega.{arith}
use Rattle.chart_file.proofs.Counts.{bytes_given}
use Rattle.listing.proofs.Outcomes.{too_little, listed}
use Rattle.listing_text.proofs.put_listing.Goals as goal

pub returns-then-text-lt-LONGEST : goal.returns-then-text-lt-LONGEST
returns-then-text-lt-LONGEST c =
    let s = c.args in
    let t = too_little s.file.now s.text.now c.if-text-lt-LONGEST.true in
    ((rw c.at.ensures at c.refused.ensures) ∙ t.0, t.1)

pub returns : goal.returns
returns c =
    let s = c.args in
    let bytes = bytes_given s.file.now (λ i. omega (arith, c.type_inv.file i)) in
    let t = listed s.file.now s.text.now bytes c.if-text-lt-LONGEST.false c.put_file.ensures in
    (c.done.ensures ∙ t.0, t.1)
