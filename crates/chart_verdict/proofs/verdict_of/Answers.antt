-- `chart_verdict::verdict_of` meets its contract: below i every piece was accepted, and the first fault is the verdict.
use borrow.Author.Rules.{rules}
use mathlib.Core.Path.{◌≡◌, sym, ap, ◌∙◌}
use Prim.Native.Nat.{ℕ, suc, ◌/◌}
use native.Mathlib.Numerals.{add-one}
use native.Mathlib.Omega.{arith}
use lib.ListN.{length}
use Rattle.charts.specs.Chart.{fault_at}
use Rattle.charts.specs.Verdict.{Refused}
use Rattle.charts.proofs.Pieces.{pieces_none, pieces_sound, pieces_fault, pieces_stay, list_nine, list_three, list_pieces}
use Rattle.charts.proofs.Refusals.{numbered}
use Rattle.chart_verdict.proofs.verdict_of.Goals as goal

pub returns-then-list-ne0 : goal.returns-then-list-ne0
returns-then-list-ne0 c = rw c.at.ensures (sym (list_nine c.args.list.now c.if-list-ne0.true))

pub returns-then-n-gt-MOST : goal.returns-then-n-gt-MOST
returns-then-n-gt-MOST c =
    rw c.at-then-n-gt-MOST.ensures (sym (list_three c.args.list.now c.if-list-ne0.false c.if-n-gt-MOST.true))

pub loop-i-init : goal.loop-i-init
loop-i-init c = (search rules, pieces_none c.args.list.now)

pub returns-in-Some : goal.returns-in-Some
returns-in-Some c =
    let list = c.args.list.now in
    let i = c.loop-i.i in
    let f = c.in-Some.ensures in
    let r = pieces_fault list i c.loop-i.invariant.1 (λ e. numbered c.in-Some.reason (f ∙ e)) in
    rw c.at-in-Some.ensures (ap (λ (k : ℕ). Refused k i) f ∙ sym (list_pieces list c.if-list-ne0.false c.if-n-gt-MOST.false ∙ pieces_stay list (fault_at list i) i (suc i) (length list / 5) (omega arith) r))

pub loop-i-preserved : goal.loop-i-preserved
loop-i-preserved c =
    let list = c.args.list.now in
    (omega arith, rw add-one (pieces_sound list c.loop-i.i c.loop-i.invariant.1 (sym c.in_default.ensures)))

pub returns : goal.returns
returns c =
    let list = c.args.list.now in
    let e : c.loop-i.i ≡ length list / 5 = omega arith in
    sym (list_pieces list c.if-list-ne0.false c.if-n-gt-MOST.false ∙ rw e at c.loop-i.invariant.1)
