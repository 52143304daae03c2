-- `open_pairs::gather` meets its contract: the used places below i stand beside each other.
use borrow.Author.Rules.{rules}
use mathlib.Core.Path.{◌≡◌, refl, sym, ◌∙◌}
use native.Mathlib.Omega.{arith}
use lib.ListN.{length-set}
use Rattle.open_chart.specs.Memory.{places}
use Rattle.open_chart.proofs.Gathers.{gathered_none, gathered_used, gathered_free}
use Rattle.open_pairs.proofs.gather.Goals as goal
use Rattle.open_pairs.proofs.gather.Goals.{then-is_used, else-is_used}

pub loop-i-init : goal.loop-i-init
loop-i-init c = (search rules, search rules, refl, gathered_none c.args.chart.now _ _ refl)

pub loop-i-preserved : goal.loop-i-preserved
loop-i-preserved c =
    let chart = c.args.chart.now in
    let s = c.loop-i in
    let g = s.invariant.3 in
    elim c.if-is_used.branch [
      | then-is_used w ↦
          let u = sym c.is_used.ensures ∙ w.if-is_used.true in
          rw (w.all-is, w.names-is, w.count-is)
          (omega arith, omega arith, length-set s.all s.count w.piece_at.result ∙ s.invariant.2, gathered_used chart s.i s.all s.names s.count g w.piece_at.result u w.piece_at.ensures (omega arith) (omega (arith, g.long)))
      | else-is_used w ↦
          let u = sym c.is_used.ensures ∙ w.if-is_used.false in
          rw (w.all-is, w.names-is, w.count-is) (omega arith, omega arith, s.invariant.2, gathered_free chart s.i s.all s.names s.count g u)
    ]

pub returns : goal.returns
returns c =
    let e : c.loop-i.i ≡ places = omega arith in
    rw e at c.loop-i.invariant.3
