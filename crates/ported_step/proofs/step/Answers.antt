-- `ported_step::step` meets its contract: the parts come together to the step on arrays.
use mathlib.Core.Path.{sym, ap, ◌∙◌}
use native.Mathlib.Omega.{arith}
use lib.ListN.{length}
use Rattle.ported_step.proofs.Assembling.{passed_in, stay_is, assembled}
use Rattle.ported_step.proofs.step.Goals as goal

pub gather-h-requires : goal.gather-h-requires
gather-h-requires c =
    let e = c.pass_ends-e1.ensures.passes 0 in
    let w = c.pass_crossings-w1.ensures.passes 0 in
    (e.onwards, e.within, λ x m. c.requires.ends_left x (passed_in e m), w.onwards, w.within, λ x m. c.requires.waiting_left x (passed_in w m), c.requires.lives, omega arith)

pub invariant_of-book : goal.invariant_of-book
invariant_of-book c = record { within = (c.pass_crossings-w1.ensures.passes 0).within }

pub turn-turned-requires : goal.turn-turned-requires
turn-turned-requires c =
    let g = c.gather-h.ensures in
    (c.requires.lives, omega (arith, g.within, g.long))

pub returns : goal.returns
returns c =
    let pe = c.pass_ends-e1.ensures in
    let pc = c.pass_crossings-w1.ensures in
    let g = c.gather-h.ensures in
    let t = c.turn-turned.ensures in
    let b = c.args.book.now in (
      record { passed = (pe.passes 0).within; fewer = t.fewer; lives = t.lives },
      record {
        does = λ n last steps.
            assembled n c.args.table.now c.args.p c.args.ends.now c.args.active.now b.marks b.waiting c.args.bytes.now
            c.args.passed c.args.live b.head b.end last steps _ _ (pe.passes n) (pc.passes n) _ _ _ _ _ pe.starts pe.finishes pc.turns pc.frees g.list _ _ _ _ c.requires.full
            (c.report_all.ensures.listed n)
            t.ranges
            (t.examines n);
        stayed = λ n last steps.
            t.stayed
            ∙ ap length
            (sym
            (stay_is n c.args.table.now c.args.p c.args.ends.now c.args.active.now b.marks b.waiting c.args.bytes.now
            c.args.passed c.args.live b.head b.end last steps _ _ (pe.passes n) (pc.passes n) _ _ _ _ _ pe.starts pe.finishes pc.turns pc.frees g.list));
      },
    )
