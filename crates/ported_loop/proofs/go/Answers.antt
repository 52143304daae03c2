-- `ported_loop::go` meets its contract: after each step the arrays are the sheet.
use mathlib.Core.Path.{◌≡◌, sym, ap, ◌∙◌}
use Prim.Native.Nat.{ℕ}
use native.Mathlib.Omega.{arith}
use lib.Seq.{length-take-le}
use Rattle.ported_run.proofs.Running.{begins, ends_left, waiting_left, spent_all, ran_out, advances}
use Rattle.ported_run.proofs.Tallying.{tallies_none, tallies}
use Rattle.ported_run.specs.Running.{last_at}
use Rattle.ported_loop.proofs.go.Goals as goal

pub loop-steps-init : goal.loop-steps-init
loop-steps-init c = let a = c.args in (
  begins a.table.now a.ends.now a.active.now a.book.now.marks a.book.now.waiting a.bytes.now a.budget _ c.requires.empty.0 c.requires.empty.1,
  tallies_none a.table.now a.ends.now a.active.now a.book.now.marks a.book.now.waiting a.bytes.now,
)

pub returns-in-None : goal.returns-in-None
returns-in-None c n B =
    let i = c.loop-steps.invariant in
    ran_out i.0 n B (c.next_point.ensures n) c.in-None.is c.last_at.ensures (i.1.counted n B)

pub step-at-requires : goal.step-at-requires
step-at-requires c =
    let G = c.loop-steps.invariant.0 in
    let B = c.requires.begun in
    record {
      passes = G.within;
      ends_few = omega (arith, B.1.count, B.1.few);
      ends_left = ends_left G B.0 B.1;
      lives = G.lives;
      full = G.active_long ∙ B.1.actives;
      waiting_left = waiting_left G B.0 B.1;
    }

pub tally-examined-requires : goal.tally-examined-requires
tally-examined-requires c =
    let i = c.loop-steps.invariant in
    let w = c.step-at.ensures.0 in
    let full = i.0.active_long ∙ c.requires.begun.1.actives in
    (omega (arith, i.1.few, i.0.spent, c.ranges.budget), omega (arith, w.fewer, full), omega (arith, w.lives, full))

pub loop-steps-preserved : goal.loop-steps-preserved
loop-steps-preserved c =
    let i = c.loop-steps.invariant in
    let s = c.step-at.ensures in
    let w = s.0 in
    let at = c.next_point.ensures in
    let is = c.in-Some.is in (
      advances i.0 (omega (arith, c.loop-steps-test.true)) w.passed w.lives c.step-at.auto.active at is s.1.does,
      tallies i.0 i.1 (i.0.active_long ∙ c.requires.begun.1.actives) w.fewer w.lives at is s.1
          (λ n. length-take-le _ _ (omega (arith, w.lives, c.step-at.auto.active))) c.tally-examined.ensures,
    )

pub returns : goal.returns
returns c n B =
    let i = c.loop-steps.invariant in
    let all : c.loop-steps.steps ≡ c.args.budget = omega (arith, c.loop-steps-test.false, i.0.spent) in
    let last = ap (λ (m : ℕ). last_at m c.loop-steps.last) (sym all) in
    rw all at (spent_all i.0 n B (omega (arith, c.loop-steps-test.false)) (c.is_empty.ensures n) (c.last_at-2.ensures ∙ last) (i.1.counted n B))
