-- `is_fitting`: of the first charts the lengths and the needs are taken off, and what is left is left.
use mathlib.Core.Path.{sym}
use native.Mathlib.Numerals.{add-one}
use native.Mathlib.Omega.{arith}
use lib.Seq.{take_all}
use Rattle.batch.specs.Charts.{need}
use Rattle.batch.proofs.Fitting.{sum_none, sum_more, sum_next, fits_not_sum, fits_not_room, fits_left}
use Rattle.batch_refusals.proofs.is_fitting.Goals as goal
use Rattle.batch_refusals.proofs.is_fitting.Goals.{then-left-length-via-then-left-length, then-left-length-via-else-left-length+then-room-bytes}

pub loop-length-init : goal.loop-length-init
loop-length-init c = let ks = c.args.lengths.now in (omega (arith, sum_none (λ k. k) ks), omega (arith, sum_none need ks))

pub returns-then-left-length : goal.returns-then-left-length
returns-then-left-length c =
    let ks = c.args.lengths.now in
    let i = c.loop-length.length-index in
    elim c.then-left-length.branch [
      | then-left-length-via-then-left-length w ↦ sym (fits_not_sum ks _ _ (λ e. omega (arith, w.if-left-length.true, sum_next (λ k. k) ks i (omega arith))))
      | then-left-length-via-else-left-length+then-room-bytes w ↦ sym (fits_not_room ks _ _ (omega (arith, w.if-room-bytes.true, sum_next need ks i (omega arith), c.need_of-bytes.ensures)))
    ]

pub loop-length-preserved : goal.loop-length-preserved
loop-length-preserved c =
    let ks = c.args.lengths.now in
    let i = c.loop-length.length-index in
    rw (add-one i) (
      omega (arith, sum_more (λ k. k) ks i (omega arith)),
      omega (arith, sum_more need ks i (omega arith), c.need_of-bytes.ensures),
    )

pub returns : goal.returns
returns c =
    let ks = c.args.lengths.now in
    let all = take_all c.loop-length.length-index ks (omega arith) in
    fits_left ks _ _ c.loop-length.left c.loop-length.room (rw all at c.loop-length.invariant.0) (rw all at c.loop-length.invariant.1)
