use Rattle.std.proofs.Common.{◌≡◌, ◌+◌, take}
use Rattle.batch.specs.Charts.{need, sum}
use Rattle.batch_refusals.proofs.is_fitting.Given as goal

abbrev pub invariant-loop-length : goal.invariant-loop-length
invariant-loop-length l =
    (l.left + sum (λ k. k) (take l.length-index l.lengths) ≡ l.numbers)
    × (l.room + sum need (take l.length-index l.lengths) ≡ l.lent)
