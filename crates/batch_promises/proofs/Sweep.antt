-- Chart by chart, all that is promised of the single call.
-- Assumes nothing.
use mathlib.Core.Path.{◌≡◌, sym, ap, ◌∙◌}
use mathlib.Core.List.{List}
use Prim.Native.Nat.{ℕ}
use lib.IntN.{ℤ}
use lib.ListN.{length}
use Rattle.bentley_ottmann.specs.declared.Swept.{Swept}
use Rattle.full_sweep.specs.Swept.{sweep_of, lent_after}
use Rattle.batch.specs.Single.{largest, swept_alone, left_alone}
use Rattle.batch.proofs.Promises.{each_alone, reads_alone}
use Rattle.promises.specs.Sweep.{SweepPromises}
use Rattle.full_promises.proofs.C.{fewer}
use Rattle.full_promises.specs.Sweep.{Full, EveryChart}
use Rattle.full_promises.proofs.Full.{full_promises}
use Rattle.batch_promises.specs.Sweep.{InBatch}

-- what a batch leaves of a chart is what the single call allows
pub as_alone : (list : List ℤ) (budget : ℕ) (lent : List ℕ) (r : Swept) (after : List ℕ) → InBatch list budget lent r after → Full list budget lent r after
unfolding swept_alone left_alone
as_alone list budget lent r after b =
    record {
      returned =
          b.its_result ∙ reads_alone b.lists b.lengths b.bytes b.numbers b.answer b.left b.told b.allowed b.done b.i b.within
          ∙ rw (b.its_list, b.its_budget, b.its_part);
      left =
          b.its_bytes ∙ (each_alone b.lists b.lengths b.bytes b.numbers b.answer b.left b.told b.allowed b.done b.i b.within).1
          ∙ rw (b.its_list, b.its_budget, b.its_part);
    }

pub batch_promises : SweepPromises InBatch EveryChart
batch_promises = fewer {A = InBatch} {B = Full} as_alone full_promises.sweep
