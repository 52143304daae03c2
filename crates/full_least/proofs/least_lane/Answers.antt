-- `full_least::least_lane` meets its contract: of the lanes up to place k the least is kept, and those up to the next candidate are passed over.
use mathlib.Core.Path.{◌≡◌, subst}
use mathlib.Core.Bool.{Bool}
use Prim.Native.Nat.{ℕ, ◌+◌, ◌<◌, ◌≤◌}
use native.Mathlib.Omega.{arith}
use lib.ListN.{get_or, take}
use lib.Seq.{get_or-take}
use Rattle.full_lanes.specs.Lanes.{Newer}
use Rattle.full_lanes.proofs.Least.{Scan, scan_takes, scan_leaves, scan_skips}
use Rattle.full_least.proofs.least_lane.Goals as goal
use Rattle.full_least.proofs.least_lane.Goals.{then-comes_first, else-comes_first}

pub loop-k-preserved : goal.loop-k-preserved
loop-k-preserved c =
    let a = c.args in
    let K = c.requires in
    let k = c.loop-k.k in
    let h = c.loop-k-test.true in
    let at_place : (i : ℕ) → i < a.live → get_or (take a.live a.lanes.now) i 0 ≡ get_or a.lanes.now i 0 = λ i. get_or-take a.live a.lanes.now i 0 in
    -- the key of place k is passed, whichever is kept
    let passed : Scan a.table.now a.active.now a.lanes.now a.live (k + 1) c.if-comes_first.at c.if-comes_first.least =
    let s = c.loop-k.invariant in
    let newer = λ (yes : Bool). Newer a.table.now a.active.now k (get_or a.lanes.now k 0) c.loop-k.at c.loop-k.least yes in
    let w = c.comes_first.ensures in
    elim c.if-comes_first.branch [
      | then-comes_first b ↦
          rw (b.at-is, b.least-is, at_place k h) (scan_takes _ _ _ _ K k _ _ h s (subst newer b.if-comes_first.true (rw (at_place k h) at w)))
      | else-comes_first b ↦
          rw (b.at-is, b.least-is) (scan_leaves _ _ _ _ K k _ _ h s (subst newer b.if-comes_first.false (rw (at_place k h) at w)))
    ]
    in
    let next = c.next_candidate-k.ensures in
    scan_skips _ _ _ _ K _ _ _ _ passed
    (record {
      begun = next.begun;
      within = next.within;
      greater = λ i p q. subst (λ (n : ℕ). c.if-comes_first.least < n) (at_place i (omega (arith, q, next.within))) (next.greater i p q);
      first = λ r. subst (λ (n : ℕ). n ≤ c.if-comes_first.least) (at_place _ r) (next.first r);
    })
