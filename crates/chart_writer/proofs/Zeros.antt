-- The group count from leading zeros is the count of a number's groups, whatever the width and the most groups.
use mathlib.Core.Path.{◌≡◌, refl, sym, ap, ◌∙◌}
use Prim.Native.Nat.{ℕ, zero, suc, ◌+◌, ◌-◌, ◌*◌, ◌/◌, ◌^◌, ◌≤◌, ◌<◌}
use native.Mathlib.Decide.{dec_lt}
use native.Mathlib.Omega.{arith}
use borrow.Author.Tests.{ne_eqb}
use lib.Count.{count_leading_zeros, leading_length}
use lib.ListN.{length}
use lib.Pow.{pow-add, pow_mono}
use Rattle.chart_file.specs.Groups.{spelled}
use Rattle.chart_file.proofs.Spelling.{spelled_last, spelled_more, rest_below, rest_due}
use Rattle.chart_writer.specs.Zeros.{groups_of, groups_by}
use Rattle.chart_writer.specs.Demand.{CountsGroups}

-- up to seven digits are one group, and each seven more are one more
one_group : (m : ℕ) → m ≤ 7 → groups_of m ≡ 1
unfolding groups_of
one_group zero h = refl
one_group (suc m) h = rw (ne_eqb (suc m) 0 (λ e. omega arith)) (omega arith)

more_groups : (m : ℕ) → 0 < m → groups_of (7 + m) ≡ suc (groups_of m)
unfolding groups_of
more_groups m h = rw (ne_eqb (7 + m) 0 (λ e. omega arith), ne_eqb m 0 (λ e. omega arith)) (omega arith)

-- without its low seven digits a number is that much shorter
seven_off : (m v : ℕ) → v < 2 ^ (7 + m) → 2 ^ (7 + m) ≤ 2 * v + 1 → (v / 128 < 2 ^ m) × (2 ^ m ≤ 2 * (v / 128) + 1)
seven_off m v h l = go (2 ^ m) (rw (pow-add 2 7 m) at h) (rw (pow-add 2 7 m) at l)
  where
    go : (p : ℕ) → v < 128 * p → 128 * p ≤ 2 * v + 1 → (v / 128 < p) × (p ≤ 2 * (v / 128) + 1)
    go p h l = (omega arith, omega arith)

-- a number of m digits: it is below 2 to the power m, and no shorter length holds it
pub by_digits : (k m v : ℕ) → 0 < k → v < 128 ^ k → v < 2 ^ m → 2 ^ m ≤ 2 * v + 1 → length (spelled k v) ≡ groups_of m
by_digits zero m v p b h l = absurd (omega arith)
by_digits (suc k) m v p b h l = elim (dec_lt v 128) [
  | yes s ↦ rw (spelled_last k v s) (sym (one_group m (short s)))
  | no g ↦
      let g' : 128 ≤ v = omega arith in
      let d : 7 + (m - 7) ≡ m = omega (arith, long g') in
      let fewer = seven_off (m - 7) v (rw d h) (rw d l) in
      rw (spelled_more k v g')
      (ap suc (by_digits k (m - 7) (v / 128) (rest_due k v g' b) (rest_below k v b) fewer.0 fewer.1)
      ∙ sym (more_groups (m - 7) (omega (arith, long g'))) ∙ ap groups_of d)
]
  where
    short : v < 128 → m ≤ 7
    short s = elim (dec_lt 7 m) [
      | yes a ↦ absurd (let q : 2 ^ 8 ≤ 2 ^ m = pow_mono {i = 8} {j = m} (omega arith) in omega arith)
      | no a ↦ omega arith
    ]

    long : 128 ≤ v → 7 < m
    long g = elim (dec_lt 7 m) [
      | yes a ↦ a
      | no a ↦ absurd (let q : 2 ^ m ≤ 2 ^ 7 = pow_mono {i = m} {j = 7} (omega arith) in omega arith)
    ]

pub counts_groups : CountsGroups
unfolding groups_by
counts_groups w k v h p b =
    let q = leading_length w v h in
    let e : w - count_leading_zeros w v ≡ q.0 = omega (arith, q.1) in
    rw e (sym (by_digits k q.0 v p b q.2 q.3))
