-- What the calls answer and leave, by what they found.
-- Assumes nothing.
use mathlib.Core.Path.{◌≡◌, refl, sym, ap, ◌∙◌}
use mathlib.Core.Bool.{true, false}
use mathlib.Core.List.{List}
use Prim.Native.Nat.{ℕ, zero, suc, ◌<◌, ◌≤◌}
use borrow.Author.Tests.{lt-ltb, le-ltb, eq-eqb, ne_eqb}
use lib.IntN.{ℤ}
use lib.ListN.{length}
use Rattle.charts.specs.Verdict.{Verdict}
use Rattle.charts.specs.Verdict.{Accepted, Refused}
use Rattle.charts.specs.Answer.{answer_of, room}
use Rattle.charts.specs.Chart.{number_at, fault_at}
use Rattle.charts.specs.Fault.{fault_of}
use Rattle.open_chart.specs.Memory.{places, memory, five, is_used, used_below, lowest_free, vacant}
use Rattle.open_chart.specs.Changes.{whole, adding, dropping, changed_by, changed_of, after_adding, after_dropping, emptying_of, emptied, after_emptying, used_of}
use Rattle.open_chart.specs.Listing.{open_pairs, listing_on, open_pairs_of, written_by, lent_after}

pub five_fault : (kind x1 y1 x2 y2 : ℤ) → fault_at (five kind x1 y1 x2 y2) 0 ≡ fault_of kind x1 y1 x2 y2
unfolding fault_at number_at
five_fault kind x1 y1 x2 y2 = refl

module _ (chart : List ℤ) where
  -- ---- 8 first
  pub small : (v : Verdict) → length chart < memory → whole chart v ≡ Refused 8 0
  unfolding whole
  small v h = rw (lt-ltb (length chart) memory h)

  pub large : (v : Verdict) → memory ≤ length chart → whole chart v ≡ v
  unfolding whole
  large v h = rw (le-ltb (length chart) memory h)

  -- ---- adding
  module _ (numbers : List ℤ) where
    pub added : (v : Verdict) → adding chart numbers ≡ v → (changed_of v ≡ changed_of (adding chart numbers)) × (changed_by chart numbers v ≡ after_adding chart numbers)
    unfolding after_adding
    added v e = (ap changed_of (sym e), ap (changed_by chart numbers) (sym e))

    pub adding_small : length chart < memory → adding chart numbers ≡ Refused 8 0
    unfolding adding
    adding_small h = small _ h

    module _ (h : memory ≤ length chart) where
      pub adding_faulted : (k : ℕ) → fault_at numbers 0 ≡ k → ¬ (k ≡ 0) → adding chart numbers ≡ Refused k 0
      unfolding adding
      adding_faulted zero e n = absurd (n refl)
      adding_faulted (suc k) e n = large _ h ∙ rw e

      pub adding_full : fault_at numbers 0 ≡ 0 → lowest_free chart places ≡ places → adding chart numbers ≡ Refused 17 0
      unfolding adding
      adding_full e f = large _ h ∙ rw (e, eq-eqb (lowest_free chart places) places f)

      pub adding_at : fault_at numbers 0 ≡ 0 → ¬ (lowest_free chart places ≡ places) → adding chart numbers ≡ Accepted (lowest_free chart places)
      unfolding adding
      adding_at e f = large _ h ∙ rw (e, ne_eqb (lowest_free chart places) places f)

  -- ---- dropping
  module _ (i : ℕ) where
    pub dropped : (v : Verdict) → dropping chart i ≡ v → (changed_of v ≡ changed_of (dropping chart i)) × (changed_by chart vacant v ≡ after_dropping chart i)
    unfolding after_dropping
    dropped v e = (ap changed_of (sym e), ap (changed_by chart vacant) (sym e))

    pub dropping_small : length chart < memory → dropping chart i ≡ Refused 8 0
    unfolding dropping
    dropping_small h = small _ h

    module _ (h : memory ≤ length chart) where
      pub dropping_unknown : places ≤ i → dropping chart i ≡ Refused 18 0
      unfolding dropping
      dropping_unknown k = large _ h ∙ rw (le-ltb i places k)

      pub dropping_free : i < places → is_used chart i ≡ false → dropping chart i ≡ Refused 18 0
      unfolding dropping
      dropping_free k e = large _ h ∙ rw (lt-ltb i places k, e)

      pub dropping_at : i < places → is_used chart i ≡ true → dropping chart i ≡ Accepted i
      unfolding dropping
      dropping_at k e = large _ h ∙ rw (lt-ltb i places k, e)

  -- ---- an empty chart, and the count of used places
  pub empty_small : length chart < memory → (answer_of (λ n. n) (Refused 8 0) ≡ emptying_of chart) × (chart ≡ after_emptying chart)
  unfolding emptying_of after_emptying
  empty_small h = (ap (answer_of (λ n. n)) (sym (small _ h)), rw (lt-ltb (length chart) memory h))

  pub empty_large : memory ≤ length chart → (answer_of (λ n. n) (Accepted 0) ≡ emptying_of chart) × (emptied chart ≡ after_emptying chart)
  unfolding emptying_of after_emptying
  empty_large h = (ap (answer_of (λ n. n)) (sym (large _ h)), rw (le-ltb (length chart) memory h))

  pub used_small : length chart < memory → answer_of (λ n. n) (Refused 8 0) ≡ used_of chart
  unfolding used_of
  used_small h = ap (answer_of (λ n. n)) (sym (small _ h))

  pub used_large : memory ≤ length chart → answer_of (λ n. n) (Accepted (length (used_below chart places))) ≡ used_of chart
  unfolding used_of
  used_large h = ap (answer_of (λ n. n)) (sym (large _ h))

  -- ---- a listing
  module _ (lent : ℕ) where
    pub listing_small : length chart < memory → listing_on chart lent ≡ Refused 8 0
    unfolding listing_on
    listing_small h = small _ h

    module _ (h : memory ≤ length chart) where
      pub listing_tight : lent < room (length (used_below chart places)) → listing_on chart lent ≡ Refused 8 0
      unfolding listing_on
      listing_tight k = large _ h ∙ rw (lt-ltb lent (room (length (used_below chart places))) k)

      pub listing_goes : room (length (used_below chart places)) ≤ lent → listing_on chart lent ≡ Accepted (length (used_below chart places))
      unfolding listing_on
      listing_goes k = large _ h ∙ rw (le-ltb lent (room (length (used_below chart places))) k)

  module _ (lent : List ℕ) where
    pub listed : (v : Verdict) → listing_on chart (length lent) ≡ v
        → (answer_of (λ n. length (open_pairs chart)) v ≡ open_pairs_of chart (length lent)) × (written_by chart lent v ≡ lent_after chart lent)
    unfolding open_pairs_of lent_after
    listed v e = (ap (answer_of (λ n. length (open_pairs chart))) (sym e), ap (written_by chart lent) (sym e))
