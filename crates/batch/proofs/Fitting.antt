-- What charts need, and whether they fit: sums over the first lengths, and one length more.
-- Assumes nothing.
use mathlib.Core.Path.{◌≡◌, refl, sym, ap, ◌∙◌}
use mathlib.Core.Bool.{Bool, true, false, ◌&&◌}
use mathlib.Core.List.{List, [], ◌∷◌}
use Prim.Native.Nat.{ℕ, zero, suc, ◌+◌, ◌*◌, ◌/◌, ◌%◌, ◌≤◌, ◌<◌}
use native.Mathlib.Decide.{dec_lt}
use native.Mathlib.Omega.{arith}
use borrow.Author.Tests.{eq-eqb, ne_eqb, le-leb, lt-leb, lt-ltb, le-ltb}
use lib.Dec.{eqb}
use lib.ListN.{length, take, get_or}
use Rattle.charts.specs.Chart.{most}
use Rattle.charts.specs.Answer.{room}
use Rattle.charts.proofs.Room.{room_none}
use Rattle.batch.specs.Charts.{need, sum, total, needs, fits}
use Rattle.batch.specs.Batch.{refusal_of}

-- ---- what a list of so many numbers needs
module _ (k : ℕ) where
  pub need_odd : ¬ (k % 5 ≡ 0) → need k ≡ 0
  unfolding need
  need_odd h = rw (ne_eqb _ _ h)

  pub need_many : k % 5 ≡ 0 → most < k / 5 → need k ≡ 0
  unfolding need
  need_many h l = rw (eq-eqb _ _ h, lt-leb _ _ l)

  pub need_room : k % 5 ≡ 0 → k / 5 ≤ most → need k ≡ room (k / 5)
  unfolding need
  need_room h l = rw (eq-eqb _ _ h, le-leb _ _ l)

  pub need_none : k % 5 ≡ 0 → k / 5 ≡ 0 → need k ≡ 0
  need_none h e = need_room h (omega arith) ∙ ap room e ∙ room_none

-- ---- sums
module _ (f : ℕ → ℕ) where
  pub sum_none : (ks : List ℕ) → sum f (take 0 ks) ≡ 0
  unfolding sum
  sum_none ks = refl

  pub sum_more : (ks : List ℕ) (i : ℕ) → i < length ks → sum f (take (suc i) ks) ≡ sum f (take i ks) + f (get_or ks i 0)
  unfolding sum
  sum_more [] i h = absurd (omega arith)
  sum_more (k ∷ ks) zero h = omega arith
  sum_more (k ∷ ks) (suc i) h = omega (arith, sum_more ks i (omega arith))

  pub sum_within : (ks : List ℕ) (i : ℕ) → sum f (take i ks) ≤ sum f ks
  unfolding sum
  sum_within [] zero = omega arith
  sum_within [] (suc i) = omega arith
  sum_within (k ∷ ks) zero = omega arith
  sum_within (k ∷ ks) (suc i) = omega (arith, sum_within ks i)

  -- one more is within the whole too
  pub sum_next : (ks : List ℕ) (i : ℕ) → i < length ks → sum f (take i ks) + f (get_or ks i 0) ≤ sum f ks
  sum_next ks i h = omega (arith, sum_more ks i h, sum_within ks (suc i))

-- ---- whether they fit
module _ (ks : List ℕ) (numbers lent : ℕ) where
  pub fits_yes : total ks ≡ numbers → needs ks ≤ lent → fits ks numbers lent ≡ true
  unfolding fits
  fits_yes e l = rw (eq-eqb _ _ e, le-leb _ _ l)

  pub fits_not_sum : ¬ (total ks ≡ numbers) → fits ks numbers lent ≡ false
  unfolding fits
  fits_not_sum h = rw (ne_eqb _ _ h)

  pub fits_not_room : lent < needs ks → fits ks numbers lent ≡ false
  unfolding fits
  fits_not_room l = rw (lt-leb _ _ l) (neither (eqb (total ks) numbers))
    where
      neither : (b : Bool) → (b && false) ≡ false
      neither true = refl
      neither false = refl

  -- counted down to what is left
  pub fits_left : (left room : ℕ) → left + total ks ≡ numbers → room + needs ks ≡ lent → eqb left 0 ≡ fits ks numbers lent
  fits_left zero room e f = sym (fits_yes (omega arith) (omega arith))
  fits_left (suc left) room e f = ne_eqb (suc left) 0 (λ z. omega arith) ∙ sym (fits_not_sum (λ z. omega arith))

  pub fits_sum : fits ks numbers lent ≡ true → total ks ≡ numbers
  fits_sum h = elim (dec_lt (total ks) numbers) [
    | yes l ↦ absurd (clash (fits_not_sum (λ e. omega arith)))
    | no g ↦ elim (dec_lt numbers (total ks)) [
      | yes l ↦ absurd (clash (fits_not_sum (λ e. omega arith)))
      | no l ↦ omega arith
    ]
  ]
    where
      clash : fits ks numbers lent ≡ false → ⊥
      clash e = let z : true ≡ false = cc in let y : ◌≡◌ {A = ℕ} 0 1 = cc in omega arith

  pub fits_room : fits ks numbers lent ≡ true → needs ks ≤ lent
  fits_room h = elim (dec_lt lent (needs ks)) [
    | yes l ↦ absurd (clash (fits_not_room l))
    | no g ↦ omega arith
  ]
    where
      clash : fits ks numbers lent ≡ false → ⊥
      clash e = let y : ◌≡◌ {A = ℕ} 0 1 = cc in omega arith

-- ---- the refusals of the whole call
module _ (numbers : ℕ) (ks : List ℕ) (lent room : ℕ) where
  pub refused_ten : 16 < length ks → refusal_of numbers ks lent room ≡ 10
  unfolding refusal_of
  refused_ten l = rw (lt-ltb _ _ l)

  pub refused_eleven : length ks ≤ 16 → fits ks numbers lent ≡ false → refusal_of numbers ks lent room ≡ 11
  unfolding refusal_of
  refused_eleven l e = rw (le-ltb _ _ l, e)

  pub refused_eight : length ks ≤ 16 → fits ks numbers lent ≡ true → room < 10 * length ks → refusal_of numbers ks lent room ≡ 8
  unfolding refusal_of
  refused_eight l e h = rw (le-ltb _ _ l, e, lt-ltb _ _ h)

  pub refused_none : length ks ≤ 16 → fits ks numbers lent ≡ true → 10 * length ks ≤ room → refusal_of numbers ks lent room ≡ 0
  unfolding refusal_of
  refused_none l e h = rw (le-ltb _ _ l, e, le-ltb _ _ h)
