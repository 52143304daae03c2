-- The two outer lanes examined, from the branches of the code; and what it leaves at each place.
use mathlib.Core.Path.{◌≡◌, sym, ap, ◌∙◌}
use mathlib.Core.Logic.{◌⊎◌, inl, inr, ⊎_elim, ◌≢◌}
use mathlib.Core.Bool.{true, false}
use mathlib.Core.List.{List}
use Prim.Native.Nat.{ℕ, ◌+◌, ◌-◌, ◌≤◌, ◌<◌}
use native.Mathlib.Omega.{arith}
use borrow.Author.Tests.{lt-ltb, le-ltb, ltb-true, ltb-false}
use lib.Dec.{ltb}
use lib.IntN.{ℤ}
use lib.ListN.{length, get_or, take, set, length-set}
use lib.Seq.{take-set-lt, get_or-set_same, get_or-set_other}
use Rattle.fractions.specs.declared.Point.{Point}
use Rattle.sweep.proofs.Tests.{ask}
use Rattle.full_lanes.specs.Lanes.{examined}
use Rattle.full_step.specs.Whole.{lower_examined, upper_examined, outer_examined}

module _ (table : List ℤ) (active : List ℕ) (live lo m : ℕ) (p : Point) (lanes : List ℕ) where
  abbrev lower : List ℕ
  lower = lower_examined table active live lo m p lanes

  abbrev upper : List ℕ
  upper = upper_examined table active live lo m p lanes

  pub lower_yes : 0 < lo → set lanes (lo - 1) (examined table active live (lo - 1) p) ≡ lower
  unfolding lower_examined
  lower_yes h = rw (lt-ltb 0 lo h)

  pub lower_no : lo ≤ 0 → lanes ≡ lower
  unfolding lower_examined
  lower_no h = rw (le-ltb 0 lo h)

  pub upper_yes : 0 < m → set lanes (lo + m - 1) (examined table active live (lo + m - 1) p) ≡ upper
  unfolding upper_examined
  upper_yes h = rw (lt-ltb 0 m h)

  pub upper_no : m ≤ 0 → lanes ≡ upper
  unfolding upper_examined
  upper_no h = rw (le-ltb 0 m h)

  some_or_none : (k : ℕ) → (0 < k) ⊎ (k ≤ 0)
  some_or_none k = ⊎_elim (λ (t : ltb 0 k ≡ true). inl (ltb-true 0 k t)) (λ (t : ltb 0 k ≡ false). inr (ltb-false 0 k t)) (ask (ltb 0 k))

  pub lower_length : length lower ≡ length lanes
  lower_length = ⊎_elim (λ (h : 0 < lo). ap length (sym (lower_yes h)) ∙ length-set lanes _ _) (λ (h : lo ≤ 0). ap length (sym (lower_no h))) (some_or_none lo)

  pub upper_length : length upper ≡ length lanes
  upper_length = ⊎_elim (λ (h : 0 < m). ap length (sym (upper_yes h)) ∙ length-set lanes _ _) (λ (h : m ≤ 0). ap length (sym (upper_no h))) (some_or_none m)

  -- ---- place by place
  pub lower_other : (k : ℕ) → k + 1 ≢ lo → get_or lower k 0 ≡ get_or lanes k 0
  lower_other k ne =
      ⊎_elim
      (λ (h : 0 < lo). ap (λ (l : List ℕ). get_or l k 0) (sym (lower_yes h)) ∙ get_or-set_other lanes (lo - 1) k _ 0 (λ e. ne (omega arith)))
      (λ (h : lo ≤ 0). ap (λ (l : List ℕ). get_or l k 0) (sym (lower_no h)))
      (some_or_none lo)

  pub lower_at : (k : ℕ) → k + 1 ≡ lo → k < length lanes → get_or lower k 0 ≡ examined table active live k p
  lower_at k e h =
      let d : lo - 1 ≡ k = omega arith in
      ap (λ (l : List ℕ). get_or l k 0) (sym (lower_yes (omega arith)) ∙ ap (λ (i : ℕ). set lanes i (examined table active live i p)) d)
      ∙ get_or-set_same lanes k _ 0 h

  pub upper_other : (k : ℕ) → (k + 1 ≡ lo + m → m ≤ 0) → get_or upper k 0 ≡ get_or lanes k 0
  upper_other k ne =
      ⊎_elim
      (λ (h : 0 < m). ap (λ (l : List ℕ). get_or l k 0) (sym (upper_yes h)) ∙ get_or-set_other lanes (lo + m - 1) k _ 0 (λ e. let f = ne (omega arith) in omega arith))
      (λ (h : m ≤ 0). ap (λ (l : List ℕ). get_or l k 0) (sym (upper_no h)))
      (some_or_none m)

  pub upper_at : (k : ℕ) → k + 1 ≡ lo + m → 0 < m → k < length lanes → get_or upper k 0 ≡ examined table active live k p
  upper_at k e s h =
      let d : lo + m - 1 ≡ k = omega arith in
      ap (λ (l : List ℕ). get_or l k 0) (sym (upper_yes s) ∙ ap (λ (i : ℕ). set lanes i (examined table active live i p)) d)
      ∙ get_or-set_same lanes k _ 0 h

-- at the front of the lanes alone
module _ (table : List ℤ) (active : List ℕ) (live lo m : ℕ) (p : Point) (fits : lo + m ≤ live) (lanes : List ℕ) where
  lower_take : take live (lower_examined table active live lo m p lanes) ≡ lower_examined table active live lo m p (take live lanes)
  lower_take =
      ⊎_elim
      (λ (h : 0 < lo). ap (take live) (sym (lower_yes table active live lo m p lanes h)) ∙ take-set-lt live lanes (lo - 1) _ (omega arith) ∙ lower_yes table active live lo m p (take live lanes) h)
      (λ (h : lo ≤ 0). ap (take live) (sym (lower_no table active live lo m p lanes h)) ∙ lower_no table active live lo m p (take live lanes) h)
      (some_or_none table active live lo m p lanes lo)

  upper_take : take live (upper_examined table active live lo m p lanes) ≡ upper_examined table active live lo m p (take live lanes)
  upper_take =
      ⊎_elim
      (λ (h : 0 < m). ap (take live) (sym (upper_yes table active live lo m p lanes h)) ∙ take-set-lt live lanes (lo + m - 1) _ (omega arith) ∙ upper_yes table active live lo m p (take live lanes) h)
      (λ (h : m ≤ 0). ap (take live) (sym (upper_no table active live lo m p lanes h)) ∙ upper_no table active live lo m p (take live lanes) h)
      (some_or_none table active live lo m p lanes m)

pub outer_take : (table : List ℤ) (active : List ℕ) (live lo m : ℕ) (p : Point) (fits : lo + m ≤ live) (lanes : List ℕ)
    → take live (outer_examined table active live lo m p lanes) ≡ outer_examined table active live lo m p (take live lanes)
outer_take table active live lo m p fits lanes =
    upper_take table active live lo m p fits (lower_examined table active live lo m p lanes)
    ∙ ap (upper_examined table active live lo m p) (lower_take table active live lo m p fits lanes)
