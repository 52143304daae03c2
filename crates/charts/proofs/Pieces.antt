-- How the verdict on a list comes about: by its length, by its count, and then piece by piece, where the first fault stays.
-- Assumes nothing.
use mathlib.Core.Path.{◌≡◌, refl, sym, ap, ◌∙◌}
use mathlib.Core.List.{List}
use mathlib.Core.Logic.{⊎_elim}
use Prim.Native.Nat.{ℕ, zero, suc, ◌≤◌, ◌<◌, ◌/◌, ◌%◌}
use native.Mathlib.Nat.{eq-or-lt_of_le}
use native.Mathlib.Omega.{arith}
use borrow.Author.Tests.{eq-eqb, ne_eqb, lt-ltb, le-ltb}
use lib.IntN.{ℤ}
use lib.ListN.{length}
use Rattle.charts.specs.Chart.{most, fault_at, next, pieces, verdict_of}
use Rattle.charts.specs.Verdict.{Accepted, Refused}

module _ (list : List ℤ) where
  pub pieces_none : pieces list 0 ≡ Accepted 0
  unfolding pieces
  pieces_none = refl

  pub pieces_sound : (i : ℕ) → pieces list i ≡ Accepted i → fault_at list i ≡ 0 → pieces list (suc i) ≡ Accepted (suc i)
  unfolding pieces
  pieces_sound i h e = rw (h, e)

  pub pieces_fault : (i : ℕ) → pieces list i ≡ Accepted i → ¬ (fault_at list i ≡ 0) → pieces list (suc i) ≡ Refused (fault_at list i) i
  unfolding pieces
  pieces_fault i h e = rw h (go (fault_at list i) e)
    where
      go : (k : ℕ) → ¬ (k ≡ 0) → next (Accepted i) k ≡ Refused k i
      go zero d = absurd (d refl)
      go (suc k) d = refl

  pub pieces_stay : (k p i n : ℕ) → i ≤ n → pieces list i ≡ Refused k p → pieces list n ≡ Refused k p
  unfolding pieces
  pieces_stay k p i zero h e = let q : 0 ≡ i = omega arith in ap (pieces list) q ∙ e
  pieces_stay k p i (suc n) h e =
      ⊎_elim
      (λ (q : i ≡ suc n). ap (pieces list) (sym q) ∙ e)
      (λ (l : i < suc n). rw (pieces_stay k p i n (omega arith) e))
      (eq-or-lt_of_le {n = i} {m = suc n} h)

  -- ---- the whole list
  pub list_nine : ¬ (length list % 5 ≡ 0) → verdict_of list ≡ Refused 9 0
  unfolding verdict_of
  list_nine h = rw (ne_eqb _ _ h)

  pub list_three : length list % 5 ≡ 0 → most < length list / 5 → verdict_of list ≡ Refused 3 0
  unfolding verdict_of
  list_three h k = rw (eq-eqb _ _ h, lt-ltb _ _ k)

  pub list_pieces : length list % 5 ≡ 0 → length list / 5 ≤ most → verdict_of list ≡ pieces list (length list / 5)
  unfolding verdict_of
  list_pieces h k = rw (eq-eqb _ _ h, le-ltb _ _ k)
