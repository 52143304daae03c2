-- The verdict given to a list is the one that is due: the proof of `RefusesExactly`.
-- Assumes nothing.
use mathlib.Core.Path.{◌≡◌, refl, sym, ap, ◌∙◌, subst}
use mathlib.Core.Bool.{Bool, true, false}
use mathlib.Core.List.{List}
use mathlib.Core.Logic.{⊎_elim}
use Prim.Native.Nat.{ℕ, zero, suc, ◌*◌, ◌/◌, ◌%◌, ◌≤◌, ◌<◌}
use native.Mathlib.Nat.{eq-or-lt_of_le}
use native.Mathlib.Omega.{arith}
use borrow.Author.Tests.{eqb-true, eqb-false, ltb-true, ltb-false}
use lib.Dec.{eqb, ltb}
use lib.IntN.{ℤ}
use lib.ListN.{length}
use Rattle.charts.specs.Chart.{most, number_at, fault_at, next, pieces, verdict_of}
use Rattle.charts.specs.Demand.{FaultOf, Sound, Due, nine, three, piece, done, RefusesExactly}
use Rattle.charts.specs.Verdict.{Verdict}
use Rattle.charts.specs.Verdict.{Accepted, Refused}
use Rattle.charts.proofs.Rows.{fault_due, fault_given}
use Rattle.charts.proofs.Pieces.{pieces_none, pieces_sound, pieces_fault, pieces_stay, list_nine, list_three, list_pieces}

-- what the first n pieces come to
data Comes (list : List ℤ) (n : ℕ) : Verdict → Type 0 where
  all : Sound list n → Comes list n (Accepted n)
  first : (i k : ℕ) → i < n → Sound list i → FaultOf list i (suc k) → Comes list n (Refused (suc k) i)

module _ (list : List ℤ) where
  due_at : (i : ℕ) → FaultOf list i (fault_at list i)
  unfolding fault_at
  due_at i = fault_due (number_at list i 0) (number_at list i 1) (number_at list i 2) (number_at list i 3) (number_at list i 4)

  given_at : (i k : ℕ) → FaultOf list i k → fault_at list i ≡ k
  unfolding fault_at
  given_at i k = fault_given (number_at list i 0) (number_at list i 1) (number_at list i 2) (number_at list i 3) (number_at list i 4) k

  more : (n : ℕ) → Sound list n → FaultOf list n 0 → Sound list (suc n)
  more n s f i h = ⊎_elim (λ (e : i ≡ n). subst (λ (j : ℕ). FaultOf list j 0) (sym e) f) (s i) (eq-or-lt_of_le {n = i} {m = n} (omega arith))

  -- ---- due, so given
  accepted : (n : ℕ) → Sound list n → pieces list n ≡ Accepted n
  accepted zero s = pieces_none list
  accepted (suc n) s = pieces_sound list n (accepted n (λ i h. s i (omega arith))) (given_at n 0 (s n (omega arith)))

  refused : (i k : ℕ) → Sound list i → FaultOf list i (suc k) → pieces list (suc i) ≡ Refused (suc k) i
  refused i k s f = let e = given_at i (suc k) f in pieces_fault list i (accepted i s) (λ z. omega arith) ∙ ap (λ (k : ℕ). Refused k i) e

  given : (v : Verdict) → Due list v → verdict_of list ≡ v
  given v (nine h) = list_nine list (λ e. h (length list / 5) (omega arith))
  given v (three n e h) = list_three list (omega arith) (omega arith)
  given v (piece n e h i k l s f) = list_pieces list (omega arith) (omega arith) ∙ pieces_stay list (suc k) i (suc i) (length list / 5) (omega arith) (refused i k s f)
  given v (done n e h s) = list_pieces list (omega arith) (omega arith) ∙ ap (pieces list) (omega arith) ∙ accepted n s

  -- ---- given, so due
  step : (n : ℕ) (v : Verdict) → Comes list n v → (k : ℕ) → FaultOf list n k → Comes list (suc n) (next v k)
  step n v (all s) zero f = all (more n s f)
  step n v (all s) (suc k) f = first n k (omega arith) s f
  step n v (first i j h s g) k f = first i j (omega arith) s g

  comes : (n : ℕ) → Comes list n (pieces list n)
  unfolding pieces
  comes zero = all (λ i h. absurd (omega arith))
  comes (suc n) = step n (pieces list n) (comes n) (fault_at list n) (due_at n)

  ends : (n : ℕ) → length list ≡ 5 * n → n ≤ most → (v : Verdict) → Comes list n v → Due list v
  ends n e h v (all s) = done n e h s
  ends n e h v (first i k l s f) = piece n e h i k l s f

  due : Due list (verdict_of list)
  due = go (eqb (length list % 5) 0) refl (ltb most (length list / 5)) refl
    where
      go : (a : Bool) → eqb (length list % 5) 0 ≡ a → (b : Bool) → ltb most (length list / 5) ≡ b → Due list (verdict_of list)
      go false e b f = let d : ¬ (length list % 5 ≡ 0) = eqb-false _ _ e in subst (Due list) (sym (list_nine list d)) (nine (λ n q. d (omega arith)))
      go true e true f = let q = eqb-true _ _ e in let h = ltb-true _ _ f in subst (Due list) (sym (list_three list q h)) (three (length list / 5) (omega arith) h)
      go true e false f =
          let q = eqb-true _ _ e in
          let h = ltb-false _ _ f in
          subst (Due list) (sym (list_pieces list q h)) (ends (length list / 5) (omega arith) h (pieces list (length list / 5)) (comes (length list / 5)))

pub refuses_exactly : RefusesExactly
refuses_exactly list v = (λ e. subst (Due list) e (due list), given list v)
