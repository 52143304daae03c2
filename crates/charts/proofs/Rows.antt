-- The tests of `fault_of` say what the rows of the table say: the fault given to a piece is the one that is due.
-- Assumes nothing.
use mathlib.Core.Path.{◌≡◌, refl, sym, ap, subst}
use mathlib.Core.Bool.{Bool, true, false, cond, ◌&&◌, ◌||◌}
use mathlib.Core.Logic.{◌⊎◌, inl, inr, ⊎_elim}
use Prim.Native.Nat.{ℕ}
use borrow.Author.Tests.{eqb-true, eqb-false}
use lib.Dec.{T, T_not}
use lib.IntN.{ℤ, pos, negsuc, neg_ℤ, pos-ne-negsuc}
use lib.Signed.{lt_z, ◌<ℤ◌, lt_z_yes}
use Rattle.integers.proofs.Tests.{holds, fails}
use Rattle.charts.specs.Fault.{range, outside, off_range, eq_z, same_ends, fault_of}
use Rattle.charts.specs.Demand.{Outside, Off, Row4, Row5, Row6, Fault, none, four, five, six, FaultExactly}

-- a test says whether a fact holds
pub record Says (t : Bool) (P : Type 0) : Type 0 where
  pub yes : t ≡ true → P
  pub no : t ≡ false → ¬ P

pub is_true : {t : Bool} {P : Type 0} → Says t P → P → t ≡ true
is_true {t = true} s p = refl
is_true {t = false} s p = absurd (s.no refl p)

pub is_false : {t : Bool} {P : Type 0} → Says t P → ¬ P → t ≡ false
is_false {t = true} s n = absurd (n (s.yes refl))
is_false {t = false} s n = refl

pub says_lt : (a b : ℤ) → Says (lt_z a b) (a <ℤ b)
says_lt a b = record { yes = λ e. lt_z_yes (holds e); no = λ e h. T_not (lt_z a b) (fails e) h.lt }

pub says_or : {s t : Bool} {P Q : Type 0} → Says s P → Says t Q → Says (s || t) (P ⊎ Q)
says_or {s = true} s t = record { yes = λ _. inl (s.yes refl); no = λ e. absurd (subst T e tt) }
says_or {s = false} s t = record { yes = λ e. inr (t.yes e); no = λ e. ⊎_elim (s.no refl) (t.no e) }

pub says_and : {s t : Bool} {P Q : Type 0} → Says s P → Says t Q → Says (s && t) (P × Q)
says_and {s = true} s t = record { yes = λ e. (s.yes refl, t.yes e); no = λ e h. t.no e h.1 }
says_and {s = false} s t = record { yes = λ e. absurd (subst T (sym e) tt); no = λ _ h. s.no refl h.0 }

pub says_eq : (a b : ℤ) → Says (eq_z a b) (a ≡ b)
unfolding eq_z
says_eq (pos a) (pos b) = record { yes = λ e. ap pos (eqb-true a b e); no = λ e h. eqb-false a b e (cc) }
says_eq (pos a) (negsuc b) = record { yes = λ e. absurd (subst T (sym e) tt); no = λ _. pos-ne-negsuc a b }
says_eq (negsuc a) (pos b) = record { yes = λ e. absurd (subst T (sym e) tt); no = λ _ h. pos-ne-negsuc b a (sym h) }
says_eq (negsuc a) (negsuc b) = record { yes = λ e. ap negsuc (eqb-true a b e); no = λ e h. eqb-false a b e (cc) }

pub says_outside : (low high v : ℤ) → Says (outside low high v) (Outside low high v)
unfolding outside
says_outside low high v = says_or (says_lt v low) (says_lt high v)

pub says_off : (x y : ℤ) → Says (off_range x y) (Off x ⊎ Off y)
unfolding off_range
says_off x y = says_or (says_outside (neg_ℤ range) range x) (says_outside (neg_ℤ range) range y)

module _ (kind x1 y1 x2 y2 : ℤ) where
  says4 : Says (outside (pos 0) (pos 3) kind) (Row4 kind x1 y1 x2 y2)
  says4 = says_outside (pos 0) (pos 3) kind

  says5 : Says (off_range x1 y1 || off_range x2 y2) (Row5 kind x1 y1 x2 y2)
  says5 = says_or (says_off x1 y1) (says_off x2 y2)

  says6 : Says (same_ends x1 y1 x2 y2) (Row6 kind x1 y1 x2 y2)
  unfolding same_ends
  says6 = says_and (says_eq x1 x2) (says_eq y1 y2)

  pub fault_due : Fault kind x1 y1 x2 y2 (fault_of kind x1 y1 x2 y2)
  unfolding fault_of
  fault_due = go says4 says5 says6
    where
      go : {a b d : Bool} → Says a (Row4 kind x1 y1 x2 y2) → Says b (Row5 kind x1 y1 x2 y2) → Says d (Row6 kind x1 y1 x2 y2)
          → Fault kind x1 y1 x2 y2 (cond a 4 (cond b 5 (cond d 6 0)))
      go {a = true} s4 s5 s6 = four (s4.yes refl)
      go {a = false} {b = true} s4 s5 s6 = five (s4.no refl) (s5.yes refl)
      go {a = false} {b = false} {d = true} s4 s5 s6 = six (s4.no refl) (s5.no refl) (s6.yes refl)
      go {a = false} {b = false} {d = false} s4 s5 s6 = none (s4.no refl) (s5.no refl) (s6.no refl)

  pub fault_given : (k : ℕ) → Fault kind x1 y1 x2 y2 k → fault_of kind x1 y1 x2 y2 ≡ k
  unfolding fault_of
  fault_given k (none n4 n5 n6) = rw (is_false says4 n4, is_false says5 n5, is_false says6 n6)
  fault_given k (four r) = rw (is_true says4 r)
  fault_given k (five n4 r) = rw (is_false says4 n4, is_true says5 r)
  fault_given k (six n4 n5 r) = rw (is_false says4 n4, is_false says5 n5, is_true says6 r)

  pub fault_exactly : FaultExactly kind x1 y1 x2 y2
  fault_exactly k = (λ e. subst (Fault kind x1 y1 x2 y2) e fault_due, fault_given k)
