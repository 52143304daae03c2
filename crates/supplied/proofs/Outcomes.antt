-- What is said of a list: by the first fault, then by the first pair that is not marked; the same by the array's test as by
-- the chart's.
-- Assumes nothing.
use mathlib.Core.Path.{◌≡◌, refl, sym, ap, ap₂, ◌∙◌}
use mathlib.Core.Bool.{Bool, true, false, cond, not, ◌&&◌}
use mathlib.Core.List.{List, ◌++◌}
use Prim.Native.Nat.{ℕ, zero, suc, ◌/◌, ◌≤◌, ◌<◌}
use native.Mathlib.Omega.{arith}
use borrow.Author.Tests.{leb-false}
use lib.Dec.{eqb, leb}
use lib.IntN.{ℤ}
use lib.ListN.{length}
use Rattle.charts.specs.Chart.{most}
use Rattle.charts.specs.Verdict.{Accepted as Going, Refused as Stopped}
use Rattle.naive.specs.AllPairs.{meets}
use Rattle.naive.specs.Pairs.{Pair, rows}
use Rattle.naive.proofs.Rows.{rows_same}
use Rattle.std.specs.Prelude.{Option, None, Some}
use Rattle.supplied.specs.declared.EntryFault.{EntryFault}
use Rattle.supplied.specs.declared.EntryFault.TheVariants.{NoPiece, Itself, Apart, Repeated}
use Rattle.supplied.specs.declared.Checked.TheVariants.{Fault, Refused}
use Rattle.supplied.specs.Entries.{one, other, top, low, first_of, told_at, Faulty, number_of, named, fault_of, fault_at, faults, missing}
use Rattle.supplied.specs.Checking.{told, held_to, supplied_of, checked_of}
use Rattle.supplied.specs.Marks.{Marked, Walked, unmarked}
use Rattle.supplied.proofs.Entries.{in_order}

-- ---- the marks list the same pairs as the entries
pub same_missing : (test : ℕ → ℕ → Bool) (n : ℕ) (bytes : List ℕ) (marks : List Bool) → n ≤ most → Marked marks bytes (length bytes / 2)
    → rows (unmarked marks test) n ≡ missing bytes test n
unfolding missing unmarked
same_missing test n bytes marks h m =
    rows_same (unmarked marks test) (λ a b. not (named bytes (length bytes / 2) a b) && test a b) n
    (λ a b g l. ap (λ (t : Bool). not t && test a b) (m.says a b l (omega arith)))

module _ (test : ℕ → ℕ → Bool) (n : ℕ) (bytes : List ℕ) where
  pub told_fault : (marks : List Bool) (i : ℕ) (k : EntryFault) (r : Option Faulty) → Walked test n bytes marks r → r ≡ Some (i, k) → Fault i (number_of k) ≡ held_to test n bytes
  unfolding held_to
  told_fault marks i k r w e = rw (sym w.first ∙ e)

  pub told_missing : (marks : List Bool) (r : Option Faulty) (m : Option Pair) → n ≤ most → Walked test n bytes marks r → r ≡ None → m ≡ first_of (rows (unmarked marks test) n) → told None m ≡ held_to test n bytes
  unfolding held_to
  told_missing marks r m h w e f = rw (sym w.first ∙ e, f, same_missing test n bytes marks h (w.marked e))

-- ---- two tests that agree on pieces say the same
module _ (f g : ℕ → ℕ → Bool) (n : ℕ) (bytes : List ℕ) (agree : (a b : ℕ) → a < n → b < n → f a b ≡ g a b) where
  -- the fault of entry i, by whether a number is not a piece's and whether its pair meets
  abbrev judged : ℕ → Bool → Bool → Option EntryFault
  judged i t u =
      cond t (Some NoPiece)
      (cond (eqb (top bytes i) (low bytes i)) (Some Itself)
      (cond u (cond (named bytes i (top bytes i) (low bytes i)) (Some Repeated) None) (Some Apart)))

  same_fault : (i : ℕ) → fault_at bytes f n i ≡ fault_at bytes g n i
  unfolding fault_at fault_of
  same_fault i = go (leb n (top bytes i)) refl
    where
      go : (t : Bool) → leb n (top bytes i) ≡ t → judged i t (f (top bytes i) (low bytes i)) ≡ judged i t (g (top bytes i) (low bytes i))
      go true e = refl
      go false e =
          let h = leb-false _ _ e in
          let k = in_order (one bytes i) (other bytes i) in
          ap (judged i false) (agree (top bytes i) (low bytes i) h (omega arith))

  same_faults : (i : ℕ) → faults bytes f n i ≡ faults bytes g n i
  unfolding faults
  same_faults zero = refl
  same_faults (suc i) = ap₂ (λ (l : List Faulty) (o : Option EntryFault). l ++ told_at i o) (same_faults i) (same_fault i)

  pub same_told : held_to f n bytes ≡ held_to g n bytes
  unfolding held_to missing
  same_told =
      ap₂ (λ (l : List Faulty) (m : List Pair). told (first_of l) (first_of m)) (same_faults (length bytes / 2))
      (rows_same _ _ n (λ a b h l. ap (λ (t : Bool). not (named bytes (length bytes / 2) a b) && t) (agree a b h (omega arith))))

-- ---- the call
module _ (list : List ℤ) (bytes : List ℕ) where
  pub checked_refused : (k place : ℕ) → supplied_of list (length bytes) ≡ Stopped k place → Refused k place ≡ checked_of list bytes
  unfolding checked_of
  checked_refused k place e = rw e

  pub checked_held : (n : ℕ) → supplied_of list (length bytes) ≡ Going n → held_to (meets list) n bytes ≡ checked_of list bytes
  unfolding checked_of
  checked_held n e = rw e
