-- The fault of an entry, case by case, and the first of the faults.
-- Assumes nothing.
use mathlib.Core.Path.{◌≡◌, refl, sym, ap, ap₂, ◌∙◌, subst}
use mathlib.Core.Bool.{Bool, true, false, cond}
use mathlib.Core.List.{List, [], ◌++◌}
use mathlib.Core.Logic.{⊎_elim}
use Prim.Native.Nat.{ℕ, zero, suc, ◌/◌, ◌≤◌, ◌<◌}
use native.Mathlib.Nat.{eq-or-lt_of_le}
use native.Mathlib.Omega.{arith}
use borrow.Author.Tests.{eq-eqb, ne_eqb, ltb-true, ltb-false, le-leb, lt-leb}
use lib.Dec.{ltb}
use lib.ListN.{length}
use Rattle.std.specs.Prelude.{Option, None, Some}
use Rattle.supplied.specs.declared.EntryFault.{EntryFault}
use Rattle.supplied.specs.declared.EntryFault.TheVariants.{NoPiece, Itself, Apart, Repeated}
use Rattle.supplied.specs.Entries.{greater, lesser, first_of, told_at, Faulty, top, low, named, fault_of, fault_at, faults}
use Rattle.supplied.specs.Marks.{Marked, Walked}
use Rattle.supplied.proofs.Firsts.{first_stays}

pub in_order : (x y : ℕ) → lesser x y ≤ greater x y
unfolding greater lesser
in_order x y = go (ltb x y) refl
  where
    go : (t : Bool) → ltb x y ≡ t → cond t x y ≤ cond t y x
    go true e = let h = ltb-true x y e in omega arith
    go false e = let h = ltb-false x y e in omega arith

module _ (bytes : List ℕ) (meets : ℕ → ℕ → Bool) (n i : ℕ) where
  abbrev a : ℕ
  a = top bytes i

  abbrev b : ℕ
  b = low bytes i

  -- ---- the fault of an entry
  pub no_piece : n ≤ a → fault_at bytes meets n i ≡ Some NoPiece
  unfolding fault_at fault_of
  no_piece h = rw (le-leb _ _ h)

  pub itself : a < n → a ≡ b → fault_at bytes meets n i ≡ Some Itself
  unfolding fault_at fault_of
  itself h e = rw (lt-leb _ _ h, eq-eqb _ _ e)

  pub apart : a < n → ¬ (a ≡ b) → meets a b ≡ false → fault_at bytes meets n i ≡ Some Apart
  unfolding fault_at fault_of
  apart h d m = rw (lt-leb _ _ h, ne_eqb _ _ d, m)

  pub repeated : a < n → ¬ (a ≡ b) → meets a b ≡ true → named bytes i a b ≡ true → fault_at bytes meets n i ≡ Some Repeated
  unfolding fault_at fault_of
  repeated h d m e = rw (lt-leb _ _ h, ne_eqb _ _ d, m, e)

  pub good : a < n → ¬ (a ≡ b) → meets a b ≡ true → named bytes i a b ≡ false → fault_at bytes meets n i ≡ None
  unfolding fault_at fault_of
  good h d m e = rw (lt-leb _ _ h, ne_eqb _ _ d, m, e)

-- ---- the faults of the entries
module _ (bytes : List ℕ) (meets : ℕ → ℕ → Bool) (n : ℕ) where
  pub faults_none : faults bytes meets n 0 ≡ []
  unfolding faults
  faults_none = refl

  pub faults_good : (i : ℕ) → faults bytes meets n i ≡ [] → fault_at bytes meets n i ≡ None → faults bytes meets n (suc i) ≡ []
  unfolding faults
  faults_good i e f = rw (e, f)

  pub faults_first : (i m : ℕ) (k : EntryFault) → faults bytes meets n i ≡ [] → fault_at bytes meets n i ≡ Some k → i < m → first_of (faults bytes meets n m) ≡ Some (i, k)
  unfolding faults
  faults_first i zero k e f h = absurd (omega arith)
  faults_first i (suc m) k e f h =
      ⊎_elim
      (λ (q : i ≡ m). ap (λ (j : ℕ). first_of (faults bytes meets n (suc j))) (sym q) ∙ ap₂ (λ (l : List Faulty) (o : Option EntryFault). first_of (l ++ told_at i o)) e f)
      (λ (l : i < m). first_stays (faults bytes meets n m) _ (i, k) (faults_first i m k e f l))
      (eq-or-lt_of_le {n = i} {m = m} (omega arith))

  -- ---- the walk ends at a fault, or with none
  pub walked_fault : (marks : List Bool) (i : ℕ) (k : EntryFault) → faults bytes meets n i ≡ [] → fault_at bytes meets n i ≡ Some k → i < length bytes / 2 → Walked meets n bytes marks (Some (i, k))
  walked_fault marks i k e f h = record { first = sym (faults_first i (length bytes / 2) k e f h); marked = λ q. cc }

  pub walked_through : (marks : List Bool) (i : ℕ) → i ≡ length bytes / 2 → faults bytes meets n i ≡ [] → Marked marks bytes i → Walked meets n bytes marks None
  walked_through marks i q e m =
      record { first = sym (ap first_of (sym (ap (faults bytes meets n) q) ∙ e)); marked = λ _. subst (Marked marks bytes) q m }
