-- "For each input .. it allows one result and one content of lent memory": stated of a function's own `ensures`, as the
-- check reads it (`Reads.Post`), over its lifetimes κ, arguments a, results x and y, and parameters at exit s and t.
use Rattle.std.specs.Prelude.{◌≡◌}

module _ {K : Type 0} {A R S : K → Type 0} (Ensures : (κ : K) → A κ → R κ → S κ → Type 0) where
  abbrev pub OneResult : Type 0
  OneResult = (κ : K) (a : A κ) (x y : R κ) (s t : S κ) → Ensures κ a x s → Ensures κ a y t → x ≡ y

  -- `lent` reads what a parameter lent as `&mut` holds
  abbrev pub OneOutcome : {M : Type 0} → ((κ : K) → S κ → M) → Type 0
  OneOutcome lent =
      (κ : K) (a : A κ) (x y : R κ) (s t : S κ) → Ensures κ a x s → Ensures κ a y t → (x ≡ y) × (lent κ s ≡ lent κ t)
