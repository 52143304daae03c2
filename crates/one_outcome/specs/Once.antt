-- "One result and one content of lent memory", where a call leaves places of lent memory that nothing reads afterwards: one
-- result, and one content of what is in use. Stated of a function's own `requires` and `ensures`, as the check reads them.
use Rattle.std.specs.Prelude.{◌≡◌}

module _ {K : Type 0} {A R S : K → Type 0} (Requires : (κ : K) → A κ → Type 0) (Ensures : (κ : K) → A κ → R κ → S κ → Type 0) where
  -- `used` reads what is in use; `Kept` says that slices keep their lengths, as all do
  abbrev pub OneInUse : ((κ : K) → A κ → S κ → Type 0) → {M : Type 0} → ((κ : K) → A κ → R κ → S κ → M) → Type 0
  OneInUse Kept used =
      (κ : K) (a : A κ) (x y : R κ) (s t : S κ) → Requires κ a → Kept κ a s → Kept κ a t → Ensures κ a x s → Ensures κ a y t
      → (x ≡ y) × (used κ a x s ≡ used κ a y t)
