-- What is promised of every call's refusals, over its inputs I and its outcomes O: what it returns and leaves.
-- `Refuse` says which number and place are due to an input by the table of refusals, `Accept` that none is; `whole` is the
-- outcome of a refusal.
use Rattle.std.specs.Prelude.{◌≡◌, ◌↔◌, ℕ, ◌<◌}

module _ {I O : Type 0}
    (Refuse : I → ℕ → ℕ → Type 0)
    (Accept : I → Type 0)
    (Allowed : I → O → Type 0)
    (number place : O → ℕ)
    (whole : I → ℕ → ℕ → O) where
  -- "given exactly when"
  abbrev pub RefusesExactly : Type 0
  RefusesExactly =
      (i : I) (o : O) → Allowed i o → (k p : ℕ) → 0 < k → ((number o ≡ k) × (place o ≡ p)) ↔ Refuse i k p

  -- "A refusal returns its number and a place, with every other field zero, "no", none or nothing, and writes nothing into
  -- lent memory."
  abbrev pub RefusesWhole : Type 0
  RefusesWhole = (i : I) (o : O) → Allowed i o → (k p : ℕ) → Refuse i k p → o ≡ whole i k p

  -- "0: done"; "Done has place zero"
  abbrev pub DoneExactly : Type 0
  DoneExactly = (i : I) (o : O) → Allowed i o → ((number o ≡ 0) ↔ Accept i) × (Accept i → place o ≡ 0)

  pub record RefusalPromises : Type 0 where
    pub refuses_exactly : RefusesExactly
    pub refuses_whole : RefusesWhole
    pub done_exactly : DoneExactly
