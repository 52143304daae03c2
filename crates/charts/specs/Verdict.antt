-- What is said of a list before any work on it.
use Rattle.std.specs.Prelude.{ℕ}

pub data Verdict : Type 0 where
  -- a chart of so many pieces
  Accepted : ℕ → Verdict
  -- the number and the place of its first fault
  Refused : ℕ → ℕ → Verdict
