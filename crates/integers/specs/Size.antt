-- The size of a whole number: `Small A z` says that z lies between -A and A.
-- A contract states it of a parameter; the readers of machine numbers take it as a leaf (proofs/Machine.antt).
-- Assumes nothing.
use Rattle.std.specs.Prelude.{ℕ, ◌≤◌, ℤ, nat_abs}

pub record Small (A : ℕ) (z : ℤ) : Type 0 where
  pub small : nat_abs z ≤ A
