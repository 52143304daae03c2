-- What a number is that passes the test of `outside`: a kind from 0 to 3, a coordinate that i16 holds.
-- Assumes nothing.
use mathlib.Core.Path.{◌≡◌, refl}
use mathlib.Core.Bool.{false}
use mathlib.Core.Logic.{inl, inr}
use Prim.Native.Nat.{◌≤◌}
use lib.Dec.{leb→le}
use lib.IntN.{ℤ, pos, negsuc, neg_ℤ, nat_abs}
use lib.Signed.{◌≤ℤ◌}
use mir.Syntax.{w16}
use mir.Val.{SFits}
use Rattle.integers.specs.Size.{Small}
use Rattle.integers.proofs.Order.{≮→≥}
use Rattle.integers.proofs.Sizes.{small_of}
use Rattle.integers.proofs.Machine.{m_fits, m_small}
use Rattle.charts.specs.Fault.{range, outside}
use Rattle.charts.specs.Piece.{kind_of, coordinate_of}
use Rattle.charts.proofs.Rows.{says_outside}

module _ (low high v : ℤ) (e : outside low high v ≡ false) where
  at_least : low ≤ℤ v
  at_least = ≮→≥ (λ h. (says_outside low high v).no e (inl h))

  at_most : v ≤ℤ high
  at_most = ≮→≥ (λ h. (says_outside low high v).no e (inr h))

pub kind_in : (v : ℤ) → outside (pos 0) (pos 3) v ≡ false → (v ≡ pos (nat_abs v)) × (nat_abs v ≤ 3)
kind_in v e = go v (at_least (pos 0) (pos 3) v e) (at_most (pos 0) (pos 3) v e)
  where
    go : (v : ℤ) → pos 0 ≤ℤ v → v ≤ℤ pos 3 → (v ≡ pos (nat_abs v)) × (nat_abs v ≤ 3)
    go (pos n) h k = (refl, leb→le n 3 k.le)
    go (negsuc n) h k = absurd h.le

pub kind_kept : (v : ℤ) → outside (pos 0) (pos 3) v ≡ false → kind_of v ≡ nat_abs v
unfolding kind_of
kind_kept v e = rw e

pub coordinate_fits : (v : ℤ) → outside (neg_ℤ range) range v ≡ false → SFits w16 v
coordinate_fits v e =
    let s : Small 32767 v = small_of (at_least (neg_ℤ range) range v e) (at_most (neg_ℤ range) range v e) in
    m_fits (m_small s) tt

pub coordinate_kept : (v : ℤ) → outside (neg_ℤ range) range v ≡ false → coordinate_of v ≡ v
unfolding coordinate_of
coordinate_kept v e = rw e
