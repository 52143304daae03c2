-- The byte at a place, or that the file ends before it.
use mathlib.Core.Path.{◌≡◌, refl, sym, ◌∙◌}
use mathlib.Core.List.{List}
use Prim.Native.Nat.{ℕ, ◌≤◌, ◌<◌}
use native.Mathlib.Decide.{dec_lt}
use native.Mathlib.Omega.{arith}
use lib.ListN.{length, get_or}
use Rattle.std.specs.Prelude.{Option, Some, None, Ok, Err, slice_get}
use Rattle.std.specs.Option.{ok_or}
use Rattle.std.proofs.lemmas.Option.{slice_get_within, get_or_from_slice_get, slice_get-get_or}
use Rattle.charts.specs.declared.Reason.{Reason}

module _ (s : List ℕ) (at : ℕ) (due : Reason) where
  pub byte_there : (b : ℕ) → Ok b ≡ ok_or (slice_get s at) due → (at < length s) × (b ≡ get_or s at 0)
  byte_there b = go (slice_get s at) refl
    where
      go : (o : Option ℕ) → slice_get s at ≡ o → Ok b ≡ ok_or o due → (at < length s) × (b ≡ get_or s at 0)
      go None q h = cc
      go (Some x) q h = let z : b ≡ x = cc in (slice_get_within s at x q, z ∙ sym (get_or_from_slice_get s at x 0 q))

  pub byte_due : (r : Reason) → Err r ≡ ok_or (slice_get s at) due → (length s ≤ at) × (r ≡ due)
  byte_due r h = elim (dec_lt at (length s)) [
    | yes l ↦ let q = slice_get-get_or s at 0 l in cc
    | no l ↦ (omega arith, named (slice_get s at) refl h)
  ]
    where
      named : (o : Option ℕ) → slice_get s at ≡ o → Err r ≡ ok_or o due → r ≡ due
      named None q h = cc
      named (Some x) q h = cc
