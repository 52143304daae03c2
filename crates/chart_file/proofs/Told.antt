-- A result is known by what it says of a place.
use mathlib.Core.Path.{◌≡◌, ap}
use Prim.Native.Nat.{ℕ}
use lib.IntN.{ℤ}
use Rattle.std.specs.Prelude.{Some, Result, Ok, Err}
use Rattle.charts.specs.declared.Reason.{Reason}
use Rattle.charts.specs.Refusal.{number}
use Rattle.charts.proofs.Refusals.{fault_named}
use Rattle.chart_file.specs.declared.Found.{Found}
use Rattle.chart_file.specs.Found.{Groups, Value, Fault, Number, Read, Refused, groups_told, number_told}

reason_named : (a b : Reason) → number a ≡ number b → a ≡ b
reason_named a b e = let q : Some a ≡ Some b = fault_named (Some a) (Some b) e in cc

pub groups_named : (r s : Result (Found ℕ) Reason) → groups_told r ≡ groups_told s → r ≡ s
groups_named (Ok a) (Ok b) e = ap found e
  where
    found : Groups → Result (Found ℕ) Reason
    found (Value v n) = Ok (record { value = v; next = n })
    found (Fault f) = Ok a
groups_named (Ok a) (Err k) e = cc
groups_named (Err k) (Ok b) e = cc
groups_named (Err j) (Err k) e = ap Err (reason_named j k cc)

pub number_named : (r s : Result (Found ℤ) Reason) → number_told r ≡ number_told s → r ≡ s
number_named (Ok a) (Ok b) e = ap found e
  where
    found : Number → Result (Found ℤ) Reason
    found (Read v n) = Ok (record { value = v; next = n })
    found (Refused f) = Ok a
number_named (Ok a) (Err k) e = cc
number_named (Err k) (Ok b) e = cc
number_named (Err j) (Err k) e = ap Err (reason_named j k cc)
