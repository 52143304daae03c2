-- What a C caller reads in the fields of a sweep, so that all promises of the sweep hold of the call for C.
use Rattle.std.specs.Prelude.{◌≡◌, Bool, true, false, List, ℕ, ℤ, Option, None, Some}
use Rattle.fractions.specs.declared.Point.{Point}
use Rattle.bentley_ottmann.specs.declared.Swept.{Swept}
use Rattle.c_records.specs.declared.SweptFields.{SweptFields}
use Rattle.c_records.specs.Sweeps.{swept_fields}
use Rattle.promises.specs.Sweep.{Outcome}

-- where `visited`, the last point is x/d, y/d
abbrev pub last_read : Bool → Point → Option Point
last_read true p = Some p
last_read false p = None

abbrev pub swept_read : SweptFields → Swept
swept_read r =
    record {
      number = r.number;
      place = r.place;
      pairs = r.pairs;
      steps = r.steps;
      ended = r.ended;
      complete = r.complete;
      last = last_read r.visited (record { x = r.x; y = r.y; d = r.d });
      examined = r.examined;
    }

-- what the contract of a call for C allows that fills in the fields of what a sweep returned: of `mirtalughe_sweep` the ported
-- sweep's
pub record InFields (Allowed : Outcome) (list : List ℤ) (budget : ℕ) (lent : List ℕ) (s : Swept) (after : List ℕ) : Type 0 where
  pub swept : Swept
  pub allowed : Allowed list budget lent swept after
  pub fields : SweptFields
  pub returned : fields ≡ swept_fields swept
  pub read : s ≡ swept_read fields
