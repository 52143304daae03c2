-- The new mode's call for C: what is promised of the sweep holds of what a C caller has.
-- Assumes nothing.
use mathlib.Core.Path.{refl}
use Rattle.c_promises.proofs.FullSweep as sweep_c
use Rattle.c_promises.specs.C.{swept_read, InFields}
use Rattle.c_promises.proofs.C.{within_fields, in_fields}
pub use Rattle.c_promises.proofs.C.{fewer}
use Rattle.full_promises.specs.Sweep.{Full, EveryChart, FullPromises}
use Rattle.full_promises.proofs.Full.{full_promises}

pub allows_full_sweep_c : (κ : _) (a : _) (r : _) (s : _) → sweep_c.Post κ a r s
    → InFields Full a.0.now a.1.0 a.1.1.0.now (swept_read r) s.1.1.0.now
allows_full_sweep_c κ a r s h = record { swept = _; allowed = record { returned = refl; left = h.1 }; fields = r; returned = h.0; read = refl }

pub c_full_promises : FullPromises (InFields Full)
c_full_promises =
    record {
      sweep = in_fields Full EveryChart full_promises.sweep;
      same_without_uprights = λ list budget lent r s after beyond c o. full_promises.same_without_uprights list budget lent r s after beyond c (within_fields Full list budget lent r after o);
      same_refusals = λ list budget lent r s after beyond d o. full_promises.same_refusals list budget lent r s after beyond d (within_fields Full list budget lent r after o);
    }
