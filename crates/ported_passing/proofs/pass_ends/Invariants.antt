use mathlib.Core.Path.{◌≡◌}
use mathlib.Core.Bool.{not}
use lib.ListN.{take}
use Rattle.sweep.specs.Lists.{keep}
use Rattle.ported_arrays.specs.Numbers.{is_min}
use Rattle.ported_arrays.specs.Event.{flag, halves}
use Rattle.ported_passing.proofs.pass_ends.Given as goal

abbrev pub invariant-loop-e : goal.invariant-loop-e
invariant-loop-e l = (l.starting ≡ flag (halves (keep is_min (take l.e-index l.e-items))) l.initial.starting) × (l.finishing ≡ flag (halves (keep (λ f. not (is_min f)) (take l.e-index l.e-items))) l.initial.finishing)
