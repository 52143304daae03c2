-- `half_line::fault` meets its contract: the first fault wins.
use mathlib.Core.Path.{◌≡◌, refl, ◌∙◌}
use borrow.Author.Tests.{ne_eqb}
use mir.Facts.{to_z-of_z}
use Rattle.std.specs.Prelude.{Option, Some, None}
use Rattle.std.specs.Option.{option_or}
use Rattle.charts.specs.declared.Reason.{Reason}
use Rattle.charts.specs.Refusal.{number, fault_number}
use Rattle.charts.proofs.Refusals.{numbered}
use Rattle.half_line.specs.Call.{fault_then}
use Rattle.half_line.proofs.fault.Goals as goal

-- the first of two faults, by its number
either : (first second : Option Reason) → fault_number (option_or first second) ≡ fault_then (fault_number first) (fault_number second)
either None second = refl
either (Some r) second = rw (ne_eqb (number r) 0 (numbered r))

pub returns : goal.returns
returns c =
    let f = c.ranges in
    rw c.or.ensures (either c.fault_of.result c.args.through ∙ rw (c.fault_of.ensures, to_z-of_z f.kind, to_z-of_z f.x1, to_z-of_z f.y1, to_z-of_z f.x2, to_z-of_z f.y2))
