-- The last point that a run has visited, as it is told.
use Rattle.std.specs.Prelude.{Option, None, Some}
use Rattle.std.proofs.Math.Option as maybe
use Rattle.std.proofs.Math.Option.{none, some}
use Rattle.fractions.specs.declared.Point.{Point}

-- "the last point, or none after zero steps"
abbrev pub as_last : maybe.Option Point → Option Point
as_last none = None
as_last (some p) = Some p
