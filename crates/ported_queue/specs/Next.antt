-- The next point of the arrays as the code's answer.
use Rattle.std.specs.Prelude.{List, ℕ, ℤ, Option, None, Some}
use Rattle.std.proofs.Math.Option as maybe
use Rattle.std.proofs.Math.Option.{none, some}
use Rattle.fractions.specs.declared.Point.{Point}
use Rattle.ported_pieces.specs.Table.{chart_in}
use Rattle.ported_arrays.specs.Run.{next_by'}

abbrev pub as_next : maybe.Option Point → Option Point
as_next none = None
as_next (some p) = Some p

unfoldable pub next_by : ℕ → List ℤ → List ℕ → List ℕ → Option Point
next_by n table ends waiting = as_next (next_by' (chart_in n table) ends waiting)
