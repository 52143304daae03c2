-- The contracts of `check` and `fault_number` allow one answer.
-- Assumes nothing.
use mathlib.Core.Path.{sym, ◌∙◌}
use Rattle.charts.specs.Outcome.{OneResult}
use Rattle.supplied_check.proofs.check.Reads as check
use Rattle.supplied_check.proofs.fault_number.Reads as fault_number

pub check_once : OneResult check.Post
check_once κ a x y s t h k = h ∙ sym k

pub fault_number_once : OneResult fault_number.Post
fault_number_once κ a x y s t h k = h ∙ sym k
