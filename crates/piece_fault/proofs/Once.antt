-- Each public function's contract allows one result, whatever the arguments: `OneResult` of the contract itself.
-- Assumes nothing.
use mathlib.Core.Path.{sym, ◌∙◌}
use Rattle.charts.specs.Outcome.{OneResult}
use Rattle.charts.proofs.Refusals.{fault_named}
use Rattle.piece_fault.proofs.is_outside.Reads as is_outside
use Rattle.piece_fault.proofs.is_off_range.Reads as is_off_range
use Rattle.piece_fault.proofs.has_same_ends.Reads as has_same_ends
use Rattle.piece_fault.proofs.fault_of.Reads as fault_of

pub is_outside_once : OneResult is_outside.Post
is_outside_once κ a x y s t h k = h ∙ sym k

pub is_off_range_once : OneResult is_off_range.Post
is_off_range_once κ a x y s t h k = h ∙ sym k

pub has_same_ends_once : OneResult has_same_ends.Post
has_same_ends_once κ a x y s t h k = h ∙ sym k

pub fault_of_once : OneResult fault_of.Post
fault_of_once κ a x y s t h k = fault_named x y (h ∙ sym k)
