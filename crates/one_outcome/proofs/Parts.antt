-- One outcome, of the functions from which the open chart, the check of a supplier's list, a folded line, the runs of both
-- sweeps, the plain order, the batch and the calls for C are built, where a contract is an equation. Each contract is taken
-- as the check reads it.
-- Assumes nothing.
use mathlib.Core.Path.{refl, sym, ◌∙◌}
use mathlib.Core.List.{List}
use Prim.Native.Nat.{ℕ}
use Rattle.integers.specs.Outcome.{OneResult, OneOutcome}
use Rattle.charts.proofs.Refusals.{told_named, fault_named}
use Rattle.charts.proofs.Reason.number.Reads as number
use Rattle.charts.proofs.Reason.at.Reads as at
use Rattle.chart_verdict.proofs.room_of.Reads as room_of
use Rattle.open_changes.proofs.is_used.Reads as is_used
use Rattle.supplied_missing.proofs.first_missing.Reads as first_missing
use Rattle.line_refusals.proofs.drawing_of.Reads as drawing_of
use Rattle.line_pieces.proofs.put_pieces.Reads as put_pieces
use Rattle.ported_run.proofs.last_at.Reads as ported_last_at
use Rattle.ported_run.proofs.tally.Reads as tally
use Rattle.ported_run.proofs.is_empty.Reads as is_empty
use Rattle.sorted_keys.proofs.sort.Reads as sort
use Rattle.full_ends.proofs.end_x.Reads as end_x
use Rattle.full_ends.proofs.end_y.Reads as end_y
use Rattle.full_ends.proofs.order_ends.Reads as order_ends
use Rattle.full_least.proofs.meeting_at.Reads as meeting_at
use Rattle.full_least.proofs.lane_first.Reads as lane_first
use Rattle.full_examine.proofs.examine.Reads as examine
use Rattle.full_run.proofs.last_at.Reads as full_last_at
use Rattle.order_places.proofs.put.Reads as put
use Rattle.batch_refusals.proofs.need_of.Reads as need_of
use Rattle.batch_refusals.proofs.refusal_of.Reads as refusal_of
use Rattle.batch_result.proofs.put_result.Reads as put_result
use Rattle.batch_chart.proofs.sweep_chart.Reads as sweep_chart
use Rattle.c_records.proofs.fields.Reads as fields
use Rattle.c_records.proofs.values.Reads as values
use Rattle.c_records.proofs.swept_fields.Reads as swept_fields
use Rattle.c_records.proofs.checked_fields.Reads as checked_fields
use Rattle.c_records.proofs.turn_number.Reads as turn_number
use Rattle.c_records.proofs.region_number.Reads as region_number
use Rattle.c_records.proofs.located_fields.Reads as located_fields
use Rattle.c_records.proofs.half_met.Reads as half_met

-- ---- charts and the open chart
pub number_once : OneResult number.Post
number_once κ a x y s t h k = h ∙ sym k

pub at_once : OneResult at.Post
at_once κ a x y s t h k = h ∙ sym k

pub room_of_once : OneResult room_of.Post
room_of_once κ a x y s t h k = h ∙ sym k

pub is_used_once : OneResult is_used.Post
is_used_once κ a x y s t h k = h ∙ sym k

-- ---- a supplier's list and a folded line
pub first_missing_once : OneResult first_missing.Post
first_missing_once κ a x y s t h k = h ∙ sym k

pub drawing_of_once : OneResult drawing_of.Post
drawing_of_once κ a x y s t h k = told_named x y (h ∙ sym k)

pub put_pieces_once : OneOutcome put_pieces.Post (λ κ s. s.1.1.1.1.0.now)
put_pieces_once κ a x y s t h k = (refl, h ∙ sym k)

-- ---- what a run of the ported sweep tells
pub ported_last_at_once : OneResult ported_last_at.Post
ported_last_at_once κ a x y s t h k = h ∙ sym k

pub tally_once : OneResult tally.Post
tally_once κ a x y s t h k = h ∙ sym k

pub is_empty_once : OneResult is_empty.Post
is_empty_once κ a x y s t h k = h 0 ∙ sym (k 0)

-- ---- the new mode
pub sort_once : OneOutcome sort.Post (λ κ s. s.0.now)
sort_once κ a x y s t h k = (refl, h ∙ sym k)

pub end_x_once : OneResult end_x.Post
end_x_once κ a x y s t h k = h ∙ sym k

pub end_y_once : OneResult end_y.Post
end_y_once κ a x y s t h k = h ∙ sym k

pub sorted_ends_once : OneOutcome order_ends.Post (λ κ s. s.1.1.0.now)
sorted_ends_once κ a x y s t h k = (refl, h ∙ sym k)

pub meeting_at_once : OneResult meeting_at.Post
meeting_at_once κ a x y s t h k = h ∙ sym k

pub lane_first_once : OneResult lane_first.Post
lane_first_once κ a x y s t h k = h ∙ sym k

pub examine_once : OneOutcome examine.Post (λ κ s. s.1.1.0.now)
examine_once κ a x y s t h k = (refl, h ∙ sym k)

pub full_last_at_once : OneResult full_last_at.Post
full_last_at_once κ a x y s t h k = h ∙ sym k

-- ---- the plain order
pub put_once : OneOutcome put.Post (λ κ s. s.0.now)
put_once κ a x y s t h k = (refl, h ∙ sym k)

-- ---- the batch
pub need_of_once : OneResult need_of.Post
need_of_once κ a x y s t h k = h ∙ sym k

pub refusal_of_once : OneResult refusal_of.Post
refusal_of_once κ a x y s t h k = fault_named x y (h ∙ sym k)

pub put_result_once : OneOutcome put_result.Post (λ κ s. s.1.0.now)
put_result_once κ a x y s t h k = (refl, h ∙ sym k)

pub sweep_chart_once : OneOutcome sweep_chart.Post {M = List ℕ × List ℕ} (λ κ s. (s.1.0.now, s.1.1.0.now))
sweep_chart_once κ a x y s t h k = (refl, λ i. ((h.0 ∙ sym k.0) i, (h.1 ∙ sym k.1) i))

-- ---- what C is told
pub fields_once : OneResult fields.Post
fields_once κ a x y s t h k = h ∙ sym k

pub values_once : OneResult values.Post
values_once κ a x y s t h k = h ∙ sym k

pub swept_fields_once : OneResult swept_fields.Post
swept_fields_once κ a x y s t h k = h ∙ sym k

pub checked_fields_once : OneResult checked_fields.Post
checked_fields_once κ a x y s t h k = h ∙ sym k

pub turn_number_once : OneResult turn_number.Post
turn_number_once κ a x y s t h k = h ∙ sym k

pub region_number_once : OneResult region_number.Post
region_number_once κ a x y s t h k = h ∙ sym k

pub located_fields_once : OneResult located_fields.Post
located_fields_once κ a x y s t h k = h ∙ sym k

pub half_met_once : OneResult half_met.Post
half_met_once κ a x y s t h k = h ∙ sym k
