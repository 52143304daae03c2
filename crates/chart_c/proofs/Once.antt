-- Each call's contract allows one answer, and one content of what is lent.
use mathlib.Core.Path.{sym, ◌∙◌}
use mathlib.Core.List.{List}
use Prim.Native.Nat.{ℕ}
use Rattle.charts.specs.Outcome.{OneResult, OneOutcome}
use Rattle.chart_c.proofs.mirtalughe_orient.Reads as orient
use Rattle.chart_c.proofs.mirtalughe_compare_points.Reads as compare_points
use Rattle.chart_c.proofs.mirtalughe_read.Reads as read
use Rattle.chart_c.proofs.mirtalughe_write.Reads as write
use Rattle.chart_c.proofs.mirtalughe_fold.Reads as fold
use Rattle.chart_c.proofs.mirtalughe_meeting.Reads as meeting
use Rattle.chart_c.proofs.mirtalughe_place.Reads as place
use Rattle.chart_c.proofs.mirtalughe_all_pairs.Reads as all_pairs
use Rattle.chart_c.proofs.mirtalughe_plain_order.Reads as plain_order
use Rattle.chart_c.proofs.mirtalughe_sweep.Reads as sweep
use Rattle.chart_c.proofs.mirtalughe_sweep_batch.Reads as sweep_batch
use Rattle.chart_c.proofs.mirtalughe_full_sweep.Reads as full_sweep
use Rattle.chart_c.proofs.mirtalughe_check.Reads as check
use Rattle.chart_c.proofs.mirtalughe_region.Reads as region
use Rattle.chart_c.proofs.mirtalughe_half_line.Reads as half_line
use Rattle.chart_c.proofs.mirtalughe_open_empty.Reads as open_empty
use Rattle.chart_c.proofs.mirtalughe_open_add.Reads as open_add
use Rattle.chart_c.proofs.mirtalughe_open_drop.Reads as open_drop
use Rattle.chart_c.proofs.mirtalughe_open_used.Reads as open_used
use Rattle.chart_c.proofs.mirtalughe_open_pairs.Reads as open_pairs

pub orient_once : OneResult orient.Post
orient_once κ a x y s t h k = h ∙ sym k

pub compare_points_once : OneResult compare_points.Post
compare_points_once κ a x y s t h k = h ∙ sym k

pub read_once : OneOutcome read.Post (λ κ s. s.1.0.now)
read_once κ a x y s t h k = (h.answer ∙ sym k.answer, h.content ∙ sym k.content)

pub write_once : OneOutcome write.Post (λ κ s. s.1.0.now)
write_once κ a x y s t h k = (h.answer ∙ sym k.answer, h.content ∙ sym k.content)

pub fold_once : OneOutcome fold.Post (λ κ s. s.1.1.1.0.now)
fold_once κ a x y s t h k = (h.answer ∙ sym k.answer, h.content ∙ sym k.content)

pub meeting_once : OneResult meeting.Post
meeting_once κ a x y s t h k = h ∙ sym k

pub place_once : OneResult place.Post
place_once κ a x y s t h k = h ∙ sym k

pub all_pairs_once : OneOutcome all_pairs.Post (λ κ s. s.1.0.now)
all_pairs_once κ a x y s t h k = (h.0 ∙ sym k.0, h.1 ∙ sym k.1)

pub plain_order_once : OneOutcome plain_order.Post (λ κ s. s.1.0.now)
plain_order_once κ a x y s t h k = (h.0 ∙ sym k.0, h.1 ∙ sym k.1)

pub sweep_once : OneOutcome sweep.Post (λ κ s. s.1.1.0.now)
sweep_once κ a x y s t h k = (h.0 ∙ sym k.0, h.1 ∙ sym k.1)

pub full_sweep_once : OneOutcome full_sweep.Post (λ κ s. s.1.1.0.now)
full_sweep_once κ a x y s t h k = (h.0 ∙ sym k.0, h.1 ∙ sym k.1)

pub sweep_batch_once : OneOutcome sweep_batch.Post {M = List ℕ × List ℕ} (λ κ s. (s.1.1.0.now, s.1.1.1.0.now))
sweep_batch_once κ a x y s t h k =
    (h.answer ∙ sym k.answer, λ i. ((h.bytes ∙ sym k.bytes) i, (h.told_is ∙ sym k.told_is) i))

pub check_once : OneResult check.Post
check_once κ a x y s t h k = h ∙ sym k

pub region_once : OneResult region.Post
region_once κ a x y s t h k = h ∙ sym k

pub half_line_once : OneResult half_line.Post
half_line_once κ a x y s t h k = h ∙ sym k

pub open_empty_once : OneOutcome open_empty.Post (λ κ s. s.0.now)
open_empty_once κ a x y s t h k = (h.0 ∙ sym k.0, h.1 ∙ sym k.1)

pub open_add_once : OneOutcome open_add.Post (λ κ s. s.0.now)
open_add_once κ a x y s t h k = (h.0 ∙ sym k.0, h.1 ∙ sym k.1)

pub open_drop_once : OneOutcome open_drop.Post (λ κ s. s.0.now)
open_drop_once κ a x y s t h k = (h.0 ∙ sym k.0, h.1 ∙ sym k.1)

pub open_used_once : OneResult open_used.Post
open_used_once κ a x y s t h k = h ∙ sym k

pub open_pairs_once : OneOutcome open_pairs.Post (λ κ s. s.1.0.now)
open_pairs_once κ a x y s t h k = (h.0 ∙ sym k.0, h.1 ∙ sym k.1)
