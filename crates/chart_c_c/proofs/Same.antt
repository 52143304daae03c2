-- Each call for C has the very contract of the library's call of its name, so what is proved of that holds of this.
use mathlib.Core.Path.{◌≡◌, refl}
use Rattle.chart_c.proofs.mirtalughe_orient.Reads as orient
use Rattle.chart_c_c.proofs.mirtalughe_orient.Reads as orient_c
use Rattle.chart_c.proofs.mirtalughe_compare_points.Reads as compare_points
use Rattle.chart_c_c.proofs.mirtalughe_compare_points.Reads as compare_points_c
use Rattle.chart_c.proofs.mirtalughe_read.Reads as read
use Rattle.chart_c_c.proofs.mirtalughe_read.Reads as read_c
use Rattle.chart_c.proofs.mirtalughe_write.Reads as write
use Rattle.chart_c_c.proofs.mirtalughe_write.Reads as write_c
use Rattle.chart_c.proofs.mirtalughe_fold.Reads as fold
use Rattle.chart_c_c.proofs.mirtalughe_fold.Reads as fold_c
use Rattle.chart_c.proofs.mirtalughe_meeting.Reads as meeting
use Rattle.chart_c_c.proofs.mirtalughe_meeting.Reads as meeting_c
use Rattle.chart_c.proofs.mirtalughe_place.Reads as place
use Rattle.chart_c_c.proofs.mirtalughe_place.Reads as place_c
use Rattle.chart_c.proofs.mirtalughe_all_pairs.Reads as all_pairs
use Rattle.chart_c_c.proofs.mirtalughe_all_pairs.Reads as all_pairs_c
use Rattle.chart_c.proofs.mirtalughe_plain_order.Reads as plain_order
use Rattle.chart_c_c.proofs.mirtalughe_plain_order.Reads as plain_order_c
use Rattle.chart_c.proofs.mirtalughe_sweep.Reads as sweep
use Rattle.chart_c_c.proofs.mirtalughe_sweep.Reads as sweep_c
use Rattle.chart_c.proofs.mirtalughe_sweep_batch.Reads as sweep_batch
use Rattle.chart_c_c.proofs.mirtalughe_sweep_batch.Reads as sweep_batch_c
use Rattle.chart_c.proofs.mirtalughe_full_sweep.Reads as full_sweep
use Rattle.chart_c_c.proofs.mirtalughe_full_sweep.Reads as full_sweep_c
use Rattle.chart_c.proofs.mirtalughe_check.Reads as check
use Rattle.chart_c_c.proofs.mirtalughe_check.Reads as check_c
use Rattle.chart_c.proofs.mirtalughe_region.Reads as region
use Rattle.chart_c_c.proofs.mirtalughe_region.Reads as region_c
use Rattle.chart_c.proofs.mirtalughe_half_line.Reads as half_line
use Rattle.chart_c_c.proofs.mirtalughe_half_line.Reads as half_line_c
use Rattle.chart_c.proofs.mirtalughe_open_empty.Reads as open_empty
use Rattle.chart_c_c.proofs.mirtalughe_open_empty.Reads as open_empty_c
use Rattle.chart_c.proofs.mirtalughe_open_add.Reads as open_add
use Rattle.chart_c_c.proofs.mirtalughe_open_add.Reads as open_add_c
use Rattle.chart_c.proofs.mirtalughe_open_drop.Reads as open_drop
use Rattle.chart_c_c.proofs.mirtalughe_open_drop.Reads as open_drop_c
use Rattle.chart_c.proofs.mirtalughe_open_used.Reads as open_used
use Rattle.chart_c_c.proofs.mirtalughe_open_used.Reads as open_used_c
use Rattle.chart_c.proofs.mirtalughe_open_pairs.Reads as open_pairs
use Rattle.chart_c_c.proofs.mirtalughe_open_pairs.Reads as open_pairs_c

pub orient_same : orient_c.Post ≡ orient.Post
orient_same = refl

pub compare_points_same : compare_points_c.Post ≡ compare_points.Post
compare_points_same = refl

pub read_same : read_c.Post ≡ read.Post
read_same = refl

pub write_same : write_c.Post ≡ write.Post
write_same = refl

pub fold_same : fold_c.Post ≡ fold.Post
fold_same = refl

pub meeting_same : meeting_c.Post ≡ meeting.Post
meeting_same = refl

pub place_same : place_c.Post ≡ place.Post
place_same = refl

pub all_pairs_same : all_pairs_c.Post ≡ all_pairs.Post
all_pairs_same = refl

pub plain_order_same : plain_order_c.Post ≡ plain_order.Post
plain_order_same = refl

pub sweep_same : sweep_c.Post ≡ sweep.Post
sweep_same = refl

pub sweep_batch_same : sweep_batch_c.Post ≡ sweep_batch.Post
sweep_batch_same = refl

pub full_sweep_same : full_sweep_c.Post ≡ full_sweep.Post
full_sweep_same = refl

pub check_same : check_c.Post ≡ check.Post
check_same = refl

pub region_same : region_c.Post ≡ region.Post
region_same = refl

pub half_line_same : half_line_c.Post ≡ half_line.Post
half_line_same = refl

pub open_empty_same : open_empty_c.Post ≡ open_empty.Post
open_empty_same = refl

pub open_add_same : open_add_c.Post ≡ open_add.Post
open_add_same = refl

pub open_drop_same : open_drop_c.Post ≡ open_drop.Post
open_drop_same = refl

pub open_used_same : open_used_c.Post ≡ open_used.Post
open_used_same = refl

pub open_pairs_same : open_pairs_c.Post ≡ open_pairs.Post
open_pairs_same = refl
