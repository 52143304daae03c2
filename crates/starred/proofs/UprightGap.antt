-- The upright gap, checked.
use mathlib.Core.Path.{ap, ap₂}
use Rattle.charts.specs.Fault.{outside, off_range, eq_z, same_ends, fault_of}
use Rattle.charts.specs.Chart.{number_at, fault_at, pieces, verdict_of}
use Rattle.charts.specs.Piece.{piece_at}
use Rattle.charts.specs.Answer.{room, listing_of}
use Rattle.naive.specs.Pairs.{bytes, over}
use Rattle.naive.proofs.Examples.{examples}
use Rattle.sweep.specs.Ported.{ported}
use Rattle.sweep.specs.Run.{Answer}
use Rattle.bentley_ottmann.specs.Swept.{saying, swept_by, listed_over, sweep_of, lent_after}
use Rattle.full_order.specs.Finer.{finer}
use Rattle.full_sweep.specs.Swept.{saying as full_saying, swept_by as full_by, listed_over as full_over, sweep_of as full_sweep_of, lent_after as full_after}
use Rattle.starred.specs.UprightGap.{gap, lent, UprightGap}
use Rattle.starred.proofs.Sweeps.{sweeps}
use Rattle.starred.proofs.Full.{gap_nine}

pub upright_gap : UprightGap
unfolding outside off_range eq_z same_ends fault_of number_at fault_at pieces verdict_of room listing_of bytes over swept_by listed_over sweep_of lent_after full_by full_over full_sweep_of full_after
upright_gap = record {
  all_pairs = examples.gap_answer;
  all_list = examples.gap_bytes;
  swept = ap₂ (saying 3 (piece_at gap)) sweeps.gap_nine sweeps.gap_examined;
  swept_list = ap (λ (a : Answer (ported 3 (piece_at gap))). over (bytes a.listed) lent) sweeps.gap_nine;
  full = ap (full_saying 3 (piece_at gap)) gap_nine;
  full_list = ap (λ (a : Answer (finer 3 (piece_at gap))). over (bytes a.listed) lent) gap_nine;
}
