-- Each public function's contract allows one result, whatever the arguments: `OneResult` of the contract itself.
-- Assumes nothing.
use mathlib.Core.Path.{sym, ◌∙◌}
use Rattle.charts.specs.Outcome.{OneResult}
use Rattle.charts.proofs.Refusals.{told_named}
use Rattle.chart_verdict.proofs.verdict_of.Reads as verdict_of
use Rattle.chart_verdict.proofs.listing_of.Reads as listing_of
use Rattle.chart_verdict.proofs.pair_verdict_of.Reads as pair_verdict_of
use Rattle.chart_verdict.proofs.meeting_of.Reads as meeting_of
use Rattle.chart_verdict.proofs.done.Reads as done
use Rattle.chart_verdict.proofs.refused.Reads as refused

pub verdict_of_once : OneResult verdict_of.Post
verdict_of_once κ a x y s t h k = told_named x y (h ∙ sym k)

pub listing_of_once : OneResult listing_of.Post
listing_of_once κ a x y s t h k = told_named x y (h ∙ sym k)

pub pair_verdict_of_once : OneResult pair_verdict_of.Post
pair_verdict_of_once κ a x y s t h k = told_named x y (h ∙ sym k)

pub meeting_of_once : OneResult meeting_of.Post
meeting_of_once κ a x y s t h k = h ∙ sym k

pub done_once : OneResult done.Post
done_once κ a x y s t h k = h ∙ sym k

pub refused_once : OneResult refused.Post
refused_once κ a x y s t h k = h ∙ sym k
