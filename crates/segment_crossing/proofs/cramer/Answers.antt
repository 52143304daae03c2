-- `segment_crossing::cramer` meets its contract: run, rise and moment bound the three determinants.
use mathlib.Core.Path.{◌∙◌}
use Rattle.line_segment.specs.Segment.{cramer_of}
use Rattle.line_segment.proofs.CramersRule.{kept, back, minor_same, over_same}
use Rattle.segment_crossing.proofs.cramer.Goals as goal

pub minor-x-requires : goal.minor-x-requires
minor-x-requires c = record { small = kept c.run-run_a.ensures.1 tt; small_2 = kept c.run-run_b.ensures.1 tt; small_3 = kept c.moment-moment_a.ensures.1 tt; small_4 = (kept c.moment-moment_b.ensures.1 tt) }

pub minor-y-requires : goal.minor-y-requires
minor-y-requires c = record { small = kept c.rise-rise_a.ensures.1 tt; small_2 = kept c.rise-rise_b.ensures.1 tt; small_3 = kept c.moment-moment_a.ensures.1 tt; small_4 = (kept c.moment-moment_b.ensures.1 tt) }

pub minor-requires : goal.minor-requires
minor-requires c = record { small = kept c.run-run_a.ensures.1 tt; small_2 = kept c.rise-rise_a.ensures.1 tt; small_3 = kept c.run-run_b.ensures.1 tt; small_4 = (kept c.rise-rise_b.ensures.1 tt) }

pub over-requires : goal.over-requires
over-requires c = record { small = kept c.minor-x.ensures.1 tt; small_2 = (kept c.minor-y.ensures.1 tt) }

pub returns : goal.returns
unfolding cramer_of
returns c =
    let run_a = back c.run-run_a.ensures.1 c.run-run_a.ensures.0 tt in
    let run_b = back c.run-run_b.ensures.1 c.run-run_b.ensures.0 tt in
    let rise_a = back c.rise-rise_a.ensures.1 c.rise-rise_a.ensures.0 tt in
    let rise_b = back c.rise-rise_b.ensures.1 c.rise-rise_b.ensures.0 tt in
    let moment_a = back c.moment-moment_a.ensures.1 c.moment-moment_a.ensures.0 tt in
    let moment_b = back c.moment-moment_b.ensures.1 c.moment-moment_b.ensures.0 tt in
    c.over.ensures
    ∙ over_same
    (back c.minor-x.ensures.1 c.minor-x.ensures.0 tt ∙ minor_same run_a run_b moment_a moment_b)
    (back c.minor-y.ensures.1 c.minor-y.ensures.0 tt ∙ minor_same rise_a rise_b moment_a moment_b)
    (back c.minor.ensures.1 c.minor.ensures.0 tt ∙ minor_same run_a rise_a run_b rise_b)
