-- `full_examine::lane_between` meets its contract.
use mathlib.Core.Path.{◌≡◌, sym, subst, ◌∙◌}
use Rattle.line_segment.specs.Segment.{intersect_of, cramer_of}
use Rattle.ported_pieces.specs.Table.{piece_in}
use Rattle.full_points.specs.Spot.{ChartPoint}
use Rattle.full_points.proofs.Crossing.{cramer_charted}
use Rattle.full_lanes.proofs.Laning.{lane_nothing, lane_overlap, lane_crossing}
use Rattle.full_examine.proofs.lane_between.Goals as goal
use Rattle.full_examine.proofs.lane_between.Goals.{After-cramer, After-intersect}

-- the answer of the test, and Cramer's point, are those of the array's pieces
tested :
    (c : After-intersect) →
    let s = c.args in
    intersect_of (piece_in s.table.now s.i) (piece_in s.table.now s.j) ≡ c.intersect.result
tested c = sym (c.intersect.ensures ∙ rw (c.piece-a.ensures, c.piece-b.ensures))

meets :
    (c : After-cramer) →
    let s = c.args in
    c.cramer.result ≡ cramer_of (piece_in s.table.now s.i) (piece_in s.table.now s.j)
meets c = c.cramer.ensures ∙ rw (c.piece-a.ensures, c.piece-b.ensures)

pub ahead-requires : goal.ahead-requires
ahead-requires c =
    let h = c.requires in
    subst ChartPoint (sym (meets c)) (cramer_charted _ _ h.0 h.1 (tested c.before.before ∙ c.in-Crossing.is))

pub returns-in-Nothing : goal.returns-in-Nothing
returns-in-Nothing c = lane_nothing _ _ _ _ (tested c.before ∙ c.in-Nothing.is)

pub returns-in-Overlap : goal.returns-in-Overlap
returns-in-Overlap c = lane_overlap _ _ _ _ (tested c.before ∙ c.in-Overlap.is)

pub returns-in-Crossing : goal.returns-in-Crossing
returns-in-Crossing c = lane_crossing _ _ _ _ (tested c.before.before.before ∙ c.in-Crossing.is) (meets c.before) c.ahead.ensures
