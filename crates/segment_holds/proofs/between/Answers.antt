-- `segment_holds::between` meets its contract: the second end is asked only where the first allows.
use mathlib.Core.Path.{◌∙◌, sym, ap}
use Rattle.fractions.specs.Order.{turned}
use Rattle.fractions.proofs.Points.{point_turned}
use Rattle.line_segment.proofs.Answers.{between_then, between_not}
use Rattle.segment_holds.proofs.between.Goals as goal

pub end_to_point-requires : goal.end_to_point-requires
end_to_point-requires c = c.requires

pub end_to_point-requires-then-allows : goal.end_to_point-requires-then-allows
end_to_point-requires-then-allows c = c.requires

pub returns-then-allows : goal.returns-then-allows
returns-then-allows c =
    between_then _ _ _ c.join-s.ensures c.end_to_point.ensures
    (sym c.allows.ensures ∙ c.if-allows.true)
    (c.reverse.ensures ∙ ap turned c.end_to_point-then-allows.ensures ∙ sym (point_turned _ _)) c.allows-then-allows.ensures

pub returns-else-allows : goal.returns-else-allows
returns-else-allows c = between_not _ _ _ c.join-s.ensures c.end_to_point.ensures c.allows.ensures c.if-allows.false
