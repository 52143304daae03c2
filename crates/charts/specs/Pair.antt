-- The pair calls: two pieces as ten numbers, and what is answered of them.
use Rattle.std.specs.Prelude.{cond, not, List, eqb, ℤ, length}
use Rattle.line_segment.specs.declared.Meeting.{Meeting}
use Rattle.line_segment.specs.declared.Meeting.TheVariants.{Nothing}
use Rattle.line_segment.specs.Segment.{intersect_of}
use Rattle.charts.specs.Chart.{verdict_of}
use Rattle.charts.specs.Piece.{piece_at}
use Rattle.charts.specs.declared.MeetingAnswer.{MeetingAnswer}
use Rattle.charts.specs.Verdict.{Verdict}
use Rattle.charts.specs.Verdict.{Accepted, Refused}

-- "The pair calls take ten numbers: any other length is 9."
unfoldable pub pair_verdict_of : List ℤ → Verdict
pair_verdict_of list = cond (not (eqb (length list) 10)) (Refused 9 0) (verdict_of list)

-- "A refusal returns its number and a place, with every other field .. nothing"
abbrev pub meeting_answer : Meeting → Verdict → MeetingAnswer
meeting_answer meeting (Accepted n) = record { number = 0; place = 0; meeting = meeting }
meeting_answer meeting (Refused number place) = record { number = number; place = place; meeting = Nothing }

-- the test of two pieces, the first one asking
unfoldable pub meeting_of : List ℤ → MeetingAnswer
meeting_of list = meeting_answer (intersect_of (piece_at list 0) (piece_at list 1)) (pair_verdict_of list)
