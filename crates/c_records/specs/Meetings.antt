-- A meeting in C's numbers: 0 nothing, 1 a crossing, 2 an overlap and its stretch.
use Rattle.std.specs.Prelude.{false, ℕ, pos}
use Rattle.line_segment.specs.declared.EndPoint.{EndPoint}
use Rattle.line_segment.specs.declared.Meeting.{Meeting}
use Rattle.line_segment.specs.declared.Meeting.TheVariants.{Nothing, Crossing, Overlap}
use Rattle.charts.specs.declared.MeetingAnswer.{MeetingAnswer}
use Rattle.c_records.specs.declared.End.{End}
use Rattle.c_records.specs.declared.Met.{Met}

abbrev pub no_end : End
no_end = record { x = pos 0; y = pos 0; included = false }

abbrev pub end_fields : EndPoint → End
end_fields e = record { x = e.x; y = e.y; included = e.included }

-- "every other field zero, .. none or nothing"
abbrev pub met_as : ℕ → ℕ → Meeting → Met
met_as number place Nothing = record { number = number; place = place; meets = 0; min = no_end; max = no_end }
met_as number place Crossing = record { number = number; place = place; meets = 1; min = no_end; max = no_end }
met_as number place (Overlap s) =
    record { number = number; place = place; meets = 2; min = end_fields s.min; max = end_fields s.max }

unfoldable pub fields_of : MeetingAnswer → Met
fields_of a = met_as a.number a.place a.meeting
