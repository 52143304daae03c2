-- `chart_c::mirtalughe_meeting` meets its contract: it fills in the fields of what the call on a list answers.
use mathlib.Core.Path.{◌∙◌, ap}
use Rattle.c_records.specs.Meetings.{fields_of}
use Rattle.chart_c.proofs.mirtalughe_meeting.Goals as goal

pub returns : goal.returns
unfolding fields_of
returns c = c.fields.ensures ∙ ap fields_of c.meeting_of-answer.ensures
