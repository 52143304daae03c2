-- The rows of the table of refusals by their names, and what a result says: the code's words for a verdict.
use Rattle.std.specs.Prelude.{ℕ, Option, Some, None, Result, Ok, Err}
use Rattle.charts.specs.Verdict.{Verdict, Accepted, Refused}
use Rattle.charts.specs.declared.Reason.{Reason}
use Rattle.charts.specs.declared.Reason.TheVariants.{FileEnds, Groups, Count, Kind, Coordinate, NoLength, ExtraBytes, Room, ListLength, Charts, Parts, Argument, Uneven, TooMany, Outline, OddBytes, Full, Unused, Upright}
use Rattle.charts.specs.declared.Refusal.{Refusal}

-- the number of a row
abbrev pub number : Reason → ℕ
number FileEnds = 1
number Groups = 2
number Count = 3
number Kind = 4
number Coordinate = 5
number NoLength = 6
number ExtraBytes = 7
number Room = 8
number ListLength = 9
number Charts = 10
number Parts = 11
number Argument = 12
number Uneven = 13
number TooMany = 14
number Outline = 15
number OddBytes = 16
number Full = 17
number Unused = 18
number Upright = 19

-- the number of a fault, 0 where there is none
abbrev pub fault_number : Option Reason → ℕ
fault_number None = 0
fault_number (Some reason) = number reason

-- the verdict that a result says
abbrev pub told : Result ℕ Refusal → Verdict
told (Ok n) = Accepted n
told (Err refusal) = Refused (number refusal.reason) refusal.place
