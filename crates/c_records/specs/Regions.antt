-- A region's answer and a half-line's in C's numbers: 0 none, 1 on, 2 inside, 3 outside; 0 nothing, 1 a crossing and the
-- number of the turn that it carries.
use Rattle.std.specs.Prelude.{ℕ, pos, Option, None, Some}
use Rattle.half_line.specs.declared.HalfLineAnswer.{HalfLineAnswer}
use Rattle.region.specs.declared.Region.{Region}
use Rattle.region.specs.Region.{RegionAnswer}
use Rattle.c_records.specs.declared.Located.{Located}
use Rattle.c_records.specs.declared.HalfMet.{HalfMet}
use Rattle.c_records.specs.Numbers.{turn_number}
use Rattle.orientation.specs.declared.Orientation.{Orientation}

unfoldable pub region_number : Region → ℕ
region_number Region.On = 1
region_number Region.Inside = 2
region_number Region.Outside = 3

-- none where it is refused
abbrev pub region_by : Option Region → ℕ
region_by None = 0
region_by (Some r) = region_number r

unfoldable pub located_of : RegionAnswer → Located
located_of a = record { number = a.number; place = a.place; region = region_by a.region }

-- "every other field zero, .. none or nothing"; the place is zero whether it is refused or done
abbrev pub half_met_as : ℕ → Option Orientation → HalfMet
half_met_as number None = record { number = number; place = 0; meets = 0; turn = pos 0 }
half_met_as number (Some o) = record { number = number; place = 0; meets = 1; turn = turn_number o }

unfoldable pub half_met_of : HalfLineAnswer → HalfMet
half_met_of a = half_met_as a.number a.meeting
