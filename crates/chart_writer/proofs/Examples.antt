-- The groups of numbers at powers of 128, and the file of the scope's two pieces, computed.
use mathlib.Core.Path.{◌≡◌, refl}
use mathlib.Core.List.{[], ◌∷◌}
use lib.IntN.{pos, negsuc}
use lib.Count.{count_leading_zeros}
use Rattle.charts.specs.Fault.{outside, off_range, eq_z, same_ends, fault_of}
use Rattle.charts.specs.Chart.{number_at, fault_at, pieces, verdict_of}
use Rattle.charts.specs.Verdict.{Accepted, Refused}
use Rattle.chart_file.specs.Groups.{spelled}
use Rattle.chart_file.specs.Coordinate.{stored}
use Rattle.chart_file.specs.Format.{bytes_of, bytes_from, file_of}
use Rattle.chart_writer.specs.Zeros.{groups_of, groups_by}
use Rattle.chart_writer.specs.Writing.{writing_of}

pub record Examples : Type 0 where
  pub none : groups_by 32 0 ≡ 1
  pub one : groups_by 32 127 ≡ 1
  pub two : groups_by 32 128 ≡ 2
  pub two_still : groups_by 32 16383 ≡ 2
  pub three : groups_by 32 16384 ≡ 3
  -- "bytes 02 03 00 00 08 08 03 00 08 08 00": (0,0)-(4,4) and (0,4)-(4,0), kind 3
  pub crossing : file_of (pos 3 ∷ pos 0 ∷ pos 0 ∷ pos 4 ∷ pos 4 ∷ pos 3 ∷ pos 0 ∷ pos 4 ∷ pos 4 ∷ pos 0 ∷ [])
      ≡ 0x02 ∷ 0x03 ∷ 0x00 ∷ 0x00 ∷ 0x08 ∷ 0x08 ∷ 0x03 ∷ 0x00 ∷ 0x08 ∷ 0x08 ∷ 0x00 ∷ []
  -- the empty chart, with room for the longest file and with one byte less
  pub empty : writing_of [] 2602 ≡ Accepted 0
  pub no_room : writing_of [] 2601 ≡ Refused 8 0
  -- a fault of the list comes before the room
  pub fault_first : writing_of (pos 4 ∷ pos 0 ∷ pos 0 ∷ pos 0 ∷ negsuc 0 ∷ []) 0 ≡ Refused 4 0

pub examples : Examples
unfolding groups_by groups_of count_leading_zeros file_of bytes_from bytes_of spelled stored writing_of verdict_of pieces fault_at number_at fault_of off_range outside same_ends eq_z
examples = record { none = refl; one = refl; two = refl; two_still = refl; three = refl; crossing = refl; empty = refl; no_room = refl; fault_first = refl }
