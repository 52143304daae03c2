use mathlib.Core.Path.{◌≡◌}
use Prim.Native.Nat.{◌+◌, ◌-◌}
use borrow.Rule.Slice.PartMut.{put_mid}
use lib.ListN.{length}
use Rattle.chart_file.specs.Groups.{spelled}
use Rattle.chart_file.specs.Format.{groups}
use Rattle.chart_writer.proofs.Puts.{Left}
use Rattle.file_groups.proofs.put_groups.Given as goal

abbrev pub invariant-loop-group : goal.invariant-loop-group
invariant-loop-group l = (l.last + 1 ≡ l.at + length (spelled groups l.v)) × Left groups l.v l.at l.fn.out (l.at + l.group-index) l.rest (put_mid l.at (l.last - l.at) l.fn.out l.group-items)
