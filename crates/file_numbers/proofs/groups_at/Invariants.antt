use Rattle.std.proofs.Common.{◌≤◌, ◌<◌, ◌+◌, length}
use Rattle.chart_file.proofs.Passed.{Passed}
use Rattle.file_numbers.proofs.groups_at.Given as goal

abbrev pub invariant-loop-g : goal.invariant-loop-g
invariant-loop-g l = (l.g ≤ 3) × (0 < l.g → l.at + l.g ≤ length l.file) × Passed l.file l.at l.g (l.at + l.g) l.value l.weight
