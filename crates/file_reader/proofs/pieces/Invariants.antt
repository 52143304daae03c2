use Rattle.std.proofs.Common.{◌≡◌, ◌+◌, ◌*◌, length, take, [], ◌∷◌, ◌++◌}
use Rattle.charts.specs.Chart.{most}
use Rattle.chart_file.specs.Reading.{due, numbers, pieces}
use Rattle.file_reader.proofs.pieces.Given as goal

abbrev pub invariant-loop-coordinate : goal.invariant-loop-coordinate
invariant-loop-coordinate l =
    (length l.coordinate-items ≡ 4)
    × (numbers l.file (l.coordinate-index + 1) (pieces l.file l.next l.p) ≡ due (take (5 * l.p) l.list ++ (l.kind.value ∷ []) ++ take l.coordinate-index l.coordinate-items) l.at)

abbrev pub invariant-loop-p : goal.invariant-loop-p
invariant-loop-p l = (length l.list ≡ 5 * most) × (pieces l.file l.next l.p ≡ due (take (5 * l.p) l.list) l.at)
