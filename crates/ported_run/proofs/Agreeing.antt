-- There is room for every pair, and so the arrays of a run agree with the sweep.
use mathlib.Core.Path.{◌≡◌, refl}
use mathlib.Core.List.{List}
use Prim.Native.Nat.{ℕ, ◌*◌, ◌≤◌, ◌<◌}
use native.Mathlib.Omega.{arith}
use lib.IntN.{ℤ}
use lib.ListN.{length}
use Rattle.line_segment.specs.Piece.{HasLength}
use Rattle.charts.specs.Chart.{most}
use Rattle.charts.specs.Answer.{room}
use Rattle.charts.proofs.Room.{room_least}
use Rattle.sweep.specs.Sought.{all}
use Rattle.sweep.specs.State.{start as begin}
use Rattle.sweep.specs.Run.{onwards as going}
use Rattle.ported_arrays.specs.Run.{onwards, start}
use Rattle.ported_arrays.specs.Agreement.{Room, Agrees}
use Rattle.ported_arrays.proofs.Flat.{flat_length}
use Rattle.ported_arrays.proofs.Room.{all_twice}
use Rattle.ported_arrays.proofs.Simulation.{run_agrees}
use Rattle.ported_pieces.specs.Table.{piece_in, chart_in}
use Rattle.ported_pieces.proofs.Ordering.{ordered}
use Rattle.ported_run.specs.Running.{places}

module _ (n : ℕ) (table : List ℤ) (bytes : List ℕ) (few : n ≤ most) (long : (i : ℕ) → i < n → HasLength (piece_in table i)) (lists : room n ≤ length bytes) where
  pub has_room : Room (chart_in n table) places bytes
  has_room =
      let r : room most ≡ 2 * places = unfold room in refl in
      let l = room_least n most few in
      let twice = all_twice (chart_in n table) in
      record { few = few; waits = omega (arith, twice, l, r); lists = omega (arith, flat_length (all (chart_in n table)), twice, lists) }

  pub agrees : (m : ℕ) → Agrees (chart_in n table) (ordered n (piece_in table) long) places bytes (onwards (chart_in n table) m (start (chart_in n table) places bytes)) (going (chart_in n table) m (begin (chart_in n table)))
  agrees m = run_agrees (chart_in n table) (ordered n (piece_in table) long) places bytes has_room m
