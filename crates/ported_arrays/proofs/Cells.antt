-- A pair's number gives the pair back.
use mathlib.Core.Path.{◌≡◌, sym, ap, ◌∙◌}
use Prim.Native.Nat.{◌+◌, ◌*◌, ◌/◌, ◌%◌, ◌<◌}
use native.Mathlib.Omega.{arith}
use Rattle.charts.specs.Chart.{most}
use Rattle.sweep.specs.Lists.{Pair}
use Rattle.ported_arrays.specs.Numbers.{cell, pair_of}

pub pair_cell : (q : Pair) → q.1 < most → pair_of (cell q) ≡ q
unfolding cell pair_of
pair_cell (i, j) h =
    let a : (i * most + j) / most ≡ i = omega arith in
    let b : (i * most + j) % most ≡ j = omega arith in
    rw (a, b)

pub cell_one : (q r : Pair) → q.1 < most → r.1 < most → cell q ≡ cell r → q ≡ r
cell_one q r h k e = sym (pair_cell q h) ∙ ap pair_of e ∙ pair_cell r k

pub cell_small : (q : Pair) → q.0 < q.1 → q.1 < most → cell q < most * most
unfolding cell
cell_small q h k = omega arith
