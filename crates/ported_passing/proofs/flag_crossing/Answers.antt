use mathlib.Core.List.{List}
use Prim.Native.Nat.{ℕ, ◌%◌}
use lib.ListN.{set}
use Rattle.charts.specs.Chart.{most}
use mathlib.Core.Path.{ap, ◌∙◌}
use Rattle.ported_arrays.specs.Numbers.{pair_of}
use Rattle.ported_arrays.specs.Event.{flag, pieces, free_all}
use Rattle.ported_passing.proofs.flag_crossing.Goals as goal

pub returns : goal.returns
unfolding flag pieces pair_of free_all
returns c =
    (c.set_flag-2.ensures ∙ ap (λ (l : List ℕ). set l (c.args.c % most) 1) c.set_flag.ensures, c.free_mark.ensures)
