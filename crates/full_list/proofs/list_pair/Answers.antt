-- `full_list::list_pair` meets its contract: the two numbers are those of the pair.
use mathlib.Core.Path.{◌≡◌}
use native.Mathlib.Omega.{arith}
use lib.ListN.{length-set}
use Rattle.sweep.specs.Lists.{Pair, lesser_first}
use Rattle.full_lanes.proofs.Laning.{first_lesser, second_lesser}
use Rattle.full_list.proofs.Writing.{pair_written}
use Rattle.full_list.proofs.list_pair.Goals as goal
use Rattle.full_list.proofs.list_pair.Goals.{then-i-j, else-i-j}

pub bounds-bytes-end-2 : goal.bounds-bytes-end-2
bounds-bytes-end-2 c = simp length-set (omega arith)

pub returns : goal.returns
returns c =
    let s = c.args in
    -- the lesser number first
    let two : ◌≡◌ {A = Pair} (c.if-i-j.a, c.if-i-j.b) (lesser_first s.i s.j) =
    elim c.if-i-j.branch [
      | then-i-j w ↦ rw (w.a-is, w.b-is) (first_lesser s.i s.j w.if-i-j.true)
      | else-i-j w ↦ rw (w.a-is, w.b-is) (second_lesser s.i s.j w.if-i-j.false)
    ] in
    pair_written c.if-i-j.a c.if-i-j.b two s.bytes.now s.end
