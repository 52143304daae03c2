-- `write`: by the verdict on the list and its room; the count goes first, then the numbers.
use mathlib.Core.Path.{◌≡◌, sym, ap, ◌∙◌}
use mathlib.Core.List.{List}
use Prim.Native.Nat.{ℕ, ◌+◌, ◌≤◌}
use native.Mathlib.Omega.{arith}
use lib.IntN.{ℤ}
use lib.ListN.{length, length-append}
use lib.Seq.{sets, length-sets}
use Rattle.chart_file.specs.Format.{bytes_from, count_of}
use Rattle.chart_writer.proofs.Outcomes.{accepted_fives, Goes, goes, writes_refused, writes_done}
use Rattle.file_writer.proofs.write.Goals as goal

-- two runs of stores leave the length as it was
same_long : (lent between after : List ℕ) (i : ℕ) (xs : List ℕ) (j : ℕ) (ys : List ℕ) → between ≡ sets lent i xs → after ≡ sets between j ys → length after ≡ length lent
same_long lent between after i xs j ys b a = ap length a ∙ length-sets between j ys ∙ ap length b ∙ length-sets lent i xs

-- the count and the numbers have room together, where the writing goes ahead with n pieces
room : (list : List ℤ) (lent : List ℕ) (n : ℕ) → Goes list lent n → length (count_of n) + length (bytes_from 0 list) ≤ length lent
room list lent n g = omega (arith, g.fits, ap length g.file, length-append (count_of n) (bytes_from 0 list))

pub overflow_cast-n : goal.overflow_cast-n
overflow_cast-n c =
    let g = goes c.args.list.now c.args.out.now c.in-Ok.n (sym c.in-Ok.ensures) in
    record { fits = omega (arith, g.small) }

pub put_groups-next-requires : goal.put_groups-next-requires
put_groups-next-requires c =
    let g = goes c.args.list.now c.args.out.now c.in-Ok.n (sym c.in-Ok.ensures) in
    (g.small, omega (arith, room _ _ _ g))

pub put_numbers-requires : goal.put_numbers-requires
put_numbers-requires c =
    let a = c.args in
    let g = goes c.args.list.now c.args.out.now c.in-Ok.n (sym c.in-Ok.ensures) in
    (omega (arith, accepted_fives a.list.now c.in-Ok.n g.accepted), g.ranges, omega (arith, c.put_groups-next.ensures.0, room _ _ _ g, ap length c.put_groups-next.ensures.1, length-sets a.out.now 0 (count_of c.in-Ok.n)))

pub returns-in-Err : goal.returns-in-Err
returns-in-Err c =
    let s = c.args in
    writes_refused s.list.now s.out.now c.refused.result _ _ (sym c.in-Err.ensures) c.refused.ensures

pub shape_of-out : goal.shape_of-out
shape_of-out c =
    let s = c.args in
    same_long s.out.now _ _ 0 (count_of c.in-Ok.n) c.put_groups-next.result (bytes_from 0 s.list.now) c.put_groups-next.ensures.1 c.put_numbers.ensures.1

pub returns-in-Ok : goal.returns-in-Ok
returns-in-Ok c =
    let s = c.args in
    writes_done s.list.now s.out.now c.done.result _ _ _ _ _ (sym c.in-Ok.ensures) c.done.ensures c.put_groups-next.ensures.0 c.put_groups-next.ensures.1 c.put_numbers.ensures.0 c.put_numbers.ensures.1
