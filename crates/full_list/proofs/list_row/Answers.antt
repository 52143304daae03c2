-- `full_list::list_row` meets its contract: what is left of the row gives the same bytes as all of it from the start.
use mathlib.Core.Path.{sym, ◌∙◌}
use Prim.Native.Nat.{ℕ, ◌+◌, ◌≤◌}
use lib.IntN.{ℤ}
use native.Mathlib.Omega.{arith}
use mathlib.Core.List.{List}
use lib.ListN.{length, length-set}
use Rattle.fractions.specs.declared.Point.{Point}
use Rattle.sweep.specs.Lists.{Pair, keep}
use Rattle.full_list.specs.Listed.{fresh_in, partners}
use Rattle.full_list.proofs.Writing.{rest_start, rest_write, rest_room, rest_end, row_more, row_same, row_over}
use Rattle.full_list.proofs.list_row.Goals as goal
use Rattle.full_list.proofs.list_row.Goals.{Then-is_fresh, then-is_fresh, else-is_fresh}

abbrev row : List ℤ → ℕ → List ℕ → Point → List Pair
row table i behind q = keep (fresh_in table q) (partners i behind)

pub loop-j-init : goal.loop-j-init
loop-j-init c =
    let s = c.args in
    λ q m. rest_start (row s.table.now s.i s.behind.now q) s.bytes.now s.end

room : (c : Then-is_fresh) → c.loop-j.at + 2 ≤ length c.loop-j.bytes
room c =
    let s = c.args in
    let r = c.requires.1 in
    let fits =
    rest_room (row s.table.now s.i s.behind.now r.point) s.bytes.now s.end c.loop-j.bytes c.loop-j.at _ _
    (rw (row_more (fresh_in s.table.now r.point) s.behind.now c.loop-j.j-index (omega arith) s.i (sym (c.is_fresh.ensures r.point r.marks) ∙ c.if-is_fresh.true)) at (c.loop-j.invariant r.point r.marks)) in
    omega (arith, fits, r.room, c.loop-j.auto.bytes)

pub bounds-bytes-at : goal.bounds-bytes-at
bounds-bytes-at c = omega (arith, room c)

pub overflow_add-bytes : goal.overflow_add-bytes
overflow_add-bytes c = omega (arith, room c, c.well_formed)

pub bounds-bytes-at-then-is_fresh : goal.bounds-bytes-at-then-is_fresh
bounds-bytes-at-then-is_fresh c = simp length-set (omega (arith, room c))

pub overflow_add-at : goal.overflow_add-at
overflow_add-at c = omega (arith, room c, c.well_formed)

pub loop-j-preserved : goal.loop-j-preserved
loop-j-preserved c =
    let s = c.args in
    let k = c.loop-j.j-index in
    elim c.if-is_fresh.branch [
      | then-is_fresh w ↦
          λ q m.
          rw (w.bytes-is, w.at-is)
          (rest_write (row s.table.now s.i s.behind.now q) s.bytes.now s.end c.loop-j.bytes c.loop-j.at _ _
          (rw (row_more (fresh_in s.table.now q) s.behind.now k (omega arith) s.i (sym (c.is_fresh.ensures q m) ∙ w.if-is_fresh.true)) at (c.loop-j.invariant q m)))
      | else-is_fresh w ↦
          λ q m.
          rw (w.bytes-is, w.at-is)
          (rw (row_same (fresh_in s.table.now q) s.behind.now k (omega arith) s.i (sym (c.is_fresh.ensures q m) ∙ w.if-is_fresh.false)) at (c.loop-j.invariant q m))
    ]

pub returns : goal.returns
returns c =
    λ q m.
    let s = c.args in
    rest_end (row s.table.now s.i s.behind.now q) s.bytes.now s.end c.loop-j.bytes c.loop-j.at
    (rw (row_over (fresh_in s.table.now q) s.behind.now s.i c.loop-j.j-index (omega arith)) at (c.loop-j.invariant q m))
