-- `full_list::list_all` meets its contract: the rows that are left give the same bytes as all of them from the start.
use native.Mathlib.Omega.{arith}
use lib.ListN.{take}
use Rattle.sweep.specs.Lists.{keep, pairs}
use Rattle.full_list.specs.Listed.{fresh_in, partners}
use Rattle.full_list.proofs.Writing.{rest_start, rest_then, rest_fits, rest_end, rows_more, rows_over}
use Rattle.full_list.proofs.list_all.Goals as goal

pub loop-i-init : goal.loop-i-init
loop-i-init c =
    let s = c.args in
    λ q m. rest_start (keep (fresh_in s.table.now q) (pairs (take s.count s.here.now))) s.bytes.now s.end

pub list_row-at-requires : goal.list_row-at-requires
list_row-at-requires c =
    let a = c.args in
    let r = c.requires.2 in
    let f = fresh_in a.table.now r.point in
    let i = c.in-Some.i.now in
    let behind = c.in-Some.behind.now in (
      c.requires.0,
      record {
        point = r.point;
        marks = r.marks;
        room =
            omega (
              arith,
              rest_fits (keep f (pairs (take a.count a.here.now))) a.bytes.now a.end c.loop-i.bytes c.loop-i.at (keep f (partners i behind)) (keep f (pairs behind))
                  (rw (c.in-Some.ensures.cases.0, rows_more f i behind) at (c.loop-i.invariant r.point r.marks)),
              r.room,
              c.loop-i.auto.bytes,
            );
      },
    )

pub loop-i-preserved : goal.loop-i-preserved
loop-i-preserved c =
    λ q m.
    let a = c.args in
    let f = fresh_in a.table.now q in
    let i = c.in-Some.i.now in
    let behind = c.in-Some.behind.now in
    rest_then (keep f (pairs (take a.count a.here.now))) a.bytes.now a.end c.loop-i.bytes c.loop-i.at (keep f (partners i behind)) (keep f (pairs behind))
    c.list_row-at.new.bytes c.list_row-at.result (rw (c.in-Some.ensures.cases.0, rows_more f i behind) at (c.loop-i.invariant q m)) (c.list_row-at.ensures q m)

pub returns : goal.returns
returns c =
    λ q m.
    let a = c.args in
    let f = fresh_in a.table.now q in
    rest_end (keep f (pairs (take a.count a.here.now))) a.bytes.now a.end c.loop-i.bytes c.loop-i.at
    (rw (rows_over f c.loop-i.rest.now c.in_default.ensures.cases) at (c.loop-i.invariant q m))
