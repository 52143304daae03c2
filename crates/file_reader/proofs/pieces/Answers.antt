-- `pieces`: p pieces are read into the front of the list; each way out gives the reading there.
use mathlib.Core.Path.{◌≡◌, refl, sym, ap, ◌∙◌}
use mathlib.Core.List.{List}
use Prim.Native.Nat.{◌+◌, ◌*◌}
use native.Mathlib.Omega.{arith}
use borrow.Author.Rules.{rules}
use borrow.Rule.Slice.PartMut.{same_len_mid}
use lib.IntN.{ℤ}
use lib.ListN.{length, length-set}
use mir.Syntax.{w32}
use mir.Val.{to_z, of_z}
use mir.Facts.{to_z-of_z}
use Rattle.std.proofs.lemmas.Slice.{take-put_mid}
use Rattle.chart_file.specs.Reading.{due, pieces}
use Rattle.chart_file.proofs.Kept.{kind_kept, kind_ends, coordinate_kept, coordinate_ends, piece_kept, piece_ends}
use Rattle.file_reader.proofs.pieces.Goals as goal

pub loop-p-init : goal.loop-p-init
unfolding pieces
loop-p-init c = (c.requires.1, refl)

pub loop-coordinate-init : goal.loop-coordinate-init
loop-coordinate-init c =
    let p = c.loop-p in
    (refl, kind_kept c.args.file.now c.args.next c.args.count p.p p.list p.at p.invariant.0 (omega arith) p.invariant.1 c.in-Ok.found.value c.in-Ok.found.next c.in-Ok.ensures)

pub loop-coordinate-preserved : goal.loop-coordinate-preserved
loop-coordinate-preserved c =
    let p = c.loop-p in
    let q = c.loop-coordinate in
    let f = c.in-Ok-coordinate_at.found in
    let stored : to_z w32 (of_z w32 f.value) ≡ f.value = to_z-of_z {w = w32} (search rules) in (
      length-set q.coordinate-items _ _ ∙ q.invariant.0,
      rw stored (coordinate_kept c.args.file.now c.args.next c.args.count p.p p.list p.at p.invariant.0 (omega arith) p.invariant.1 c.in-Ok.found.value q.coordinate-items q.coordinate-index q.at q.invariant.1 f.value f.next c.in-Ok-coordinate_at.ensures (omega arith)),
    )

pub loop-p-preserved : goal.loop-p-preserved
loop-p-preserved c =
    let p = c.loop-p in
    let q = c.loop-coordinate in
    let new = c.copy_from_slice in
    let five = new.ensures.after in (
      same_len_mid _ _ _ _ new.ensures.len ∙ p.invariant.0,
      piece_kept c.args.file.now c.args.next c.args.count p.p p.list p.at p.invariant.0 (omega arith) p.invariant.1 c.in-Ok.found.value q.coordinate-items q.coordinate-index q.at q.invariant.1 (omega arith) c.loop-coordinate-test.array_long c.requires.0 c.fault_of.result _ _ _ _ _
          (record { kind = to_z-of_z {w = w32} (search rules); first_x = to_z-of_z {w = w32} (search rules); first_y = to_z-of_z {w = w32} (search rules); second_x = to_z-of_z {w = w32} (search rules); second_y = to_z-of_z {w = w32} (search rules) })
          c.fault_of.ensures (sym c.is_some.ensures ∙ c.if-is_some.false) new.new.self five
          ∙ ap (λ (t : List ℤ). due t q.at) (sym (take-put_mid (5 * p.p) _ p.list new.new.self (5 * (p.p + 1)) (omega (arith, ap length five)) (omega arith))),
    )

pub returns-in-Err : goal.returns-in-Err
returns-in-Err c =
    let p = c.loop-p in
    kind_ends c.args.file.now c.args.next c.args.count p.p p.list p.at p.invariant.0 (omega arith) p.invariant.1 c.in-Err.reason c.at.result c.in-Err.ensures c.at.ensures

pub returns-in-Err-coordinate_at : goal.returns-in-Err-coordinate_at
returns-in-Err-coordinate_at c =
    let p = c.loop-p in
    let q = c.loop-coordinate in
    let e = c.in-Err-coordinate_at in
    coordinate_ends c.args.file.now c.args.next c.args.count p.p p.list p.at p.invariant.0 (omega arith) p.invariant.1 c.in-Ok.found.value q.coordinate-items q.coordinate-index q.at q.invariant.1 e.reason c.at-in-Err-coordinate_at.result e.ensures (omega arith) c.at-in-Err-coordinate_at.ensures

pub returns-then-is_some : goal.returns-then-is_some
returns-then-is_some c =
    let p = c.loop-p in
    let q = c.loop-coordinate in
    piece_ends c.args.file.now c.args.next c.args.count p.p p.list p.at p.invariant.0 (omega arith) p.invariant.1 c.in-Ok.found.value q.coordinate-items q.coordinate-index q.at q.invariant.1 (omega arith) c.loop-coordinate-test.array_long c.requires.0 c.fault_of.result _ _ _ _ _
    (record { kind = to_z-of_z {w = w32} (search rules); first_x = to_z-of_z {w = w32} (search rules); first_y = to_z-of_z {w = w32} (search rules); second_x = to_z-of_z {w = w32} (search rules); second_y = to_z-of_z {w = w32} (search rules) })
    c.fault_of.ensures (sym c.is_some.ensures ∙ c.if-is_some.true) c.at-then-is_some.result c.at-then-is_some.ensures
