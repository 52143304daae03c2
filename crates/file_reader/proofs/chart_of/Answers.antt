-- `chart_of`: each return stands at the reading that the count and the tests after it lead to.
use mathlib.Core.Path.{refl, sym, ap, ◌∙◌}
use mathlib.Core.List.{List, ◌++◌}
use Prim.Native.Nat.{◌*◌}
use native.Mathlib.Omega.{arith}
use borrow.Author.Rules.{rules}
use lib.IntN.{ℤ}
use lib.ListN.{length, take, drop}
use lib.Seq.{length-take-le}
use Rattle.std.specs.Prelude.{Err}
use Rattle.std.proofs.lemmas.Result.{err_from_is_err_and}
use Rattle.charts.specs.Refusal.{number}
use Rattle.chart_file.specs.Reading.{pieces}
use Rattle.chart_file.proofs.Whole.{Handed, counted_ok, counted_err, too_little, no_count, some_pieces, found_most, left_length, ended_refused, ended_extra, ended_there, answers_refusal, answers_chart}
use Rattle.file_reader.proofs.chart_of.Goals as goal

pub returns-then-list-lt-NUMBERS : goal.returns-then-list-lt-NUMBERS
returns-then-list-lt-NUMBERS c =
    let a = c.args in
    rw c.at.ensures (answers_refusal a.file.now a.list.now 8 0 (too_little a.file.now (length a.list.now) c.if-list-lt-NUMBERS.true))

pub returns-in_err-found : goal.returns-in_err-found
returns-in_err-found c =
    let a = c.args in
    let p = err_from_is_err_and c.from_residual.result c.from_residual.ensures.1 in
    let h : Handed c.count_at.result (Err c.in_err-found.field-0.0) = search rules in
    let q = counted_err c.count_at.result c.in_err-found.field-0.0 a.file.now h c.count_at.ensures in
    rw (p.1, p.2, q.2) (answers_refusal a.file.now a.list.now (number q.0) 0 (no_count a.file.now (length a.list.now) (number q.0) c.if-list-lt-NUMBERS.false q.1))

pub pieces-requires : goal.pieces-requires
pieces-requires c =
    let f = c.in_ok-found in
    (found_most c.count_at.result f.found c.args.file.now f.ensures.cases c.count_at.ensures, refl)

pub returns-in_err-end : goal.returns-in_err-end
returns-in_err-end c =
    let a = c.args in
    let s = a.file.now in
    let f = c.in_ok-found in
    let e = c.in_err-end in
    let p = err_from_is_err_and c.from_residual-in_err-end.result c.from_residual-in_err-end.ensures.1 in
    let q = counted_ok c.count_at.result f.found s f.ensures.cases c.count_at.ensures in
    rw (p.1, p.2) (answers_refusal s a.list.now (number e.field-0.0.reason) e.field-0.0.place
    (some_pieces s (length a.list.now) f.found.value f.found.next c.if-list-lt-NUMBERS.false q ∙ ended_refused f.found.value c.pieces.new.list (pieces s f.found.next f.found.value) e.field-0.0 (length s) e.ensures))

pub returns-then-end-file : goal.returns-then-end-file
returns-then-end-file c =
    let a = c.args in
    let s = a.file.now in
    let f = c.in_ok-found in
    let e = c.in_ok-end in
    let q = counted_ok c.count_at.result f.found s f.ensures.cases c.count_at.ensures in
    rw c.at-then-end-file.ensures (answers_refusal s a.list.now 7 e.end
    (some_pieces s (length a.list.now) f.found.value f.found.next c.if-list-lt-NUMBERS.false q ∙ ended_extra f.found.value c.pieces.new.list (pieces s f.found.next f.found.value) e.end (length s) e.ensures c.if-end-file.true))

pub slice_bounds-copy_from_slice-end : goal.slice_bounds-copy_from_slice-end
slice_bounds-copy_from_slice-end c =
    let f = c.in_ok-found in
    let n = found_most c.count_at.result f.found c.args.file.now f.ensures.cases c.count_at.ensures in
    omega (arith, n)

pub slice_bounds-copy_from_slice-end-2 : goal.slice_bounds-copy_from_slice-end-2
slice_bounds-copy_from_slice-end-2 c =
    let f = c.in_ok-found in
    let n = found_most c.count_at.result f.found c.args.file.now f.ensures.cases c.count_at.ensures in
    sym (length-take-le (5 * f.found.value) c.args.list.now (omega (arith, n)))

pub slice_bounds-numbers-end : goal.slice_bounds-numbers-end
slice_bounds-numbers-end c =
    let f = c.in_ok-found in
    let s = c.args.file.now in
    let n = found_most c.count_at.result f.found s f.ensures.cases c.count_at.ensures in
    let k = left_length f.found.value c.pieces.new.list (pieces s f.found.next f.found.value) _ c.in_ok-end.ensures in
    omega (arith, n, k)

pub slice_bounds-copy_from_slice-end-3 : goal.slice_bounds-copy_from_slice-end-3
slice_bounds-copy_from_slice-end-3 c =
    let f = c.in_ok-found in
    let s = c.args.file.now in
    let n = found_most c.count_at.result f.found s f.ensures.cases c.count_at.ensures in
    let k = left_length f.found.value c.pieces.new.list (pieces s f.found.next f.found.value) _ c.in_ok-end.ensures in
    sym (length-take-le (5 * f.found.value) c.pieces.new.list (omega (arith, n, k)))

pub copy_from_slice-requires : goal.copy_from_slice-requires
copy_from_slice-requires c =
    let f = c.in_ok-found in
    let s = c.args.file.now in
    let n = found_most c.count_at.result f.found s f.ensures.cases c.count_at.ensures in
    let k = left_length f.found.value c.pieces.new.list (pieces s f.found.next f.found.value) _ c.in_ok-end.ensures in
    length-take-le (5 * f.found.value) c.args.list.now (omega (arith, n)) ∙ sym (length-take-le (5 * f.found.value) c.pieces.new.list (omega (arith, n, k)))

pub returns : goal.returns
returns c =
    let a = c.args in
    let s = a.file.now in
    let f = c.in_ok-found in
    let e = c.in_ok-end in
    let l = c.pieces.new.list in
    let q = counted_ok c.count_at.result f.found s f.ensures.cases c.count_at.ensures in
    let n = found_most c.count_at.result f.found s f.ensures.cases c.count_at.ensures in
    let k = left_length f.found.value l (pieces s f.found.next f.found.value) _ e.ensures in
    answers_chart s a.list.now _ (take (5 * f.found.value) l) f.found.value e.end
    (some_pieces s (length a.list.now) f.found.value f.found.next c.if-list-lt-NUMBERS.false q ∙ ended_there f.found.value l (pieces s f.found.next f.found.value) e.end (length s) e.ensures c.if-end-file.false)
    (length-take-le (5 * f.found.value) l (omega (arith, n, k)))
    (ap (λ (t : List ℤ). t ++ drop (5 * f.found.value) a.list.now) c.copy_from_slice.ensures.after)
