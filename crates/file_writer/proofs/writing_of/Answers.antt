-- `writing_of`: the verdict on the list, then the room for the longest file.
use mathlib.Core.Path.{sym, ap, ◌∙◌}
use Rattle.std.specs.Prelude.{Err}
use Rattle.std.proofs.lemmas.Result.{err_from_is_err_and}
use Rattle.charts.specs.Refusal.{told}
use Rattle.charts.specs.declared.Refusal.{Refusal}
use Rattle.charts.proofs.Lent.{room_refused, room_eight, room_accepted}
use Rattle.chart_file.specs.Format.{longest}
use Rattle.chart_writer.specs.Writing.{writing_of}
use Rattle.file_writer.proofs.writing_of.Goals as goal

pub returns-in_err-n : goal.returns-in_err-n
unfolding writing_of
returns-in_err-n c =
    let s = c.args in
    let p = err_from_is_err_and c.from_residual.result c.from_residual.ensures.1 in
    rw (p.1, p.2) (sym (room_refused s.list.now (λ n. longest) s.lent _ _ (sym c.in_err-n.ensures)))

pub returns-then-lent-lt-LONGEST : goal.returns-then-lent-lt-LONGEST
unfolding writing_of
returns-then-lent-lt-LONGEST c =
    let s = c.args in
    ap (λ (r : Refusal). told (Err r)) c.at.ensures ∙ sym (room_eight s.list.now (λ n. longest) s.lent _ (sym c.in_ok-n.ensures) c.if-lent-lt-LONGEST.true)

pub returns : goal.returns
unfolding writing_of
returns c =
    let s = c.args in
    sym (room_accepted s.list.now (λ n. longest) s.lent _ (sym c.in_ok-n.ensures) c.if-lent-lt-LONGEST.false)
