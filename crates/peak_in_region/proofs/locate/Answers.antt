-- `peak_in_region::locate` meets its contract: either way the verdict is known.
use mathlib.Core.Path.{◌≡◌, sym, ap₂, subst, ◌∙◌}
use lib.IntN.{pos}
use lib.Signed.{◌<ℤ◌}
use mir.Facts.{to_z-of_z}
use Rattle.std.proofs.lemmas.Result.{err_from_is_err_and}
use Rattle.charts.specs.Verdict.{Accepted}
use Rattle.half_line.specs.declared.Corner.{Corner}
use Rattle.outline.specs.Outline.{verdict_of}
use Rattle.outline.proofs.Peaks.{peak_below}
use Rattle.half_line.specs.Call.{corner_at}
use Rattle.region.specs.Region.{region_answer_of}
use Rattle.peak_in_region.proofs.locate.Goals as goal
use Rattle.peak_in_region.proofs.locate.Goals.{After-corner_at, In_ok-n}

-- the verdict on the numbers themselves, and the peak
said : (c : In_ok-n) → let a = c.args in verdict_of a.outline.now a.x a.y ≡ Accepted c.in_ok-n.n
said c =
    let a = c.args in
    let f = c.ranges in
    sym (ap₂ (verdict_of a.outline.now) (to_z-of_z f.x) (to_z-of_z f.y)) ∙ sym c.in_ok-n.ensures

peaked : (c : After-corner_at) → let a = c.args in c.corner_at.result ≡ corner_at a.x a.y
peaked c = let f = c.ranges in c.corner_at.ensures ∙ ap₂ corner_at (to_z-of_z f.x) (to_z-of_z f.y)

pub region_at-requires : goal.region_at-requires
region_at-requires c = subst (λ (q : Corner). q.x <ℤ pos 32767) (sym (peaked c)) (peak_below _ _ _ (said c.before))

pub returns-in_err-n : goal.returns-in_err-n
unfolding region_answer_of
returns-in_err-n c =
    let a = c.args in
    let f = c.ranges in
    let p = err_from_is_err_and c.from_residual.result c.from_residual.ensures.1 in
    rw (p.1, p.2, sym (ap₂ (verdict_of a.outline.now) (to_z-of_z f.x) (to_z-of_z f.y)) ∙ sym c.in_err-n.ensures)

pub returns : goal.returns
unfolding region_answer_of
returns c = rw (said c.before.before, c.region_at.ensures, peaked c.before)
