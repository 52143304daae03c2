-- `segment_holds::contains` meets its contract: three questions, one after the other.
use mathlib.Core.Path.{◌≡◌, ◌∙◌, sym}
use mathlib.Core.Bool.{◌&&◌}
use Rattle.orientation.specs.Turn.{turn_of, is_straight}
use Rattle.line_segment.specs.Geometry.{side}
use Rattle.line_segment.specs.Segment.{in_bounds}
use Rattle.line_segment.proofs.Holding.{bounded, holds_last, holds_early}
use Rattle.segment_holds.proofs.contains.Goals as goal
use Rattle.segment_holds.proofs.contains.Goals.{then-in_bounds, else-in_bounds}

pub on_line-requires : goal.on_line-requires
on_line-requires c = bounded _ (sym c.in_bounds.ensures ∙ c.if-in_bounds.true)

pub between-requires : goal.between-requires
between-requires c =
    bounded _ (sym c.in_bounds.ensures ∙ elim c.if-in_bounds.branch [ then-in_bounds w ↦ w.if-in_bounds.true | else-in_bounds w ↦ sym w.value-is ∙ c.if-on_line.true ])

pub returns-then-on_line : goal.returns-then-on_line
returns-then-on_line c =
    let v : c.if-in_bounds.value ≡ (in_bounds c.args.p && is_straight (turn_of (side c.args.s c.args.p))) =
    elim c.if-in_bounds.branch [
      | then-in_bounds w ↦ rw (← c.in_bounds.ensures, w.if-in_bounds.true) (w.value-is ∙ w.on_line.ensures)
      | else-in_bounds w ↦ rw (← c.in_bounds.ensures, w.if-in_bounds.false) (w.value-is ∙ w.if-in_bounds.false)
    ] in
    holds_last _ _ v c.if-on_line.true c.between.ensures

pub returns-else-on_line : goal.returns-else-on_line
returns-else-on_line c =
    let v : c.if-in_bounds.value ≡ (in_bounds c.args.p && is_straight (turn_of (side c.args.s c.args.p))) =
    elim c.if-in_bounds.branch [
      | then-in_bounds w ↦ rw (← c.in_bounds.ensures, w.if-in_bounds.true) (w.value-is ∙ w.on_line.ensures)
      | else-in_bounds w ↦ rw (← c.in_bounds.ensures, w.if-in_bounds.false) (w.value-is ∙ w.if-in_bounds.false)
    ] in
    holds_early _ _ v c.if-on_line.false
