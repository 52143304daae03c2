-- `full_least::lane_first` meets its contract: a lesser key lies to the left.
use mathlib.Core.Path.{◌≡◌, sym, ap, ap₂, subst, ◌∙◌}
use native.Mathlib.Omega.{arith}
use mir.Syntax.{w16}
use mir.ValLaws.{to_z-of_z}
use Rattle.fractions.specs.Point.{whole_of}
use Rattle.fractions.specs.declared.Point.{Point}
use Rattle.sweep.specs.Ported.{is_less}
use Rattle.full_points.specs.Spot.{Charted, key_of}
use Rattle.full_points.proofs.Crossing.{end_charted}
use Rattle.full_lanes.proofs.Least.{left_by_x, not_back}
use Rattle.full_least.proofs.lane_first.Goals as goal
use Rattle.full_least.proofs.lane_first.Goals.{After-whole-end}

-- the end, and its key
end_is : (c : After-whole-end) → let s = c.args in c.whole-end.result ≡ whole_of s.x s.y
end_is c =
    c.whole-end.ensures ∙ ap₂ whole_of (to_z-of_z w16 c.args.x c.ranges.x) (to_z-of_z w16 c.args.y c.ranges.y)

pub key_of-other-requires : goal.key_of-other-requires
key_of-other-requires c = subst (λ (q : Point). Charted q.x q.d) (sym (end_is c)) (end_charted c.args.x c.ranges.x)

pub returns-then-key-other : goal.returns-then-key-other
returns-then-key-other c =
    let o : c.key_of-other.result ≡ key_of (whole_of c.args.x c.args.y) =
    c.key_of-other.ensures ∙ ap key_of (c.whole-end.ensures ∙ ap₂ whole_of (to_z-of_z w16 c.args.x c.ranges.x) (to_z-of_z w16 c.args.y c.ranges.y))
    in
    sym (ap is_less (left_by_x _ (whole_of c.args.x c.args.y) c.requires.charted.along (end_charted c.args.x c.ranges.x) (omega (arith, c.if-key-other.true, c.requires.is, o))))

pub returns-then-other-key : goal.returns-then-other-key
returns-then-other-key c =
    let o : c.key_of-other.result ≡ key_of (whole_of c.args.x c.args.y) =
    c.key_of-other.ensures ∙ ap key_of (c.whole-end.ensures ∙ ap₂ whole_of (to_z-of_z w16 c.args.x c.ranges.x) (to_z-of_z w16 c.args.y c.ranges.y))
    in
    sym (not_back (whole_of c.args.x c.args.y) _ (left_by_x (whole_of c.args.x c.args.y) _ (end_charted c.args.x c.ranges.x) c.requires.charted.along (omega (arith, c.if-other-key.true, c.requires.is, o))))

pub returns : goal.returns
returns c =
    c.less.ensures ∙ (let e : c.whole-end.result ≡ whole_of c.args.x c.args.y =
    c.whole-end.ensures ∙ ap₂ whole_of (to_z-of_z w16 c.args.x c.ranges.x) (to_z-of_z w16 c.args.y c.ranges.y)
    in rw (c.meeting_at.ensures, e))
