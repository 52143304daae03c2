-- `full_least::comes_first` meets its contract.
use mathlib.Core.Path.{◌∙◌}
use native.Mathlib.Omega.{arith}
use Rattle.full_lanes.proofs.Least.{newer_key, older_key, no_lane, by_points}
use Rattle.full_least.proofs.comes_first.Goals as goal

pub returns-then-key-least : goal.returns-then-key-least
returns-then-key-least c = newer_key _ _ _ _ _ _ _ c.requires.0 c.requires.1 (omega arith) c.if-key-least.true

pub returns-then-least-key : goal.returns-then-least-key
returns-then-least-key c = older_key _ _ _ _ _ _ _ c.requires.0 c.requires.1 c.if-least-key.true

pub returns-then-key-eq-NONE : goal.returns-then-key-eq-NONE
returns-then-key-eq-NONE c = no_lane _ _ _ _ _ _ _ c.requires.0 c.requires.1 (omega (arith, c.if-key-eq-NONE.true))

pub meeting_at-requires : goal.meeting_at-requires
meeting_at-requires c = (c.requires.0 (omega (arith, c.if-key-eq-NONE.false))).two

pub meeting_at-requires-2 : goal.meeting_at-requires-2
meeting_at-requires-2 c = (c.requires.1 (omega (arith, c.if-key-eq-NONE.false))).two

pub returns : goal.returns
returns c =
    let h = c.requires in
    by_points _ _ _ _ _ _ _ h.0 h.1 (omega (arith, c.if-least-key.false, c.if-key-least.false)) (omega (arith, c.if-key-eq-NONE.false))
    (c.less.ensures ∙ rw (c.meeting_at.ensures, c.meeting_at-2.ensures))
