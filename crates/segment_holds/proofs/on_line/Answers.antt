-- `segment_holds::on_line` meets its contract: the point against the min, times run and rise.
use borrow.Author.Rules.{rules}
use mathlib.Core.Path.{◌≡◌, ◌∙◌, ap}
use native.Mathlib.Omega.{arith}
use lib.IntN.{ℤ, ◌-ℤ◌, ◌*ℤ◌}
use mir.Syntax.{w16}
use mir.ValLaws.{to_z-of_z}
use Rattle.integers.proofs.Machine.{m_bound}
use Rattle.integers.proofs.Tests.{sized}
use Rattle.orientation.specs.Turn.{turn_of, is_straight}
use Rattle.line_segment.specs.Geometry.{side}
use Rattle.line_segment.proofs.CramersRule.{back}
use Rattle.line_segment.proofs.Holding.{bits, offset_fits, offset_is, side_is}
use Rattle.segment_holds.proofs.on_line.Goals as goal
use Rattle.segment_holds.proofs.on_line.Goals.{After-rise-up}

pub scaled-requires : goal.scaled-requires
scaled-requires c = c.requires.d_small

pub overflow_sub-u : goal.overflow_sub-u
overflow_sub-u c = offset_fits c.args.p.x c.requires.x_small c.scaled.ensures.1

pub scaled-requires-2 : goal.scaled-requires-2
scaled-requires-2 c = c.requires.d_small

pub overflow_sub-v : goal.overflow_sub-v
overflow_sub-v c = offset_fits c.args.p.y c.requires.y_small c.scaled-2.ensures.1

-- the factors, and that they make the line's determinant
module _ (c : After-rise-up) where
  abbrev x : ℤ
  x = bits (bits c.args.p.x -ℤ bits c.scaled.result)

  abbrev y : ℤ
  y = bits (bits c.args.p.y -ℤ bits c.scaled-2.result)

  straight :
      let a = c.args in
      is_straight (turn_of (y *ℤ bits c.run-along.result -ℤ x *ℤ bits c.rise-up.result)) ≡ is_straight (turn_of (side a.s a.p))
  straight =
      let a = c.args in
      let h = c.requires in
      ap (λ (z : ℤ). is_straight (turn_of z))
      (side_is a.s a.p (to_z-of_z w16 _ (search rules)) (to_z-of_z w16 _ (search rules))
      (back c.run-along.ensures.1 c.run-along.ensures.0 tt) (offset_is a.p.y h.y_small c.scaled-2.ensures.1 c.scaled-2.ensures.0)
      (back c.rise-up.ensures.1 c.rise-up.ensures.0 tt) (offset_is a.p.x h.x_small c.scaled.ensures.1 c.scaled.ensures.0))

pub same_plain-requires : goal.same_plain-requires
same_plain-requires c =
    let along = c.run-along.ensures.1 in
    let up = c.rise-up.ensures.1 in (
      (record { small = omega (arith, c.size-then-size-lt-PLAIN_LIMIT.ensures) }, m_bound (search sized depth 60 fits 20000) tt),
      (record { small = omega (arith, c.size.ensures) }, m_bound (search sized depth 60 fits 20000) tt),
    )

pub returns-then-size-lt-PLAIN_LIMIT-2 : goal.returns-then-size-lt-PLAIN_LIMIT-2
returns-then-size-lt-PLAIN_LIMIT-2 c = c.same_plain.ensures ∙ straight c.before.before.before.before.before

pub returns : goal.returns
returns c = c.same_product.ensures ∙ straight c.before.before.before
