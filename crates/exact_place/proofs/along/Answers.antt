-- A coordinate goes to `whole` as bits, whose number is the coordinate again; each arm knows the order of the two points.
use mathlib.Core.Path.{◌≡◌, sym, ap₂, ◌∙◌}
use Rattle.integers.proofs.Machine.{m_eq}
use Rattle.integers.proofs.Tests.{ranged}
use Rattle.std.specs.declared.cmp.Ordering.{Ordering}
use Rattle.fractions.specs.Point.{whole_of}
use Rattle.line_segment.specs.Piece.{point_of, end_order}
use Rattle.place.specs.Place.{along_by, along_of}
use Rattle.exact_place.proofs.along.Goals as goal
use Rattle.exact_place.proofs.along.Goals.{After-compare_points}

by_order : (c : After-compare_points) (o : Ordering) → c.compare_points.result ≡ o
    → along_by o c.whole-from.result c.whole-to.result ≡ along_of c.args.s
unfolding along_of point_of end_order
by_order c o e =
    let from = c.whole-from.ensures ∙ ap₂ whole_of (m_eq (search ranged depth 60 fits 20000) tt) (m_eq (search ranged depth 60 fits 20000) tt) in
    let to = c.whole-to.ensures ∙ ap₂ whole_of (m_eq (search ranged depth 60 fits 20000) tt) (m_eq (search ranged depth 60 fits 20000) tt) in
    rw (sym e ∙ c.compare_points.ensures, from, to)

pub returns-in-Less : goal.returns-in-Less
unfolding along_by
returns-in-Less c = by_order c.before Ordering.Less c.in-Less.is

pub returns-in-Equal : goal.returns-in-Equal
unfolding along_by
returns-in-Equal c = by_order c.before Ordering.Equal c.in-Equal.is

pub returns-in-Greater : goal.returns-in-Greater
unfolding along_by
returns-in-Greater c = by_order c.before Ordering.Greater c.in-Greater.is
