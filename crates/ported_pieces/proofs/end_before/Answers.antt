-- `ported_pieces::end_before` meets its contract: the numbers of the array compare as the points do.
use mir.Syntax.{w16}
use mir.ValLaws.{to_z-of_z}
use Rattle.integers.proofs.Tests.{ranged, m_yes, m_no}
use Rattle.ported_pieces.proofs.Ends.{left_of, right_of, below}
use Rattle.ported_pieces.proofs.end_before.Goals as goal

pub returns-then-x-u : goal.returns-then-x-u
returns-then-x-u c n =
    left_of n _ _ _ c.place_of-i.ensures c.place_of-j.ensures c.number-x.ensures c.number-u.ensures
    (m_yes c.if-x-u.true (search ranged depth 60 fits 20000) tt)

pub returns-then-u-x : goal.returns-then-u-x
returns-then-u-x c n =
    right_of n _ _ _ c.place_of-i.ensures c.place_of-j.ensures c.number-x.ensures c.number-u.ensures
    (m_yes c.if-u-x.true (search ranged depth 60 fits 20000) tt)

pub returns : goal.returns
returns c n =
    rw (to_z-of_z w16 c.number-y.result (record { sfits = c.number-y.type_inv }), to_z-of_z w16 c.number-v.result (record { sfits = c.number-v.type_inv }))
    (below n _ _ _ c.place_of-i.ensures c.place_of-j.ensures c.number-x.ensures c.number-u.ensures
    (m_no c.if-x-u.false (search ranged depth 60 fits 20000) tt)
    (m_no c.if-u-x.false (search ranged depth 60 fits 20000) tt)
    c.number-y.ensures c.number-v.ensures)
