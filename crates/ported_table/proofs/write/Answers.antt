-- `ported_table::write` meets its contract: five numbers, one after the other.
use mathlib.Core.Path.{◌∙◌}
use mir.Syntax.{w16}
use mir.Facts.{to_z-of_z}
use Rattle.integers.proofs.Machine.{m_eq}
use Rattle.integers.proofs.Tests.{ranged}
use Rattle.ported_table.proofs.Filling.{all_five}
use Rattle.ported_table.proofs.write.Goals as goal

pub returns : goal.returns
returns c =
    all_five c.args.table.now c.args.i c.args.s
    c.put.ensures (m_eq (search ranged depth 60 fits 20000) tt)
    c.put-2.ensures (m_eq (search ranged depth 60 fits 20000) tt)
    c.put-3.ensures (m_eq (search ranged depth 60 fits 20000) tt)
    c.put-4.ensures (m_eq (search ranged depth 60 fits 20000) tt)
    (to_z-of_z {w = w16} (record { sfits = c.marks_of.type_inv }) ∙ c.marks_of.ensures) c.put-5.ensures
