-- `ported_pieces::piece` meets its contract: the five numbers are the array's.
use borrow.Author.Rules.{rules}
use mathlib.Core.Path.{◌∙◌}
use mir.Syntax.{w16}
use mir.ValLaws.{to_z-of_z}
use Rattle.ported_pieces.proofs.Pieces.{the_piece}
use Rattle.ported_pieces.proofs.piece.Goals as goal

pub returns-then-at-table : goal.returns-then-at-table
returns-then-at-table c =
    the_piece _ _ c.of_numbers.ensures
    (to_z-of_z w16 _ (search rules)) (to_z-of_z w16 _ (search rules)) (to_z-of_z w16 _ (search rules)) (to_z-of_z w16 _ (search rules)) (to_z-of_z w16 _ (search rules))

pub returns-else-at-table : goal.returns-else-at-table
returns-else-at-table c =
    the_piece _ _ c.of_numbers-else-at-table.ensures
    (to_z-of_z w16 _ (search rules) ∙ c.number.ensures)
    (to_z-of_z w16 _ (search rules) ∙ c.number-else-at-table.ensures)
    (to_z-of_z w16 _ (search rules) ∙ c.number-else-at-table-2.ensures)
    (to_z-of_z w16 _ (search rules) ∙ c.number-else-at-table-3.ensures)
    (to_z-of_z w16 _ (search rules) ∙ c.number-else-at-table-4.ensures)
