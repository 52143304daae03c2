-- `ported_pieces::end_at` meets its contract: the end and p are one point where neither is less.
use mathlib.Core.Path.{◌∙◌}
use Rattle.ported_pieces.proofs.Ends.{end_at_is}
use Rattle.ported_pieces.proofs.end_at.Goals as goal

pub returns : goal.returns
returns c n =
    c.same.ensures
    ∙ rw (c.end_point.ensures n) (end_at_is n _ _ _)
