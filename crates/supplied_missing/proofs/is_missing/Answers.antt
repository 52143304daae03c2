-- `supplied_missing::is_missing` meets its contract: a pair that is named is not asked.
use Rattle.supplied_missing.proofs.is_missing.Goals as goal

pub returns : goal.returns
returns c = rw (c.if-named.false, c.meets.ensures)
