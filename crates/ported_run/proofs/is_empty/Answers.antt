-- `ported_run::is_empty` meets its contract: the queue is empty where there is no next point.
use Rattle.ported_run.proofs.Running.{emptied}
use Rattle.ported_run.proofs.is_empty.Goals as goal

pub returns : goal.returns
returns c n = emptied n _ _ _ (c.next_point.ensures n) c.is_none.ensures
