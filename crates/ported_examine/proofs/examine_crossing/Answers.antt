-- `ported_examine::examine_crossing` meets its contract.
use mathlib.Core.Path.{refl, sym, ◌∙◌}
use Rattle.ported_arrays.specs.Ledger.{examine_free}
use Rattle.ported_examine.proofs.examine_crossing.Goals as goal

pub returns-then-crossing_beyond : goal.returns-then-crossing_beyond
unfolding examine_free
returns-then-crossing_beyond c n = c.wait_pair.ensures n c.args.bytes.now ∙ rw (sym (c.crossing_beyond.ensures n) ∙ c.if-crossing_beyond.true) refl

pub returns-else-crossing_beyond : goal.returns-else-crossing_beyond
unfolding examine_free
returns-else-crossing_beyond c n = c.list_pair.ensures.listed ∙ rw (sym (c.crossing_beyond.ensures n) ∙ c.if-crossing_beyond.false) refl
