-- `outline::number_at` meets its contract: past the end the definition reads 0 too.
use borrow.Author.Rules.{rules}
use mathlib.Core.Path.{sym}
use native.Mathlib.Omega.{arith}
use lib.IntN.{pos}
use lib.ListN.{get_or-eq_default}
use Rattle.outline.specs.Outline.{number_at}
use Rattle.outline.proofs.number_at.Goals as goal

pub returns-then-outline-i : goal.returns-then-outline-i
unfolding number_at
returns-then-outline-i c = sym (get_or-eq_default c.args.outline.now (pos 0) (omega arith))

pub returns-then-outline-at : goal.returns-then-outline-at
unfolding number_at
returns-then-outline-at c = sym (get_or-eq_default c.args.outline.now (pos 0) (omega arith))

pub returns : goal.returns
unfolding number_at
returns c = search rules
