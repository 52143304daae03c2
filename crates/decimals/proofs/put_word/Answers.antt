-- `decimals::put_word` meets its contract: what is left of the word is put where the text ends.
use mathlib.Core.Path.{sym, ◌∙◌}
use native.Mathlib.Omega.{arith}
use Rattle.decimals.proofs.Puts.{put_next, put_end}
use Rattle.decimals.proofs.put_word.Goals as goal

pub loop-byte-preserved : goal.loop-byte-preserved
loop-byte-preserved c =
    put_next c.args.word.now c.loop-byte.byte-index _ (omega arith) c.put_byte-next.ensures ∙ c.loop-byte.invariant

pub returns : goal.returns
returns c = let l = c.loop-byte in sym (put_end _ l.byte-index _ (omega arith)) ∙ l.invariant
