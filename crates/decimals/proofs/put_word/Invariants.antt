use mathlib.Core.Path.{◌≡◌}
use lib.ListN.{drop}
use Rattle.decimals.specs.Text.{text as text_of, put}
use Rattle.decimals.proofs.put_word.Given as goal

abbrev pub invariant-loop-byte : goal.invariant-loop-byte
invariant-loop-byte l = put (drop l.byte-index l.word) (text_of l.text l.next) ≡ put l.word (text_of l.initial.text l.end)
