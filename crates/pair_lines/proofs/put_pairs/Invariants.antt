use mathlib.Core.Path.{◌≡◌}
use Prim.Native.Nat.{◌*◌}
use lib.ListN.{drop}
use Rattle.decimals.specs.Text.{text as text_of, put}
use Rattle.listing_lines.specs.Lines.{pairs_in, pair_lines}
use Rattle.pair_lines.proofs.put_pairs.Given as goal

abbrev pub invariant-loop-a : goal.invariant-loop-a
invariant-loop-a l = put (pair_lines l.list (pairs_in (drop (2 * l.a-index) l.pairs))) (text_of l.text l.next) ≡ put (pair_lines l.list (pairs_in l.pairs)) (text_of l.initial.text l.end)
