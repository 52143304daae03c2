use mathlib.Core.Path.{◌≡◌}
use lib.ListN.{length, take}
use Rattle.naive.specs.Decoded.{pieces_of}
use Rattle.all_pairs.proofs.pieces_of.Given as goal

abbrev pub invariant-loop-i : goal.invariant-loop-i
invariant-loop-i l = (length l.piece-items ≡ l.n) × (take l.i l.piece-items ≡ pieces_of l.list l.i)
