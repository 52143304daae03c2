use mathlib.Core.Path.{◌≡◌}
use Prim.Native.Nat.{◌+◌, ◌*◌}
use lib.ListN.{length}
use lib.Seq.{sets}
use Rattle.naive.specs.Pairs.{row, rows, bytes}
use Rattle.naive.specs.Decoded.{meets_in}
use Rattle.all_pairs.proofs.list_pairs.Given as goal

abbrev pub invariant-loop-b : goal.invariant-loop-b
invariant-loop-b l = (l.k ≡ l.initial.k + length (row (meets_in l.fn.pieces.all) l.a l.b)) × (l.pairs ≡ sets l.initial.pairs (2 * l.initial.k) (bytes (row (meets_in l.fn.pieces.all) l.a l.b)))

abbrev pub invariant-loop-a : goal.invariant-loop-a
invariant-loop-a l = (l.k ≡ length (rows (meets_in l.fn.pieces.all) l.a)) × (l.pairs ≡ sets l.initial.pairs 0 (bytes (rows (meets_in l.fn.pieces.all) l.a)))
