-- Pairs read back from the bytes that hold them.
-- Assumes nothing.
use mathlib.Core.Path.{◌≡◌, refl, ap, ◌∙◌}
use mathlib.Core.List.{List, [], ◌∷◌}
use Prim.Native.Nat.{ℕ, ◌*◌}
use native.Mathlib.Omega.{arith}
use lib.ListN.{length, take, drop}
use lib.Seq.{take_at}
use Rattle.charts.specs.PairList.{pairs_in}
use Rattle.naive.specs.Pairs.{Pair, bytes, over}
use Rattle.naive.proofs.Rows.{bytes_length}

pairs_again : (ps : List Pair) → pairs_in (bytes ps) ≡ ps
unfolding pairs_in bytes
pairs_again [] = refl
pairs_again (p ∷ ps) = ap (λ (l : List Pair). p ∷ l) (pairs_again ps)

pub read_back : (ps : List Pair) (lent : List ℕ) → pairs_in (take (2 * length ps) (over (bytes ps) lent)) ≡ ps
unfolding over
read_back ps lent = rw (take_at (bytes ps) (drop (length (bytes ps)) lent) (2 * length ps) (bytes_length ps ∙ omega arith)) (pairs_again ps)
