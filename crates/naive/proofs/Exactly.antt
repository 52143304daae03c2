-- The promises of specs/Demand.
-- Assumes nothing.
use mathlib.Core.Path.{◌≡◌}
use mathlib.Core.Bool.{true}
use mathlib.Core.Logic.{◌↔◌}
use Prim.Native.Nat.{◌<◌}
use native.Mathlib.Omega.{arith}
use Rattle.line_segment.specs.Demand.{Meet}
use Rattle.line_segment.proofs.Promises.{says_yes_exactly}
use Rattle.charts.specs.Piece.{piece_at}
use Rattle.charts.proofs.Accepted.{pieces_have_length}
use Rattle.naive.specs.AllPairs.{meets, pairs_of}
use Rattle.naive.specs.Demand.{ListsExactly, ListsInOrder, ListsOnce}
use Rattle.naive.proofs.Listed.{rows_say, rows_have, rows_ascend, once}

pub lists_in_order : ListsInOrder
unfolding pairs_of
lists_in_order list n = rows_ascend (meets list) n

pub lists_once : ListsOnce
lists_once list n = once (pairs_of list n) (lists_in_order list n)

pub lists_exactly : ListsExactly
unfolding pairs_of meets
lists_exactly list n e a b = (
  λ m. let r = rows_say (meets list) n (a, b) m in (r.greater, r.below, (test r.greater r.below).0 r.met),
  λ h. rows_have (meets list) n a b h.1 h.0 ((test h.0 h.1).1 h.2),
)
  where
    test : b < a → a < n → (meets list a b ≡ true) ↔ Meet (piece_at list a) (piece_at list b)
    test h l = says_yes_exactly (piece_at list a) (piece_at list b) (pieces_have_length list n a e l) (pieces_have_length list n b e (omega arith))
