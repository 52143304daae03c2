-- What is promised of the list of all pairs.
use Rattle.std.specs.Prelude.{◌≡◌, ◌⊎◌, ◌≢◌, ◌↔◌, List, ℕ, ◌<◌, ℤ}
use mathlib.Core.List.{Memᴰ as In}
use Rattle.line_segment.specs.Demand.{Meet}
use Rattle.charts.specs.Verdict.{Accepted}
use Rattle.charts.specs.Chart.{verdict_of}
use Rattle.charts.specs.Piece.{piece_at}
pub use Rattle.charts.specs.PairList.{Pairwise}
use Rattle.naive.specs.Pairs.{Pair}
use Rattle.naive.specs.AllPairs.{pairs_of}

-- a pair is listed exactly when its two pieces have a common point, the greater number first
abbrev pub ListsExactly : Type 0
ListsExactly =
    (list : List ℤ) (n : ℕ) → verdict_of list ≡ Accepted n
    → (a b : ℕ) → In (a, b) (pairs_of list n) ↔ ((b < a) × (a < n) × Meet (piece_at list a) (piece_at list b))

-- "For a from 0, for b below a"
abbrev pub Before : Pair → Pair → Type 0
Before p q = (p.0 < q.0) ⊎ ((p.0 ≡ q.0) × (p.1 < q.1))

abbrev pub ListsInOrder : Type 0
ListsInOrder = (list : List ℤ) (n : ℕ) → Pairwise Before (pairs_of list n)

-- each pair is listed once
abbrev pub ListsOnce : Type 0
ListsOnce = (list : List ℤ) (n : ℕ) → Pairwise (λ p q. p ≢ q) (pairs_of list n)
