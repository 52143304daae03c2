-- What is promised of the call for all pairs: of what it returns, and of the pairs that its caller reads in the lent bytes.
use Rattle.std.specs.Prelude.{◌≡◌, ◌≢◌, ◌↔◌, List, ℕ, ◌*◌, ◌<◌, ℤ, length, take}
use mathlib.Core.List.{Memᴰ as In}
use Rattle.line_segment.specs.Demand.{Meet}
use Rattle.charts.specs.declared.Answer.{Answer}
use Rattle.charts.specs.Verdict.{Refused}
use Rattle.charts.specs.Answer.{refused_with}
use Rattle.charts.specs.Demand.{ListingDue}
use Rattle.charts.specs.PairList.{pairs_in}
use Rattle.charts.specs.Piece.{piece_at}
use Rattle.naive.specs.Pairs.{bytes, over}
use Rattle.naive.specs.AllPairs.{all_pairs_of, lent_after}
use Rattle.sweep.specs.Lists.{Pair, Pairwise}
use Rattle.promises.specs.Refusals.{RefusalPromises}
use Rattle.promises.specs.Chart.{Accepts, NumbersBefore}

-- which answers and which bytes afterwards a call allows
abbrev pub Outcome : Type 1
Outcome = List ℤ → List ℕ → Answer → List ℕ → Type 0

-- what the contract of `all_pairs` allows
pub record Allowed (list : List ℤ) (lent : List ℕ) (r : Answer) (after : List ℕ) : Type 0 where
  pub returned : r ≡ all_pairs_of list (length lent)
  pub left : after ≡ lent_after list lent

-- "two [bytes] a pair"
abbrev pub listed_in : Answer → List ℕ → List Pair
listed_in r after = pairs_in (take (2 * r.count) after)

module _ (Allowed : Outcome) where
  -- every accepted list, all lent bytes
  abbrev pub OnEveryChart : (List ℤ → ℕ → List ℕ → Answer → List ℕ → Type 0) → Type 0
  OnEveryChart P =
      (list : List ℤ) (n : ℕ) (lent : List ℕ) (r : Answer) (after : List ℕ)
      → Accepts list lent n → Allowed list lent r after → P list n lent r after

  -- a pair is listed exactly when its two pieces have a common point, "greater number first"
  abbrev pub ListsExactly : Type 0
  ListsExactly =
      OnEveryChart (λ list n lent r after.
      (a b : ℕ) → In (a, b) (listed_in r after) ↔ ((b < a) × (a < n) × Meet (piece_at list a) (piece_at list b)))

  -- "For a from 0, for b below a"
  abbrev pub ListsInOrder : Type 0
  ListsInOrder = OnEveryChart (λ list n lent r after. Pairwise NumbersBefore (listed_in r after))

  abbrev pub ListsOnce : Type 0
  ListsOnce = OnEveryChart (λ list n lent r after. Pairwise (λ q s. q ≢ s) (listed_in r after))

  -- "a list-making call [returns] the count of pairs"; "bytes past the last pair keep their values"
  abbrev pub KeepsTheRest : Type 0
  KeepsTheRest =
      OnEveryChart (λ list n lent r after.
      (r.count ≡ length (listed_in r after)) × (after ≡ over (bytes (listed_in r after)) lent))

  abbrev pub Refusals : Type 0
  Refusals =
      RefusalPromises {I = List ℤ × List ℕ} {O = Answer × List ℕ}
      (λ i k p. ListingDue i.0 (length i.1) (Refused k p))
      (λ i. (n : ℕ) × Accepts i.0 i.1 n)
      (λ i o. Allowed i.0 i.1 o.0 o.1)
      (λ o. o.0.number) (λ o. o.0.place)
      (λ i k p. (refused_with k p, i.1))

  pub record AllPairsPromises : Type 0 where
    pub lists_exactly : ListsExactly
    pub lists_in_order : ListsInOrder
    pub lists_once : ListsOnce
    pub keeps_the_rest : KeepsTheRest
    pub refusals : Refusals
