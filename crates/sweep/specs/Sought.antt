-- What the sweep is to find, told without a sweep: the points in order, and at each the pairs that meet first there.
use Rattle.std.specs.Prelude.{Bool, true, false, cond, ◌&&◌, List, [], ◌∷◌, ◌++◌, map}
use Rattle.sweep.specs.Lists.{Pair, upto, keep, pairs}
use Rattle.sweep.specs.Chart.{Kind, nothing, crosses, overlaps, Chart, meets, same, kind, at}
use Rattle.sweep.specs.Queue.{ends}

unfoldable pub is_crossing : Kind → Bool
is_crossing nothing = false
is_crossing crosses = true
is_crossing overlaps = false

module _ (C : Chart) where
  open C use {Point, less, n, min}

  -- every two pieces, in number order
  unfoldable pub all : List Pair
  all = pairs (upto n)

  unfoldable pub later : Point → Point → Point
  later p q = cond (less p q) q p

  -- "First common point of a pair that meets: the least point of the common part with its ends added, included or
  -- not. For a crossing it is the crossing." Of a pair that does not meet it is not asked.
  unfoldable pub first_by : Kind → Pair → Point
  first_by nothing q = min q.0
  first_by crosses q = at C q
  first_by overlaps q = later (min q.0) (min q.1)

  unfoldable pub first : Pair → Point
  first q = first_by (kind C q) q

  -- the points that occur: all ends, and where two pieces cross
  unfoldable pub occurring : List Point
  occurring = ends C (upto n) ++ map (at C) (keep (λ q. is_crossing (kind C q)) all)

  -- a point put in its place, unless it stands there
  unfoldable pub settle : Point → List Point → List Point
  settle p [] = p ∷ []
  settle p (q ∷ l) = cond (less p q) (p ∷ q ∷ l) (cond (less q p) (q ∷ settle p l) (q ∷ l))

  unfoldable pub settled : List Point → List Point
  settled [] = []
  settled (p ∷ l) = settle p (settled l)

  -- in order, each once
  unfoldable pub points : List Point
  points = settled occurring

  -- the pairs whose first common point is p, in number order
  unfoldable pub pairs_at : Point → List Pair
  pairs_at p = keep (λ q. meets (kind C q) && same C (first q) p) all

  unfoldable pub pairs_along : List Point → List Pair
  pairs_along [] = []
  pairs_along (p ∷ l) = pairs_at p ++ pairs_along l

  -- every pair that meets, in number order
  unfoldable pub meeting : List Pair
  meeting = keep (λ q. meets (kind C q)) all
