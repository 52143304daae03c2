-- What the call leaves, where it is refused and where it is done.
-- Assumes nothing.
use mathlib.Core.Path.{◌≡◌, refl}
use mathlib.Core.List.{List}
use Prim.Native.Nat.{ℕ}
use lib.IntN.{ℤ}
use lib.ListN.{length}
use Rattle.charts.specs.Answer.{done_with, refused_with, listing_of}
use Rattle.charts.specs.Verdict.{Accepted, Refused}
use Rattle.naive.specs.Pairs.{bytes, over}
use Rattle.naive.specs.AllPairs.{pairs_of, all_pairs_of, lent_after}

module _ (list : List ℤ) (lent : List ℕ) where
  pub refused_outcome : (k place : ℕ) → listing_of list (length lent) ≡ Refused k place
      → (refused_with k place ≡ all_pairs_of list (length lent)) × (lent ≡ lent_after list lent)
  unfolding all_pairs_of lent_after
  refused_outcome k place e = rw e (refl, refl)

  pub done_outcome : (n : ℕ) → listing_of list (length lent) ≡ Accepted n
      → (done_with (length (pairs_of list n)) ≡ all_pairs_of list (length lent)) × (over (bytes (pairs_of list n)) lent ≡ lent_after list lent)
  unfolding all_pairs_of lent_after
  done_outcome n e = rw e (refl, refl)
