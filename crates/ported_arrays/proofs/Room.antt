-- Pairs of pieces, each once, have room in what every pair of them has room in.
use mathlib.Core.Path.{◌≡◌, sym, ap}
use mathlib.Core.Logic.{◌≢◌}
use mathlib.Core.List.{List, [], ◌∷◌, map}
use mathlib.Core.List.{Memᴰ as In}
use Prim.Native.Nat.{ℕ, ◌+◌, ◌≤◌}
use native.Mathlib.Omega.{arith}
use lib.ListN.{length, length-append, length-map}
use Rattle.charts.specs.Answer.{room}
use Rattle.charts.proofs.Room.{room_none, room_more}
use Rattle.sweep.specs.Lists.{Pair, upto, pairs, Pairwise}
use Rattle.sweep.specs.Chart.{Chart}
use Rattle.sweep.specs.Sought.{all}
use Rattle.sweep.specs.Demand.{Pieces}
use Rattle.sweep.proofs.Pairs.{upto_length}
use Rattle.sweep.proofs.Occurring.{all_in}
use Rattle.ported_arrays.proofs.Distinct.{distinct_fit}

pairs_twice : (l : List ℕ) → length (pairs l) + length (pairs l) ≡ room (length l)
unfolding pairs
pairs_twice [] = sym room_none
pairs_twice (i ∷ l) =
    omega (arith, length-append (map (λ (j : ℕ). (i, j)) l) (pairs l), length-map {B = Pair} l (λ (j : ℕ). (i, j)), pairs_twice l, room_more (length l))

module _ (C : Chart) where
  pub all_twice : length (all C) + length (all C) ≡ room C.n
  unfolding all
  all_twice = omega (arith, pairs_twice (upto C.n), ap room (upto_length C.n))

  pub once_twice : (l : List Pair) → Pairwise (λ q r. q ≢ r) l → ((q : Pair) → In q l → Pieces C q) → length l + length l ≤ room C.n
  once_twice l once out = omega (arith, distinct_fit l (all C) once (λ q m. all_in C q (out q m)), all_twice)
