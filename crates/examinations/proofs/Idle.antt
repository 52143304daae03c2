-- Where the queue is empty no step is done, and nothing more is examined.
use mathlib.Core.Path.{◌≡◌, refl, ap, ◌∙◌}
use mathlib.Core.Option.{none}
use Prim.Native.Nat.{ℕ, zero, suc, ◌+◌, ◌-◌, ◌≤◌}
use native.Mathlib.Nat.{suc-add, zero-add}
use native.Mathlib.Omega.{arith}
use Rattle.sweep.specs.Chart.{Chart}
use Rattle.sweep.specs.State.{start}
use Rattle.sweep.specs.Queue.{next}
use Rattle.sweep.specs.Run.{move_to, move, onwards, run}
use Rattle.examinations.specs.Examined.{examined_on, examined_in, examined}

module _ (C : Chart) (m : ℕ) (e : next C (onwards C m (start C)) ≡ none) where
  idle : (k : ℕ) → onwards C (k + m) (start C) ≡ onwards C m (start C)
  unfolding onwards move move_to
  idle zero = rw (zero-add m)
  idle (suc k) = rw (suc-add k m, idle k, e)

  still : (k : ℕ) → examined C (k + m) ≡ examined C m
  unfolding examined
  still zero = rw (zero-add m)
  still (suc k) =
      let f : examined_in C (k + m) ≡ 0 = unfold examined_in examined_on run in rw (idle k, e) refl in
      rw (suc-add k m) (omega (arith, still k, f))

  pub still_to : (k : ℕ) → m ≤ k → examined C k ≡ examined C m
  still_to k h = let f : k ≡ (k - m) + m = omega arith in ap (examined C) f ∙ still (k - m)
