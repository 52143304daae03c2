-- A run on arrays.
use Rattle.std.specs.Prelude.{cond, List, [], ◌∷◌, ℕ, zero, suc, ◌*◌, replicate}
use Rattle.std.proofs.Math.Option.{Option, none, some}
use Rattle.charts.specs.Chart.{most}
use Rattle.sweep.specs.Lists.{upto}
use Rattle.sweep.specs.Chart.{Chart, at}
use Rattle.ported_arrays.specs.Numbers.{pair_of, end_of, end_before}
use Rattle.ported_arrays.specs.Insertion.{insert_all}
use Rattle.ported_arrays.specs.Event.{Sheet, step}

-- every pair free
unfoldable pub blank : List ℕ
blank = replicate (most * most) 0

module _ (C : Chart) where
  open C use {Point, less, n}

  -- the next end, or the first crossing where that is before it
  unfoldable pub next_by' : List ℕ → List ℕ → Option Point
  next_by' [] [] = none
  next_by' [] (c ∷ cs) = some (at C (pair_of c))
  next_by' (e ∷ es) [] = some (end_of C e)
  next_by' (e ∷ es) (c ∷ cs) = cond (less (at C (pair_of c)) (end_of C e)) (some (at C (pair_of c))) (some (end_of C e))

  unfoldable pub next : Sheet C → Option Point
  next s = next_by' s.ends s.ledger.waiting

  unfoldable pub move_to : Sheet C → Option Point → Sheet C
  move_to s none = s
  move_to s (some p) = step C s p

  unfoldable pub onwards : ℕ → Sheet C → Sheet C
  onwards zero s = s
  onwards (suc m) s = move_to (onwards m s) (next (onwards m s))

  -- all ends in order, no piece active, every pair free, and nothing written
  unfoldable pub start : ℕ → List ℕ → Sheet C
  start spare bytes =
      record {
        ends = insert_all (end_before C) [] (upto (2 * n));
        active = [];
        ledger = record { marks = blank; waiting = []; spare = spare; bytes = bytes; end = 0 };
        last = none;
        steps = 0;
      }
