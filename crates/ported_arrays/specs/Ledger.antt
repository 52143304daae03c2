-- The pairs of the chart on arrays: a mark for each (0 free, 1 waiting, 2 listed), the waiting ones in the order of their
-- crossings with so many places to spare, and the lent bytes, of which those before `end` hold the list.
use Rattle.std.specs.Prelude.{cond, not, ◌&&◌, List, ℕ, ◌+◌, ◌-◌, eqb, ltb, length, get_or, set}
use Rattle.sweep.specs.Lists.{Pair, place}
use Rattle.sweep.specs.Chart.{Kind, nothing, crosses, overlaps, Chart, meets, kind, at}
use Rattle.ported_arrays.specs.Numbers.{cell, crossing_before}

pub record Ledger : Type 0 where
  pub marks : List ℕ
  pub waiting : List ℕ
  pub spare : ℕ
  pub bytes : List ℕ
  pub end : ℕ

unfoldable pub mark : Ledger → Pair → ℕ
mark s q = get_or s.marks (cell q) 0

-- two bytes at a place, where there is room for them, and the place after them
unfoldable pub put : Pair → ℕ → List ℕ → List ℕ
put q at l = cond (ltb (at + 1) (length l)) (set (set l at q.0) (at + 1) q.1) l

unfoldable pub past : ℕ → List ℕ → ℕ
past at l = cond (ltb (at + 1) (length l)) (at + 2) at

unfoldable pub list : Pair → Ledger → Ledger
list q s =
    record {
      marks = set s.marks (cell q) 2;
      waiting = s.waiting;
      spare = s.spare;
      bytes = put q s.end s.bytes;
      end = past s.end s.bytes;
    }

module _ (C : Chart) where
  open C use {Point, less}

  unfoldable pub wait : Pair → Ledger → Ledger
  wait q s =
      record {
        marks = set s.marks (cell q) 1;
        waiting = cond (eqb s.spare 0) s.waiting (place (crossing_before C) (cell q) s.waiting);
        spare = s.spare - 1;
        bytes = s.bytes;
        end = s.end;
      }

  unfoldable pub report : Pair → Ledger → Ledger
  report q s = cond (not (eqb (mark s q) 2) && meets (kind C q)) (list q s) s

  unfoldable pub examine_free : Point → Kind → Pair → Ledger → Ledger
  examine_free p nothing q s = s
  examine_free p overlaps q s = list q s
  examine_free p crosses q s = cond (less p (at C q)) (wait q s) (list q s)

  unfoldable pub examine : Point → Pair → Ledger → Ledger
  examine p q s = cond (eqb (mark s q) 0) (examine_free p (kind C q) q s) s
