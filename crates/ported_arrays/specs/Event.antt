-- One step on arrays, at a point p that is the least of the ends and crossings that are left.
use Rattle.std.specs.Prelude.{Bool, cond, not, ◌&&◌, ◌||◌, List, [], ◌∷◌, ◌++◌, map, ℕ, suc, ◌+◌, ◌-◌, ◌/◌, eqb, length, get_or, set, take, replicate}
use Rattle.std.proofs.Math.Option.{Option, some}
use Rattle.charts.specs.Chart.{most}
use Rattle.sweep.specs.Lists.{keep, pairs, adjacent}
use Rattle.sweep.specs.Chart.{Chart}
use Rattle.sweep.specs.Step.{each}
use Rattle.ported_arrays.specs.Numbers.{pair_of, is_min, end_at, crossing_at}
use Rattle.ported_arrays.specs.Insertion.{insert_all, front, rest, join_all}
use Rattle.ported_arrays.specs.Ledger.{Ledger, report, examine}

-- numbers flagged with 1 in an array
unfoldable pub flag : List ℕ → List ℕ → List ℕ
flag [] l = l
flag (i ∷ is) l = flag is (set l i 1)

unfoldable pub flagged : List ℕ → ℕ → Bool
flagged l i = eqb (get_or l i 0) 1

-- the pieces that have an end, or both ends of a pair, among these numbers
unfoldable pub halves : List ℕ → List ℕ
halves es = map (λ e. e / 2) es

unfoldable pub pieces : List ℕ → List ℕ
pieces [] = []
pieces (c ∷ cs) = (pair_of c).0 ∷ (pair_of c).1 ∷ pieces cs

-- a waiting mark drops; a listed one stays
unfoldable pub free : ℕ → List ℕ → List ℕ
free c m = cond (eqb (get_or m c 0) 1) (set m c 0) m

unfoldable pub free_all : List ℕ → List ℕ → List ℕ
free_all [] m = m
free_all (c ∷ cs) m = free_all cs (free c m)

-- members added at the end while there is room
unfoldable pub add : ℕ → List ℕ → List ℕ → List ℕ
add room l xs = l ++ take (room - length l) xs

module _ (C : Chart) where
  open C use {Point, contains, before}

  pub record Sheet : Type 0 where
    -- the ends that are left, in order
    pub ends : List ℕ
    pub active : List ℕ
    pub ledger : Ledger
    pub last : Option Point
    pub steps : ℕ

  module _ (s : Sheet) (p : Point) where
    abbrev pub ends_here : List ℕ
    ends_here = front (end_at C p) s.ends

    abbrev pub crossings_here : List ℕ
    crossings_here = front (crossing_at C p) s.ledger.waiting

    unfoldable pub starting : List ℕ
    starting = flag (halves (keep is_min ends_here)) (replicate most 0)

    unfoldable pub finishing : List ℕ
    finishing = flag (halves (keep (λ e. not (is_min e)) ends_here)) (replicate most 0)

    unfoldable pub turning : List ℕ
    turning = flag (pieces crossings_here) (replicate most 0)

    unfoldable pub here : List ℕ
    here = join_all most (halves ends_here ++ (pieces crossings_here ++ keep (λ i. contains i p) s.active)) []

    -- the ledger with p's crossings dropped
    unfoldable pub dropped : Ledger
    dropped =
        record {
          marks = free_all crossings_here s.ledger.marks;
          waiting = rest (crossing_at C p) s.ledger.waiting;
          spare = s.ledger.spare + length crossings_here;
          bytes = s.ledger.bytes;
          end = s.ledger.end;
        }

    unfoldable pub stay : List ℕ
    stay = keep (λ i. not (flagged finishing i || flagged turning i)) s.active

    unfoldable pub enter : List ℕ
    enter = keep (λ i. (flagged starting i || flagged turning i) && not (flagged finishing i)) here

    unfoldable pub ranged : List ℕ
    ranged = insert_all (before p) [] (add most stay enter)

    unfoldable pub examined : Ledger
    examined = each (examine C p) (adjacent ranged) (each (examine C p) (adjacent stay) (each (report C) (pairs here) dropped))

    unfoldable pub step : Sheet
    step = record { ends = rest (end_at C p) s.ends; active = ranged; ledger = examined; last = some p; steps = suc s.steps }
