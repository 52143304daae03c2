-- One step of the sweep, at a point p that is taken from the queue.
use Rattle.std.specs.Prelude.{Bool, cond, ◌&&◌, ◌||◌, not, List, [], ◌∷◌, ◌++◌, ℕ, suc, eqb}
use Rattle.std.proofs.Math.Option.{some}
use Rattle.sweep.specs.Lists.{Pair, among, upto, keep, any, place, sort, pairs, adjacent}
use Rattle.sweep.specs.Chart.{Kind, nothing, crosses, overlaps, Chart, meets, same, kind, at}
use Rattle.sweep.specs.State.{Marks, State}

-- a pair goes to the end of the list
unfoldable pub list : Pair → Marks → Marks
list q m = record { waiting = m.waiting; listed = m.listed ++ (q ∷ []) }

-- pair by pair, in order
unfoldable pub each : {S : Type 0} → (Pair → S → S) → List Pair → S → S
each f [] m = m
each f (q ∷ l) m = each f l (f q m)

module _ (C : Chart) where
  open C use {Point, less, n, min, max, contains, before}

  -- "pieces that start, finish or cross there"
  unfoldable pub starts : Point → ℕ → Bool
  starts p i = same C (min i) p

  unfoldable pub finishes : Point → ℕ → Bool
  finishes p i = same C (max i) p

  unfoldable pub turns : State C → Point → ℕ → Bool
  turns s p i = any (λ q. same C (at C q) p && (eqb i q.0 || eqb i q.1)) s.marks.waiting

  -- "Its pieces are those three sets and all active pieces that contain p, in number order."
  unfoldable pub takes_part : State C → Point → ℕ → Bool
  takes_part s p i = starts p i || finishes p i || turns s p i || (any (eqb i) s.active && contains i p)

  unfoldable pub pieces : State C → Point → List ℕ
  pieces s p = keep (takes_part s p) (upto n)

  -- "Each pair (i, j), i < j, in order, that is not yet listed and passes the test (i asking) is listed."
  unfoldable pub report : Pair → Marks → Marks
  report q m = cond (not (among q m.listed) && meets (kind C q)) (list q m) m

  -- "Waiting marks of p's crossings drop."
  unfoldable pub drop : Point → Marks → Marks
  drop p m = record { waiting = keep (λ q. not (same C (at C q) p)) m.waiting; listed = m.listed }

  unfoldable pub reported : State C → Point → Marks
  reported s p = drop p (each report (pairs (pieces s p)) s.marks)

  -- a pair begins to wait, in its place by its crossing
  unfoldable pub wait : Pair → Marks → Marks
  wait q m = record { waiting = place (λ r t. less (at C r) (at C t)) q m.waiting; listed = m.listed }

  -- "Examining skips a listed or waiting pair. An Overlap is listed. A Crossing at or before p is listed, one after p
  -- is queued and waits."
  unfoldable pub examine_free : Point → Kind → Pair → Marks → Marks
  examine_free p nothing q m = m
  examine_free p overlaps q m = list q m
  examine_free p crosses q m = cond (less p (at C q)) (wait q m) (list q m)

  unfoldable pub examine : Point → Pair → Marks → Marks
  examine p q m = cond (among q m.listed || among q m.waiting) m (examine_free p (kind C q) q m)

  -- "Finishing and crossing pieces leave the active list."
  unfoldable pub stay : State C → Point → List ℕ
  stay s p = keep (λ i. not (finishes p i || turns s p i)) s.active

  -- "Starting pieces enter, and crossing ones that don't finish."
  unfoldable pub enter : State C → Point → List ℕ
  enter s p = keep (λ i. (starts p i || turns s p i) && not (finishes p i)) (upto n)

  -- "The active list is sorted by height at p's x, then slope, then number."
  unfoldable pub ranged : State C → Point → List ℕ
  ranged s p = sort (before p) (stay s p ++ enter s p)

  -- "Each adjacent pair is examined, in order. .. Adjacent pairs are examined again."
  unfoldable pub examined : State C → Point → Marks
  examined s p = each (examine p) (adjacent (ranged s p)) (each (examine p) (adjacent (stay s p)) (reported s p))

  unfoldable pub step : State C → Point → State C
  step s p = record { active = ranged s p; marks = examined s p; last = some p; steps = suc s.steps }
