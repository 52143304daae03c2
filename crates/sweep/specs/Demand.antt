-- What is promised of a sweep on a chart, each promise under the sentence that it states. The statements are over a run,
-- of whichever mode: the points visited and the answer, by budget.
use Rattle.std.specs.Prelude.{◌≡◌, ◌⊎◌, ◌≢◌, ◌↔◌, Bool, true, false, List, ◌++◌, ℕ, suc, ◌+◌, ◌*◌, ◌≤◌, ◌<◌, min, length, take}
use Rattle.std.proofs.Math.Option.{Option, none, some}
use mathlib.Core.List.{Memᴰ as In}
use Rattle.sweep.specs.Lists.{Pair, last_of, Pairwise}
use Rattle.sweep.specs.Chart.{Chart, meets, kind}
use Rattle.sweep.specs.Run.{Answer, run, onwards, visited, answer}
use Rattle.sweep.specs.Sought.{first, points, pairs_along, meeting}
use Rattle.sweep.specs.Geometry.{Occurs}

module _ (C : Chart) where
  open C use {Point, less, n}

  pub record Run : Type 0 where
    pub visited : ℕ → List Point
    pub answer : ℕ → Answer C

  -- the run of the ported mode
  abbrev pub ported_run : Run
  ported_run = record { visited = visited C; answer = answer C }

  -- two pieces, the lesser number first
  abbrev pub Pieces : Pair → Type 0
  Pieces q = (q.0 < q.1) × (q.1 < n)

  -- "at or before the last point visited, none at zero steps"
  abbrev pub Behind : Option Point → Point → Type 0
  Behind none p = ⊥
  Behind (some l) p = less l p ≡ false

  -- "by first common point, then lesser number, then greater"
  abbrev pub NumbersBefore : Pair → Pair → Type 0
  NumbersBefore q r = (q.0 < r.0) ⊎ ((q.0 ≡ r.0) × (q.1 < r.1))

  abbrev pub Before : Pair → Pair → Type 0
  Before q r = (less (first C q) (first C r) ≡ true) ⊎ ((first C q ≡ first C r) × NumbersBefore q r)

  module _ (R : Run) where
    -- wherever it is stopped, the points visited are the first of the ends and the crossings in order, and the list holds,
    -- point by point, the pairs that meet first there, in number order
    pub record Sweeps (budget : ℕ) : Type 0 where
      pub visits : R.visited budget ≡ take budget (points C)
      pub lists : (R.answer budget).listed ≡ pairs_along C (take budget (points C))

    abbrev pub SweepsAlways : Type 0
    SweepsAlways = (budget : ℕ) → Sweeps budget

    -- "exactly the meeting pairs whose first common point is at or before the last point visited"
    abbrev pub ListsExactly : Type 0
    ListsExactly =
        (budget : ℕ) (q : Pair) → In q (R.answer budget).listed ↔ (Pieces q × (meets (kind C q) ≡ true) × Behind (R.answer budget).last (first C q))

    -- "listed once each"
    abbrev pub ListsOnce : Type 0
    ListsOnce = (budget : ℕ) → Pairwise (λ q r. q ≢ r) (R.answer budget).listed

    -- "by first common point, then lesser number, then greater"
    abbrev pub ListsInOrder : Type 0
    ListsInOrder = (budget : ℕ) → Pairwise Before (R.answer budget).listed

    -- "the points visited are the first of the ends and the crossings, each once, in order"
    pub record VisitsInOrder : Type 0 where
      pub first_of : (budget : ℕ) → R.visited budget ≡ take budget (points C)
      pub all_of : (p : Point) → In p (points C) ↔ Occurs C p
      pub ascending : Pairwise (λ p q. less p q ≡ true) (points C)

    -- "steps done (the lesser of budget and steps to the empty queue)"
    abbrev pub CountsSteps : Type 0
    CountsSteps = (budget : ℕ) → (R.answer budget).steps ≡ min budget (length (points C))

    -- "the last point, or none after zero steps"
    abbrev pub LastVisited : Type 0
    LastVisited = (budget : ℕ) → (R.answer budget).last ≡ last_of (R.visited budget)

    -- "whether the queue is empty"
    abbrev pub EndsExactly : Type 0
    EndsExactly = (budget : ℕ) → ((R.answer budget).ended ≡ true) ↔ (length (points C) ≤ budget)

    -- "a full sweep of n pieces with k pairs takes at most 2n + k steps"
    abbrev pub StepsBounded : Type 0
    StepsBounded = (budget : ℕ) → (R.answer budget).steps ≤ 2 * n + length (meeting C)

    -- a full list holds every pair that meets
    abbrev pub ListsAll : Type 0
    ListsAll = (budget : ℕ) → (R.answer budget).ended ≡ true → (q : Pair) → In q (R.answer budget).listed ↔ In q (meeting C)

    -- "a smaller budget's list is the beginning of a larger one's"
    abbrev pub ListsOn : Type 0
    ListsOn = (a b : ℕ) → a ≤ b → (more : List Pair) × ((R.answer b).listed ≡ (R.answer a).listed ++ more)

    -- the answer tells of the points visited: the last, how many, and whether another step would visit no more
    pub record Tells : Type 0 where
      pub last_visited : LastVisited
      pub counts_visited : (budget : ℕ) → (R.answer budget).steps ≡ length (R.visited budget)
      pub ends_visited : (budget : ℕ) → ((R.answer budget).ended ≡ true) ↔ (R.visited (suc budget) ≡ R.visited budget)

    -- all of it, of one run
    pub record RunPromises : Type 0 where
      pub sweeps : SweepsAlways
      pub lists_exactly : ListsExactly
      pub lists_once : ListsOnce
      pub lists_in_order : ListsInOrder
      pub lists_all : ListsAll
      pub lists_on : ListsOn
      pub visits_in_order : VisitsInOrder
      pub last_visited : LastVisited
      pub counts_steps : CountsSteps
      pub steps_bounded : StepsBounded
      pub ends_exactly : EndsExactly

  -- of the ported mode
  abbrev pub Promises : Type 0
  Promises = RunPromises ported_run

  -- a run of a + b steps is a run of b after one of a
  abbrev pub RunsOn : Type 0
  RunsOn = (a b : ℕ) → run C (a + b) ≡ onwards C b (run C a)

  -- the ported mode on every chart whose points are in order, whatever the order of the active list: with upright pieces
  -- too, nothing is invented or listed twice, the sweep moves forward from end or crossing to end or crossing, and it ends
  pub record AlwaysPromises : Type 0 where
    pub visits_up : (budget : ℕ) → Pairwise (λ p q. less p q ≡ true) (visited C budget)
    pub visits_only : (budget : ℕ) (p : Point) → In p (visited C budget) → Occurs C p
    pub lists_only : (budget : ℕ) (q : Pair) → In q (answer C budget).listed → Pieces q × (meets (kind C q) ≡ true)
    pub lists_once : ListsOnce ported_run
    pub lists_on : ListsOn ported_run
    pub last_visited : LastVisited ported_run
    pub steps_bounded : StepsBounded ported_run
    pub ends_soon : (budget : ℕ) → 2 * n + length (meeting C) ≤ budget → (answer C budget).ended ≡ true
    pub runs_on : RunsOn

-- the same chart with another order of the active list
abbrev pub reordered : (C : Chart) → (C.Point → ℕ → ℕ → Bool) → Chart
reordered C before =
    record {
      Point = C.Point;
      less = C.less;
      n = C.n;
      min = C.min;
      max = C.max;
      upright = C.upright;
      contains = C.contains;
      test = C.test;
      crossing = C.crossing;
      before = before;
    }

-- two runs that tell of the points visited, and of which either promise can be made, say the same at every budget: all
-- but whether they are complete
pub record SameAnswers (C : Chart) (before : C.Point → ℕ → ℕ → Bool) (R : Run C) (T : Run (reordered C before)) : Type 0 where
  pub visited : (budget : ℕ) → R.visited budget ≡ T.visited budget
  pub listed : (budget : ℕ) → (R.answer budget).listed ≡ (T.answer budget).listed
  pub steps : (budget : ℕ) → (R.answer budget).steps ≡ (T.answer budget).steps
  pub ended : (budget : ℕ) → (R.answer budget).ended ≡ (T.answer budget).ended
  pub last : (budget : ℕ) → (R.answer budget).last ≡ (T.answer budget).last
