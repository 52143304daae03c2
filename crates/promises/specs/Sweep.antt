-- What is promised of a sweep: of what its call returns, and of the pairs that its caller reads in the lent bytes afterwards.
-- It stands here once, of any sweep: `Allowed` are the outcomes that the call's contract allows, `Whole` the charts on which
-- nothing may be missing. Of the ported sweep these are the charts with no upright piece.
use Rattle.std.specs.Prelude.{◌≡◌, ◌⊎◌, ◌≢◌, ◌↔◌, true, List, [], ◌∷◌, ◌++◌, ℕ, ◌+◌, ◌*◌, ◌≤◌, min, ℤ, length, take, Option, None, Some}
use mathlib.Core.List.{Memᴰ as In}
use Rattle.fractions.specs.Point.{point_order}
use Rattle.std.specs.declared.cmp.Ordering.TheVariants.{Less}
use Rattle.fractions.specs.declared.Point.{Point}
use Rattle.charts.specs.declared.Answer.{Answer}
use Rattle.charts.specs.Verdict.{Refused}
use Rattle.charts.specs.Demand.{ListingDue}
use Rattle.charts.specs.PairList.{pairs_in}
use Rattle.naive.specs.Pairs.{bytes, over}
use Rattle.sweep.specs.Lists.{Pair, Pairwise}
use Rattle.bentley_ottmann.specs.declared.Swept.{Swept}
use Rattle.bentley_ottmann.specs.Swept.{sweep_of, lent_after, refused_with}
use Rattle.promises.specs.Refusals.{RefusalPromises}
use Rattle.promises.specs.Chart.{Accepts, FirstOf, Before, Meeting, SomePoints, AllPoints}
use Rattle.promises.specs.AllPairs.{Allowed as AllPairs, listed_in as all_in}

-- which results and which bytes afterwards a call allows, by its list, its budget and the lent bytes
abbrev pub Outcome : Type 1
Outcome = List ℤ → ℕ → List ℕ → Swept → List ℕ → Type 0

-- what the contract of the ported `sweep` allows
pub record Ported (list : List ℤ) (budget : ℕ) (lent : List ℕ) (r : Swept) (after : List ℕ) : Type 0 where
  pub returned : r ≡ sweep_of list budget (length lent)
  pub left : after ≡ lent_after list budget lent

-- "two [bytes] a pair"
abbrev pub listed_in : Swept → List ℕ → List Pair
listed_in r after = pairs_in (take (2 * r.pairs) after)

-- "at or before the last point visited, none at zero steps"
abbrev pub Reached : Option Point → Point → Type 0
Reached None p = ⊥
Reached (Some l) p = ¬ (point_order l p ≡ Less)

-- "the last point, or none after zero steps", of the points visited
abbrev pub EndsWith : List Point → Option Point → Type 0
EndsWith points None = points ≡ []
EndsWith points (Some p) = (front : List Point) × (points ≡ front ++ (p ∷ []))

-- no step is invented: each visits a point beyond the one before
pub record Forward (r : Swept) (points : List Point) : Type 0 where
  pub steps : r.steps ≡ length points
  pub last : EndsWith points r.last

-- "steps done (the lesser of budget and steps to the empty queue), whether the queue is empty, .. and the last point, or
-- none after zero steps"
pub record Visits (budget : ℕ) (r : Swept) (points : List Point) : Type 0 where
  pub steps : r.steps ≡ min budget (length points)
  pub last : EndsWith (take r.steps points) r.last
  pub ended : (r.ended ≡ true) ↔ (length points ≤ budget)

abbrev pub Promise : Type 1
Promise = (list : List ℤ) (n budget : ℕ) (lent : List ℕ) (r : Swept) (after : List ℕ) → Type 0

module _ (Allowed : Outcome) where
  -- ---- every accepted list, every budget, all lent bytes
  abbrev pub OnEveryChart : Promise → Type 0
  OnEveryChart P =
      (list : List ℤ) (n budget : ℕ) (lent : List ℕ) (r : Swept) (after : List ℕ)
      → Accepts list lent n → Allowed list budget lent r after → P list n budget lent r after

  -- .. beside any answer of the call for all pairs
  abbrev pub BesideAllPairs : ((list : List ℤ) (n budget : ℕ) (r : Swept) (after : List ℕ) (a : Answer) (all : List ℕ) → Type 0) → Promise
  BesideAllPairs P list n budget lent r after =
      (other : List ℕ) (a : Answer) (all : List ℕ) → Accepts list other n → AllPairs list other a all
      → P list n budget r after a all

  -- no pair is invented
  abbrev pub ListsOnly : Type 0
  ListsOnly = OnEveryChart (λ list n budget lent r after. (q : Pair) → In q (listed_in r after) → Meeting list n q)

  -- "listed once each"
  abbrev pub ListsOnce : Type 0
  ListsOnce = OnEveryChart (λ list n budget lent r after. Pairwise (λ q s. q ≢ s) (listed_in r after))

  -- "a smaller budget's list is the beginning of a larger one's"
  abbrev pub ListsOn : Type 0
  ListsOn =
      (list : List ℤ) (n a b : ℕ) (lent : List ℕ) (r s : Swept) (after beyond : List ℕ)
      → Accepts list lent n → Allowed list a lent r after → Allowed list b lent s beyond
      → a ≤ b → (more : List Pair) × (listed_in s beyond ≡ listed_in r after ++ more)

  -- each step visits an end or a crossing beyond the one before
  abbrev pub MovesForward : Type 0
  MovesForward =
      OnEveryChart (λ list n budget lent r after. (points : List Point) × SomePoints list n points × Forward r points)

  -- "steps done (the lesser of budget and steps to the empty queue)": as many as the budget, unless the queue is empty before
  abbrev pub CountsSteps : Type 0
  CountsSteps = OnEveryChart (λ list n budget lent r after. (r.steps ≤ budget) × ((r.ended ≡ true) ⊎ (r.steps ≡ budget)))

  -- at most 2n + k steps, k the count of all pairs; and so a budget of 2n + k is enough
  abbrev pub StepsBounded : Type 0
  StepsBounded = OnEveryChart (BesideAllPairs (λ list n budget r after a all. r.steps ≤ 2 * n + a.count))

  abbrev pub EndsInTime : Type 0
  EndsInTime = OnEveryChart (BesideAllPairs (λ list n budget r after a all. 2 * n + a.count ≤ budget → r.ended ≡ true))

  -- "a list-making call [returns] the count of pairs"; "bytes past the last pair keep their values"
  abbrev pub KeepsTheRest : Type 0
  KeepsTheRest =
      OnEveryChart (λ list n budget lent r after.
      (r.pairs ≡ length (listed_in r after)) × (after ≡ over (bytes (listed_in r after)) lent))

  -- ---- refusals, at every budget
  abbrev pub Refusals : Type 0
  Refusals =
      (budget : ℕ) → RefusalPromises {I = List ℤ × List ℕ} {O = Swept × List ℕ}
      (λ i k p. ListingDue i.0 (length i.1) (Refused k p))
      (λ i. (n : ℕ) × Accepts i.0 i.1 n)
      (λ i o. Allowed i.0 budget i.1 o.0 o.1)
      (λ o. o.0.number) (λ o. o.0.place)
      (λ i k p. (refused_with k p, i.1))

module _ (Allowed : Outcome) (Whole : List ℤ → ℕ → Type 0) where
  -- ---- where nothing may be missing
  abbrev pub OnWholeCharts : Promise → Type 0
  OnWholeCharts P = OnEveryChart Allowed (λ list n budget lent r after. Whole list n → P list n budget lent r after)

  -- "exactly the meeting pairs whose first common point is at or before the last point visited, none at zero steps"
  abbrev pub ListsExactly : Type 0
  ListsExactly =
      OnWholeCharts (λ list n budget lent r after.
      (q : Pair) → In q (listed_in r after) ↔ (Meeting list n q × ((p : Point) × FirstOf list q p × Reached r.last p)))

  -- "by first common point, then lesser number, then greater"
  abbrev pub ListsInOrder : Type 0
  ListsInOrder = OnWholeCharts (λ list n budget lent r after. Pairwise (Before list) (listed_in r after))

  -- "the points visited are the first of the ends and the crossings, each once, in order"
  abbrev pub VisitsInOrder : Type 0
  VisitsInOrder =
      OnWholeCharts (λ list n budget lent r after. (points : List Point) × AllPoints list n points × Visits budget r points)

  -- the full list has the pairs that meet and no other, and as many as are counted
  abbrev pub ListsMeetings : Type 0
  ListsMeetings =
      OnWholeCharts (λ list n budget lent r after.
      r.ended ≡ true → (r.pairs ≡ length (listed_in r after)) × ((q : Pair) → In q (listed_in r after) ↔ Meeting list n q))

  -- .. so "the full list has the same pairs as the all-pairs list"
  abbrev pub ListsAllPairs : Type 0
  ListsAllPairs =
      OnWholeCharts (BesideAllPairs Allowed (λ list n budget r after a all. r.ended ≡ true
      → (r.pairs ≡ a.count) × ((i j : ℕ) → In (i, j) (listed_in r after) ↔ In (j, i) (all_in a all))))

  -- "a full sweep of n pieces with k pairs takes at most 2n + k steps"
  abbrev pub FullSweepBounded : Type 0
  FullSweepBounded = OnWholeCharts (λ list n budget lent r after. r.ended ≡ true → r.steps ≤ 2 * n + r.pairs)

  -- "complete" is said of these charts and of no other
  abbrev pub SaysComplete : Type 0
  SaysComplete = OnEveryChart Allowed (λ list n budget lent r after. (r.complete ≡ true) ↔ Whole list n)

  pub record SweepPromises : Type 0 where
    pub lists_only : ListsOnly Allowed
    pub lists_once : ListsOnce Allowed
    pub lists_on : ListsOn Allowed
    pub moves_forward : MovesForward Allowed
    pub counts_steps : CountsSteps Allowed
    pub steps_bounded : StepsBounded Allowed
    pub ends_in_time : EndsInTime Allowed
    pub keeps_the_rest : KeepsTheRest Allowed
    pub refusals : Refusals Allowed
    pub lists_exactly : ListsExactly
    pub lists_in_order : ListsInOrder
    pub visits_in_order : VisitsInOrder
    pub lists_meetings : ListsMeetings
    pub lists_all_pairs : ListsAllPairs
    pub full_sweep_bounded : FullSweepBounded
    pub says_complete : SaysComplete
