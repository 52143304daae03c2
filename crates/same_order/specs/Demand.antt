-- What is promised of the list in plain order beside the sweeps: of what the calls return, and of the bytes that they leave.
use Rattle.std.specs.Prelude.{◌≡◌, true, List, ℕ, ◌+◌, ◌*◌, ◌≤◌, ℤ, length}
use Rattle.charts.specs.Answer.{listing_of, refused_with}
use Rattle.charts.specs.Piece.{piece_at, no_upright}
use Rattle.charts.specs.Verdict.{Accepted, Refused}
use Rattle.naive.specs.Pairs.{bytes, over}
use Rattle.bentley_ottmann.specs.Swept.{sweep_of, lent_after}
use Rattle.bentley_ottmann.specs.Swept.{refused_with as sweep_refused}
use Rattle.full_steps.specs.Steps.{answer}
use Rattle.full_order.specs.Finer.{finer}
use Rattle.plain_order.specs.Plain.{plain_of, every_of, every_after}
use Rattle.plain_order.specs.Plain.{lent_after as plain_after}

-- ---- the ported sweep, on every chart that the plain call takes: n pieces, none of them upright
abbrev pub Takes : List ℤ → ℕ → List ℕ → Type 0
Takes list n lent = (listing_of list (length lent) ≡ Accepted n) × (no_upright list n ≡ true)

-- as many pairs, and the same bytes, past the last pair too
pub record SameAsSweep (list : List ℤ) (budget : ℕ) (lent : List ℕ) : Type 0 where
  pub count : (plain_of list (length lent)).count ≡ (sweep_of list budget (length lent)).pairs
  pub left : plain_after list lent ≡ lent_after list budget lent

-- "equal to that of the ported sweep with enough budget": one with which it has ended
abbrev pub PlainIsPorted : Type 0
PlainIsPorted =
    (list : List ℤ) (n budget : ℕ) (lent : List ℕ) → Takes list n lent
    → (sweep_of list budget (length lent)).ended ≡ true → SameAsSweep list budget lent

-- .. and 2n + k steps are enough, k the count of pairs
abbrev pub EnoughBudget : Type 0
EnoughBudget =
    (list : List ℤ) (n budget : ℕ) (lent : List ℕ) → Takes list n lent
    → 2 * n + (plain_of list (length lent)).count ≤ budget → (sweep_of list budget (length lent)).ended ≡ true

-- a list that the sweep refuses, the plain call refuses with the same number and place; and both write nothing
abbrev pub RefusedAlike : Type 0
RefusedAlike =
    (list : List ℤ) (k place budget : ℕ) (lent : List ℕ) → sweep_of list budget (length lent) ≡ sweep_refused k place → listing_of list (length lent) ≡ Refused k place
    → (plain_of list (length lent) ≡ refused_with k place) × (plain_after list lent ≡ lent_after list budget lent)

-- ---- the new mode, on every chart, upright pieces or not, where these are not refused
pub record SameAsNew (list : List ℤ) (n budget : ℕ) (lent : List ℕ) : Type 0 where
  pub count : (every_of list (length lent)).count ≡ length (answer (finer n (piece_at list)) budget).listed
  pub left : every_after list lent ≡ over (bytes (answer (finer n (piece_at list)) budget).listed) lent

abbrev pub PlainIsNew : Type 0
PlainIsNew =
    (list : List ℤ) (n budget : ℕ) (lent : List ℕ) → listing_of list (length lent) ≡ Accepted n
    → (answer (finer n (piece_at list)) budget).ended ≡ true → SameAsNew list n budget lent
