-- The library's own lists, handed to the check of a supplier's list as the bytes that the calls left: each is accepted.
use Rattle.std.specs.Prelude.{◌≡◌, true, List, ℕ, ◌*◌, ℤ, take}
use Rattle.supplied.specs.declared.Checked.TheVariants.{Accepted}
use Rattle.supplied.specs.Checking.{checked_of}
use Rattle.promises.specs.AllPairs as pairs
use Rattle.promises.specs.Sweep.{Outcome, OnWholeCharts}

-- the list of all pairs, on every accepted chart
abbrev pub AllPairsAccepted : pairs.Outcome → Type 0
AllPairsAccepted Allowed = pairs.OnEveryChart Allowed (λ list n lent r after. checked_of list (take (2 * r.count) after) ≡ Accepted)

-- a sweep's list, run to its end where nothing may be missing
abbrev pub SweepAccepted : Outcome → (List ℤ → ℕ → Type 0) → Type 0
SweepAccepted Allowed Whole =
    OnWholeCharts Allowed Whole (λ list n budget lent r after. r.ended ≡ true → checked_of list (take (2 * r.pairs) after) ≡ Accepted)
