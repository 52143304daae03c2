use mathlib.Core.Path.{◌≡◌}
use Rattle.open_chart.specs.Listing.{renamed}
use Rattle.open_pairs.proofs.rename.Given as goal

abbrev pub invariant-loop-number : goal.invariant-loop-number
invariant-loop-number l = l.numbers ≡ renamed l.names l.number-index l.initial.numbers
