use lib.ListN.{length}
use Rattle.fractions.specs.Turns.{lines_of}
use Rattle.whole_parts.proofs.+compare_above.Given as goal

-- the lines that are left on the paper: of those there are few (`lines_few`)
abbrev pub decreases-compare_above : goal.decreases-compare_above
decreases-compare_above l = length (lines_of l.n l.d l.m l.e)
