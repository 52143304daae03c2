use Rattle.lowest_terms.proofs.+gcd.Given as goal

-- b, which falls at every call
abbrev pub decreases-gcd : goal.decreases-gcd
decreases-gcd l = l.b
