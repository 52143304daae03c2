-- The upright gap, over the same definitions; it is not starred, and runs beside the Rust too.
use Rattle.std.specs.Prelude.{◌≡◌, true, false, List, [], ◌∷◌, ◌++◌, ℕ, ℤ, pos, negsuc, Some}
use Rattle.charts.specs.Answer.{done_with}
use Rattle.naive.specs.AllPairs.{all_pairs_of}
use Rattle.naive.specs.AllPairs.{lent_after as listed_by}
use Rattle.bentley_ottmann.specs.Swept.{sweep_of, lent_after}
use Rattle.full_sweep.specs.Swept.{sweep_of as full_sweep_of, lent_after as full_after}
use Rattle.starred.specs.Written.{piece, at}

-- "piece 0 (0,0)-(0,10), piece 1 (-5,3)-(5,3), piece 2 (-5,6)-(5,6), kind 3"
abbrev pub gap : List ℤ
gap = piece 3 0 0 0 10 ++ (pos 3 ∷ negsuc 4 ∷ pos 3 ∷ pos 5 ∷ pos 3 ∷ []) ++ (pos 3 ∷ negsuc 4 ∷ pos 6 ∷ pos 5 ∷ pos 6 ∷ [])

-- six bytes lent, all 9
abbrev pub lent : List ℕ
lent = 9 ∷ 9 ∷ 9 ∷ 9 ∷ 9 ∷ 9 ∷ []

pub record UprightGap : Type 0 where
  -- "All pairs: (1,0), (2,0)."
  pub all_pairs : all_pairs_of gap 6 ≡ done_with 2
  pub all_list : listed_by gap lent ≡ 1 ∷ 0 ∷ 2 ∷ 0 ∷ 9 ∷ 9 ∷ []
  -- "Sweep, as in the Rust: only (0,1), 7 steps, not complete."
  pub swept : sweep_of gap 9 6
      ≡ record { number = 0; place = 0; pairs = 1; steps = 7; ended = true; complete = false; last = Some (at 5 6 1); examined = 8 }
  pub swept_list : lent_after gap 9 lent ≡ 0 ∷ 1 ∷ 9 ∷ 9 ∷ 9 ∷ 9 ∷ []
  -- "In the new mode: (0,1), (0,2), 8 steps, complete."
  pub full : full_sweep_of gap 9 6
      ≡ record { number = 0; place = 0; pairs = 2; steps = 8; ended = true; complete = true; last = Some (at 5 6 1); examined = 0 }
  pub full_list : full_after gap 9 lent ≡ 0 ∷ 1 ∷ 0 ∷ 2 ∷ 9 ∷ 9 ∷ []
