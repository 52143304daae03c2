-- One end at a point: its piece starts there, or none does.
use mathlib.Core.Path.{◌≡◌, sym, ap, ◌∙◌}
use mathlib.Core.List.{List, [], ◌∷◌}
use Prim.Native.Nat.{ℕ, ◌%◌}
use native.Mathlib.Omega.{arith}
use lib.ListN.{length, get_or}
use lib.Seq.{take_all}
use Rattle.sweep.specs.Lists.{keep}
use Rattle.full_active.specs.Ranks.{starters}
use Rattle.full_active.proofs.Putting.{starts_more, starts_same}
use Rattle.full_end_alone.specs.Alone.{first_of}

module _ (ends : List ℕ) (one : length ends ≡ 1) where
  pub one_starts : get_or ends 0 0 % 65536 % 2 ≡ 0 → starters ends ≡ first_of ends ∷ []
  unfolding starters keep
  one_starts h = ap starters (sym (take_all 1 ends (omega arith))) ∙ starts_more ends 0 (omega arith) h

  pub none_starts : ¬ (get_or ends 0 0 % 65536 % 2 ≡ 0) → starters ends ≡ []
  unfolding starters keep
  none_starts h = ap starters (sym (take_all 1 ends (omega arith))) ∙ starts_same ends 0 (omega arith) h
