-- What a piece does at the point visited, by the flags of those that start, finish and turn there and by the array of
-- pieces; as in the step of `ported_arrays`.
use Rattle.std.specs.Prelude.{Bool, not, ◌&&◌, ◌||◌, List, ℕ, ℤ}
use Rattle.fractions.specs.declared.Point.{Point}
use Rattle.sweep.specs.Ported.{is_less, rank_order}
use Rattle.ported_arrays.specs.Event.{flagged}
use Rattle.ported_pieces.specs.Table.{piece_in}

abbrev pub stays_by : List ℕ → List ℕ → ℕ → Bool
stays_by finishing turning i = not (flagged finishing i || flagged turning i)

abbrev pub enters_by : List ℕ → List ℕ → List ℕ → ℕ → Bool
enters_by starting finishing turning i = (flagged starting i || flagged turning i) && not (flagged finishing i)

-- the order of the active list at p
abbrev pub before_in : List ℤ → Point → ℕ → ℕ → Bool
before_in table p i j = is_less (rank_order (piece_in table) p i j)
