-- The fault of one piece, by its five numbers: rows 4, 5 and 6 of the table of refusals, asked in that order.
-- Assumes nothing.
use Rattle.std.specs.Prelude.{Bool, false, cond, ◌&&◌, ◌||◌, ℕ, eqb, ℤ, pos, negsuc, neg_ℤ}
use Rattle.std.specs.Int.Signed.{lt_z}

-- "Coordinates run from -32,767 to 32,767."
abbrev pub range : ℤ
range = pos 32767

-- v is below low or above high
unfoldable pub outside : ℤ → ℤ → ℤ → Bool
outside low high v = lt_z v low || lt_z high v

-- an end has a coordinate out of range
unfoldable pub off_range : ℤ → ℤ → Bool
off_range x y = outside (neg_ℤ range) range x || outside (neg_ℤ range) range y

unfoldable pub eq_z : ℤ → ℤ → Bool
eq_z (pos a) (pos b) = eqb a b
eq_z (pos a) (negsuc b) = false
eq_z (negsuc a) (pos b) = false
eq_z (negsuc a) (negsuc b) = eqb a b

unfoldable pub same_ends : ℤ → ℤ → ℤ → ℤ → Bool
same_ends x1 y1 x2 y2 = eq_z x1 x2 && eq_z y1 y2

-- "4, 5 (either end), 6"; 0 where the piece has no fault.
unfoldable pub fault_of : ℤ → ℤ → ℤ → ℤ → ℤ → ℕ
fault_of kind x1 y1 x2 y2 =
    cond (outside (pos 0) (pos 3) kind) 4
    (cond (off_range x1 y1 || off_range x2 y2) 5
    (cond (same_ends x1 y1 x2 y2) 6
    0))
