-- The pieces of a list have i16 ends, whatever the list: `given_in_range`.
-- Assumes nothing.
use mathlib.Core.Path.{◌≡◌, refl}
use mathlib.Core.Bool.{Bool, true, false, cond}
use mathlib.Core.List.{List}
use Prim.Native.Nat.{ℕ, ◌^◌}
use lib.IntN.{ℤ, pos, neg_ℤ}
use mir.Syntax.{w16}
use mir.Val.{SFits}
use Rattle.integers.specs.Size.{Small}
use Rattle.integers.proofs.Machine.{m_range, m_pos, m_bound}
use Rattle.std.specs.declared.cmp.Ordering.{Ordering}
use Rattle.std.specs.declared.cmp.Ordering.TheVariants.{Less, Equal, Greater}
use Rattle.line_segment.specs.declared.EndPoint.{EndPoint}
use Rattle.line_segment.specs.Piece.{join_by, join_of, piece_of}
use Rattle.charts.specs.Fault.{range, outside}
use Rattle.charts.specs.Chart.{number_at}
use Rattle.charts.specs.Piece.{coordinate_of, piece_at}
use Rattle.charts.proofs.Ranges.{coordinate_fits}
use Rattle.place.specs.Demand.{EndInRange, InRange}

coordinate_small : (v : ℤ) → Small (2 ^ 15) (coordinate_of v)
unfolding coordinate_of
coordinate_small v = go (outside (neg_ℤ range) range v) (coordinate_fits v)
  where
    go : (b : Bool) → (b ≡ false → SFits w16 v) → Small (2 ^ 15) (cond b (pos 0) v)
    go true f = m_bound (m_pos {n = 0}) tt
    go false f = m_bound (m_range (f refl)) tt

joined : (o : Ordering) {a b : EndPoint} → EndInRange a → EndInRange b → InRange (join_by o a b)
unfolding join_by
joined Less h k = record { min = h; max = k }
joined Equal h k = record { min = k; max = h }
joined Greater h k = record { min = k; max = h }

pub given_in_range : (list : List ℤ) (i : ℕ) → InRange (piece_at list i)
unfolding piece_at piece_of join_of
given_in_range list i =
    joined _ (record { x = coordinate_small (number_at list i 1); y = coordinate_small (number_at list i 2) }) (record { x = coordinate_small (number_at list i 3); y = coordinate_small (number_at list i 4) })
