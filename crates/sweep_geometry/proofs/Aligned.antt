-- Pieces on one line: decided by two equations, and carried from piece to piece.
use mathlib.Core.Path.{◌≡◌, sym}
use mathlib.Core.Logic.{by_cases}
use lib.IntN.{ℤ, pos}
use Rattle.integers.proofs.Order.{Tri, less, same, more, tri, <→≢}
use Rattle.line_segment.specs.declared.LineSegment.{LineSegment}
use Rattle.line_segment.specs.Piece.{point_of, HasLength}
use Rattle.line_segment.specs.Geometry.{side, OneLine}
use Rattle.line_segment.proofs.Along.{leads}
use Rattle.line_segment.proofs.TwoLines.{carried}

zero_dec : (z : ℤ) → Dec (z ≡ pos 0)
zero_dec z = go (tri z (pos 0))
  where
    go : Tri z (pos 0) → Dec (z ≡ pos 0)
    go (less h) = no (λ e. <→≢ h e)
    go (same e) = yes e
    go (more h) = no (λ e. <→≢ h (sym e))

pub aligned_dec : (a b : LineSegment) → Dec (OneLine a b)
aligned_dec a b =
    by_cases (zero_dec (side a (point_of b.min)))
    (λ (e : side a (point_of b.min) ≡ pos 0).
    by_cases (zero_dec (side a (point_of b.max)))
    (λ (f : side a (point_of b.max) ≡ pos 0). yes (record { min = e; max = f }))
    (λ (f : ¬ (side a (point_of b.max) ≡ pos 0)). no (λ l. f l.max)))
    (λ (e : ¬ (side a (point_of b.min) ≡ pos 0)). no (λ l. e l.min))

pub aligned_trans : (a b c : LineSegment) → HasLength b → OneLine a b → OneLine b c → OneLine a c
aligned_trans a b c lb l m =
    record { min = carried a b (point_of c.min) (leads b lb) l m.min; max = carried a b (point_of c.max) (leads b lb) l m.max }
