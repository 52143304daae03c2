-- Every line of a pair has a place.
-- Assumes nothing.
use mathlib.Core.Path.{◌≡◌}
use mathlib.Core.Bool.{true}
use Prim.Native.Nat.{ℕ}
use native.Mathlib.Omega.{arith}
use Rattle.std.specs.declared.cmp.Ordering.{Ordering}
use Rattle.std.specs.declared.cmp.Ordering.TheVariants.{Less, Equal, Greater}
use Rattle.fractions.specs.declared.Point.{Point}
use Rattle.line_segment.specs.declared.Meeting.{Meeting}
use Rattle.line_segment.specs.Piece.{point_of, end_order}
use Rattle.line_segment.specs.Segment.{intersect_of, crossing_of}
use Rattle.charts.specs.Piece.{piece_at}
use Rattle.place.specs.declared.Where.{Where}
use Rattle.place.specs.Place.{along_by, along_of, where_by, where_of}
use Rattle.sweep.specs.Chart.{meets}
use Rattle.sweep.specs.Ported.{kind_of}
use Rattle.listing.specs.Listing.{largest}
use Rattle.listing.specs.Demand.{LinesHavePlaces}
use Rattle.listing.proofs.Counts.{lists_only}

stretched : (o : Ordering) (p q : Point) → ¬ (along_by o p q ≡ Where.Nothing)
unfolding along_by
stretched Less p q z = let c : ◌≡◌ {A = ℕ} 0 1 = cc in omega arith
stretched Equal p q z = let c : ◌≡◌ {A = ℕ} 0 1 = cc in omega arith
stretched Greater p q z = let c : ◌≡◌ {A = ℕ} 0 1 = cc in omega arith

placed : (m : Meeting) (p : Point) → meets (kind_of m) ≡ true → ¬ (where_by m p ≡ Where.Nothing)
unfolding meets where_by along_of
placed Meeting.Nothing p e z = let c : ◌≡◌ {A = ℕ} 0 1 = cc in omega arith
placed Meeting.Crossing p e z = let c : ◌≡◌ {A = ℕ} 0 1 = cc in omega arith
placed (Meeting.Overlap s) p e z = stretched (end_order s.min s.max) (point_of s.min) (point_of s.max) z

pub lines_have_places : LinesHavePlaces
unfolding where_of
lines_have_places list n e a b m =
    placed (intersect_of (piece_at list a) (piece_at list b)) (crossing_of (piece_at list a) (piece_at list b)) (lists_only list n e largest (a, b) m).1
