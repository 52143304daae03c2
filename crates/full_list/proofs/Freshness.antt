-- A pair is new by the segment test, and an overlap by the pieces that start.
use mathlib.Core.Path.{◌≡◌, refl, sym, ap, ap₂, ◌∙◌}
use mathlib.Core.Bool.{Bool, true, false, ◌||◌}
use mathlib.Core.List.{List}
use Prim.Native.Nat.{ℕ}
use lib.IntN.{ℤ}
use Rattle.fractions.specs.declared.Point.{Point}
use Rattle.line_segment.specs.declared.Meeting.{Meeting}
use Rattle.line_segment.specs.declared.Meeting.TheVariants.{Nothing, Crossing}
use Rattle.line_segment.specs.Piece.{point_of}
use Rattle.line_segment.specs.Segment.{intersect_of}
use Rattle.sweep.specs.Chart.{same}
use Rattle.sweep.specs.Ported.{kind_of}
use Rattle.sweep.specs.Step.{starts}
use Rattle.full_steps.specs.InPlace.{fresh_by, fresh}
use Rattle.full_order.specs.Finer.{finer}
use Rattle.full_active.specs.Parts.{starts_in}
use Rattle.ported_pieces.specs.Table.{piece_in}
use Rattle.ported_heights.proofs.Answers.{neither_less}
use Rattle.full_list.specs.Listed.{fresh_in}

module _ (table : List ℤ) (q : Point) where
  pub starts_is : (n i : ℕ) → starts_in table q i ≡ starts (finer n (piece_in table)) q i
  unfolding starts same
  starts_is n i = neither_less (point_of (piece_in table i).min) q

  -- the number of pieces plays no part
  pub fresh_is : (n i j : ℕ) → fresh_in table q (i, j) ≡ fresh (finer n (piece_in table)) q (i, j)
  unfolding fresh fresh_by starts same
  fresh_is n i j = refl

  module _ (i j : ℕ) where
    by_meeting : (m : Meeting) → intersect_of (piece_in table i) (piece_in table j) ≡ m → fresh_by (finer 0 (piece_in table)) (kind_of m) q (i, j) ≡ fresh_in table q (i, j)
    unfolding fresh
    by_meeting m e = ap (λ (m : Meeting). fresh_by (finer 0 (piece_in table)) (kind_of m) q (i, j)) (sym e)

    pub by_nothing : intersect_of (piece_in table i) (piece_in table j) ≡ Nothing → false ≡ fresh_in table q (i, j)
    unfolding fresh_by
    by_nothing e = by_meeting Nothing e

    pub by_crossing : intersect_of (piece_in table i) (piece_in table j) ≡ Crossing → true ≡ fresh_in table q (i, j)
    unfolding fresh_by
    by_crossing e = by_meeting Crossing e

    pub by_overlap : (m : Meeting) → kind_of m ≡ Rattle.sweep.specs.Chart.overlaps → intersect_of (piece_in table i) (piece_in table j) ≡ m
        → (starts_in table q i || starts_in table q j) ≡ fresh_in table q (i, j)
    unfolding fresh_by
    by_overlap m k e =
        ap₂ (λ (a : Bool) (b : Bool). a || b) (starts_is 0 i) (starts_is 0 j)
        ∙ ap (λ (k : Rattle.sweep.specs.Chart.Kind). fresh_by (finer 0 (piece_in table)) k q (i, j)) (sym k)
        ∙ by_meeting m e
