-- The starred examples, in the order of docs/CHART.md, each under its line, over the definitions that the calls' contracts cite.
use Rattle.std.specs.Prelude.{◌≡◌, true, false, List, [], ◌∷◌, ◌++◌, ℕ, ℤ, Some}
use Rattle.line_segment.specs.declared.Meeting.TheVariants.{Nothing, Crossing, Overlap}
use Rattle.charts.specs.Answer.{done_with, refused_with}
use Rattle.charts.specs.Pair.{meeting_of}
use Rattle.charts.specs.Piece.{piece_at}
use Rattle.place.specs.declared.Where.{Where}
use Rattle.sweep.specs.Ported.{ported}
use Rattle.sweep.specs.Run.{visited}
use Rattle.bentley_ottmann.specs.Swept.{sweep_of, lent_after}
use Rattle.starred.specs.Written.{piece, at, end, met, place, read, coordinate}

-- "(0,0)-(4,4) and (0,4)-(4,0), kind 3"
abbrev pub cross : List ℤ
cross = piece 3 0 0 4 4 ++ piece 3 0 4 4 0

-- "(0,0)-(1,1) and (0,1)-(2,0), kind 3"
abbrev pub thirds : List ℤ
thirds = piece 3 0 0 1 1 ++ piece 3 0 1 2 0

-- "(0,0)-(2,0) and (2,0)-(5,0)", the first of kind 3
abbrev pub in_line : ℕ → List ℤ
in_line kind = piece 3 0 0 2 0 ++ piece kind 2 0 5 0

-- "(0,0)-(4,0) kind 3, (2,0)-(3,5)"
abbrev pub touch : ℕ → List ℤ
touch kind = piece 3 0 0 4 0 ++ piece kind 2 0 3 5

pub record Starred : Type 0 where
  -- "(0,0)-(4,4) and (0,4)-(4,0), kind 3: the points visited are (0,0) (0,4) (2,2) (4,0) (4,4)."
  pub points : visited (ported 2 (piece_at cross)) 9 ≡ at 0 0 1 ∷ at 0 4 1 ∷ at 2 2 1 ∷ at 4 0 1 ∷ at 4 4 1 ∷ []
  -- "Budget 2 lists nothing, 3 lists (0,1)."
  pub two_steps : sweep_of cross 2 2
      ≡ record { number = 0; place = 0; pairs = 0; steps = 2; ended = false; complete = true; last = Some (at 0 4 1); examined = 1 }
  pub two_list : (u v : ℕ) → lent_after cross 2 (u ∷ v ∷ []) ≡ u ∷ v ∷ []
  pub three_steps : sweep_of cross 3 2
      ≡ record { number = 0; place = 0; pairs = 1; steps = 3; ended = false; complete = true; last = Some (at 2 2 1); examined = 2 }
  pub three_list : (u v : ℕ) → lent_after cross 3 (u ∷ v ∷ []) ≡ 0 ∷ 1 ∷ []
  -- "(0,0)-(1,1) and (0,1)-(2,0), kind 3: Crossing at 2, 2 over 3."
  pub thirds_cross : meeting_of thirds ≡ met Crossing
  pub thirds_at : place thirds ≡ Where.At (at 2 2 3)
  -- "(0,0)-(2,0) and (2,0)-(5,0), kind 3: Overlap, one point. With the second of kind 2: nothing."
  pub one_point : meeting_of (in_line 3) ≡ met (Overlap (record { min = end 2 0; max = end 2 0 }))
  pub one_point_at : place (in_line 3) ≡ Where.At (at 2 0 1)
  pub no_point : meeting_of (in_line 2) ≡ met Nothing
  -- "(0,0)-(4,0) kind 3, (2,0)-(3,5) kind 3: Crossing at (2,0). Second of kind 2: nothing."
  pub touches : meeting_of (touch 3) ≡ met Crossing
  pub touches_at : place (touch 3) ≡ Where.At (at 2 0 1)
  pub no_touch : meeting_of (touch 2) ≡ met Nothing
  -- "FF FF 03 as a coordinate: 5. 80 00: 2. 80 and the end: 1."
  pub too_far : read (coordinate (0xff ∷ 0xff ∷ 0x03 ∷ [])) ≡ refused_with 5 2
  pub padded : read (coordinate (0x80 ∷ 0x00 ∷ [])) ≡ refused_with 2 2
  pub unended : read (coordinate (0x80 ∷ [])) ≡ refused_with 1 2
  -- "Empty file: 1. File 00: zero pieces."
  pub empty : read [] ≡ refused_with 1 0
  pub no_pieces : read (0x00 ∷ []) ≡ done_with 0
