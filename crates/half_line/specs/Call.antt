-- The half-line's own call, on five numbers of a piece and two points.
use Rattle.std.specs.Prelude.{cond, [], ◌∷◌, ℕ, eqb, ℤ, pos, Option, None}
use Rattle.charts.specs.Fault.{fault_of}
use Rattle.charts.specs.Piece.{coordinate_of, piece_at}
use Rattle.half_line.specs.HalfLine.{half_line_of}
use Rattle.half_line.specs.declared.Corner.{Corner}
use Rattle.half_line.specs.declared.HalfLineAnswer.{HalfLineAnswer}
use Rattle.orientation.specs.declared.Orientation.{Orientation}

-- the point of two numbers
abbrev pub corner_at : ℤ → ℤ → Corner
corner_at x y = record { x = coordinate_of x; y = coordinate_of y }

-- the first of two faults
abbrev pub fault_then : ℕ → ℕ → ℕ
fault_then first second = cond (eqb first 0) second first

-- "the piece's 4, 5, 6, then 5 and then 6 for its two points": these are judged as the ends of a piece of kind 3 are
unfoldable pub call_fault : ℤ → ℤ → ℤ → ℤ → ℤ → ℤ → ℤ → ℤ → ℤ → ℕ
call_fault kind x1 y1 x2 y2 x y tx ty = fault_then (fault_of kind x1 y1 x2 y2) (fault_of (pos 3) x y tx ty)

-- "A refusal returns its number .., with every other field .. nothing"
abbrev pub answer_by : ℕ → Option Orientation → HalfLineAnswer
answer_by number meeting = record { number = number; meeting = cond (eqb number 0) meeting None }

-- the half-line from x, y through tx, ty
unfoldable pub half_line_answer_of : ℤ → ℤ → ℤ → ℤ → ℤ → ℤ → ℤ → ℤ → ℤ → HalfLineAnswer
half_line_answer_of kind x1 y1 x2 y2 x y tx ty =
    answer_by (call_fault kind x1 y1 x2 y2 x y tx ty)
    (half_line_of (corner_at x y) (corner_at tx ty) (piece_at (kind ∷ x1 ∷ y1 ∷ x2 ∷ y2 ∷ []) 0))
