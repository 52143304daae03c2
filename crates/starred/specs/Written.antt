-- How the tables write lists, points and answers.
use Rattle.std.specs.Prelude.{true, List, [], ◌∷◌, ℕ, ◌*◌, ℤ, pos}
use Rattle.fractions.specs.declared.Point.{Point}
use Rattle.line_segment.specs.declared.EndPoint.{EndPoint}
use Rattle.line_segment.specs.declared.Meeting.{Meeting}
use Rattle.charts.specs.declared.Answer.{Answer}
use Rattle.charts.specs.declared.MeetingAnswer.{MeetingAnswer}
use Rattle.charts.specs.Chart.{most}
use Rattle.charts.specs.Piece.{piece_at}
use Rattle.chart_file.specs.Reading.{lent_reading, answer_of}
use Rattle.place.specs.declared.Where.{Where}
use Rattle.place.specs.Place.{where_of}

-- "A piece is five whole numbers: kind, x1, y1, x2, y2."
abbrev pub piece : ℕ → ℕ → ℕ → ℕ → ℕ → List ℤ
piece kind x1 y1 x2 y2 = pos kind ∷ pos x1 ∷ pos y1 ∷ pos x2 ∷ pos y2 ∷ []

-- "A point is X, Y, D"
abbrev pub at : ℕ → ℕ → ℕ → Point
at x y d = record { x = pos x; y = pos y; d = d }

-- an end that is included
abbrev pub end : ℕ → ℕ → EndPoint
end x y = record { x = pos x; y = pos y; included = true }

-- "Done has place zero"
abbrev pub met : Meeting → MeetingAnswer
met meeting = record { number = 0; place = 0; meeting = meeting }

-- where the two pieces of a list meet, exactly
abbrev pub place : List ℤ → Where
place list = where_of (piece_at list 0) (piece_at list 1)

-- what the reader answers, with as many numbers lent as the largest chart has
abbrev pub read : List ℕ → Answer
read file = answer_of (lent_reading (5 * most) file)

-- a file of one piece, kind 3, in which these bytes stand where its first coordinate is due, at place 2
abbrev pub coordinate : List ℕ → List ℕ
coordinate bytes = 1 ∷ 3 ∷ bytes
