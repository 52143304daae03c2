-- What a call that draws a folded line answers and leaves in the lent list.
use Rattle.std.specs.Prelude.{◌≡◌, Bool, cond, not, ◌&&◌, ◌||◌, List, ◌++◌, ℕ, ◌*◌, ◌%◌, ◌<◌, ◌≤◌, eqb, ltb, ℤ, length, drop}
use Rattle.charts.specs.Answer.{answer_of, then_room}
use Rattle.charts.specs.declared.Answer.{Answer}
use Rattle.charts.specs.Verdict.{Verdict}
use Rattle.charts.specs.Verdict.{Accepted, Refused}
use Rattle.folded_line.specs.Line.{count, line}

-- "an order m (1 to 60), half the sampling rate H (1 to 32,767) and a top speed S (1 to 32,767)"
abbrev pub most_order : ℕ
most_order = 60

abbrev pub limit : ℕ
limit = 32767

-- a line has at most so many pieces
abbrev pub most_pieces : ℕ
most_pieces = 200

-- v is not from 1 to high
unfoldable pub off : ℕ → ℕ → Bool
off high v = ltb v 1 || ltb high v

module _ (m h s : ℕ) where
  -- "12 an argument out of range"
  unfoldable pub off_range : Bool
  off_range = off most_order m || (off limit h || off limit s)

  -- "13 when mS is above H and m doesn't divide H"
  unfoldable pub uneven : Bool
  uneven = ltb h (m * s) && not (eqb (h % m) 0)

  -- "12 ..; 13 ..; 14 more than 200 pieces", the place zero in each
  unfoldable pub line_verdict : Verdict
  line_verdict =
      cond off_range (Refused 12 0)
      (cond uneven (Refused 13 0)
      (cond (ltb most_pieces (count m h s)) (Refused 14 0)
      (Accepted (count m h s))))

  -- "then 8 fewer lent numbers than five a piece"
  unfoldable pub drawing_of : ℕ → Verdict
  drawing_of lent = then_room (λ n. 5 * n) lent line_verdict

  -- "numbers past the last piece keep their values"; a refusal "writes nothing into lent memory"
  abbrev pub drawn_by : List ℤ → Verdict → List ℤ
  drawn_by lent (Accepted n) = line m h s ++ drop (length (line m h s)) lent
  drawn_by lent (Refused number place) = lent

  -- what a call answers, with the count of pieces, and leaves in the lent list
  pub record Draws (lent : List ℤ) (r : Answer) (after : List ℤ) : Type 0 where
    pub answer : r ≡ answer_of (λ n. n) (drawing_of (length lent))
    pub content : after ≡ drawn_by lent (drawing_of (length lent))

-- ---- what the code goes by inside
-- the three numbers are in range
pub record Sized (m h s : ℕ) : Type 0 where
  pub order : 0 < m
  pub order_most : m ≤ most_order
  pub rate : 0 < h
  pub rate_most : h ≤ limit
  pub speed : 0 < s
  pub speed_most : s ≤ limit
