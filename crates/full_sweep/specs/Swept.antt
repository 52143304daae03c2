-- What the call of the new mode returns, and what it leaves in the lent bytes: the ported call's form, over the new mode's
-- answer.
use Rattle.std.specs.Prelude.{List, ℕ, ℤ, length}
use Rattle.line_segment.specs.declared.LineSegment.{LineSegment}
use Rattle.charts.specs.Answer.{listing_of}
use Rattle.charts.specs.Piece.{piece_at}
use Rattle.charts.specs.Verdict.{Verdict}
use Rattle.charts.specs.Verdict.{Accepted, Refused}
use Rattle.naive.specs.Pairs.{bytes, over}
use Rattle.sweep.specs.Run.{Answer}
use Rattle.full_steps.specs.Steps.{answer}
use Rattle.full_order.specs.Finer.{finer}
use Rattle.bentley_ottmann.specs.declared.Swept.{Swept}
use Rattle.bentley_ottmann.specs.Swept.{refused_with}
use Rattle.bentley_ottmann.specs.Swept.{saying as ported_saying}

module _ (n : ℕ) (piece : ℕ → LineSegment) where
  -- the new mode's answer, said as the ported mode's is; its step has no pass over adjacent pairs to count
  abbrev pub saying : Answer (finer n piece) → Swept
  saying a =
      ported_saying n piece
      (record { listed = a.listed; steps = a.steps; ended = a.ended; complete = a.complete; last = a.last }) 0

  -- a chart of these pieces, swept; "complete" is always yes
  unfoldable pub swept_by : ℕ → Swept
  swept_by budget = saying (answer (finer n piece) budget)

  -- "bytes past the last pair keep their values"
  unfoldable pub listed_over : ℕ → List ℕ → List ℕ
  listed_over budget lent = over (bytes (answer (finer n piece) budget).listed) lent

-- "A refusal returns its number and a place, with every other field zero, "no", none or nothing"
abbrev pub swept_for : List ℤ → ℕ → Verdict → Swept
swept_for list budget (Accepted n) = swept_by n (piece_at list) budget
swept_for list budget (Refused number place) = refused_with number place

unfoldable pub sweep_of : List ℤ → ℕ → ℕ → Swept
sweep_of list budget lent = swept_for list budget (listing_of list lent)

-- ".. and writes nothing into lent memory."
abbrev pub lent_for : List ℤ → ℕ → List ℕ → Verdict → List ℕ
lent_for list budget lent (Accepted n) = listed_over n (piece_at list) budget lent
lent_for list budget lent (Refused number place) = lent

unfoldable pub lent_after : List ℤ → ℕ → List ℕ → List ℕ
lent_after list budget lent = lent_for list budget lent (listing_of list (length lent))
