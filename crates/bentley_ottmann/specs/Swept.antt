-- What the sweep's call returns, and what it leaves in the lent bytes.
use Rattle.std.specs.Prelude.{false, List, ℕ, ℤ, length, None}
use Rattle.line_segment.specs.declared.LineSegment.{LineSegment}
use Rattle.charts.specs.Answer.{listing_of}
use Rattle.charts.specs.Piece.{piece_at}
use Rattle.charts.specs.Verdict.{Verdict}
use Rattle.charts.specs.Verdict.{Accepted, Refused}
use Rattle.naive.specs.Pairs.{bytes, over}
use Rattle.sweep.specs.Ported.{ported}
use Rattle.sweep.specs.Run.{Answer, answer}
use Rattle.examinations.specs.Examined.{examined as examined_by}
use Rattle.ported_run.specs.Last.{as_last}
use Rattle.bentley_ottmann.specs.declared.Swept.{Swept}

module _ (n : ℕ) (piece : ℕ → LineSegment) where
  -- "It returns pairs listed, steps done (the lesser of budget and steps to the empty queue), whether the queue is
  -- empty, whether the chart has no upright piece ("complete"), and the last point, or none after zero steps."
  -- "It also returns how many adjacent pairs were examined, skipped ones too, in all steps done."
  abbrev pub saying : Answer (ported n piece) → ℕ → Swept
  saying a count =
      record {
        number = 0;
        place = 0;
        pairs = length a.listed;
        steps = a.steps;
        ended = a.ended;
        complete = a.complete;
        last = as_last a.last;
        examined = count;
      }

  -- a chart of these pieces, swept
  unfoldable pub swept_by : ℕ → Swept
  swept_by budget = saying (answer (ported n piece) budget) (examined_by (ported n piece) budget)

  -- "bytes past the last pair keep their values"
  unfoldable pub listed_over : ℕ → List ℕ → List ℕ
  listed_over budget lent = over (bytes (answer (ported n piece) budget).listed) lent

-- "A refusal returns its number and a place, with every other field zero, "no", none or nothing"
abbrev pub refused_with : ℕ → ℕ → Swept
refused_with number place =
    record { number = number; place = place; pairs = 0; steps = 0; ended = false; complete = false; last = None; examined = 0 }

abbrev pub swept_for : List ℤ → ℕ → Verdict → Swept
swept_for list budget (Accepted n) = swept_by n (piece_at list) budget
swept_for list budget (Refused number place) = refused_with number place

unfoldable pub sweep_of : List ℤ → ℕ → ℕ → Swept
sweep_of list budget lent = swept_for list budget (listing_of list lent)

-- ".. and writes nothing into lent memory."
abbrev pub lent_for : List ℤ → ℕ → List ℕ → Verdict → List ℕ
lent_for list budget lent (Accepted n) = listed_over n (piece_at list) budget lent
lent_for list budget lent (Refused number place) = lent

unfoldable pub lent_after : List ℤ → ℕ → List ℕ → List ℕ
lent_after list budget lent = lent_for list budget lent (listing_of list (length lent))
