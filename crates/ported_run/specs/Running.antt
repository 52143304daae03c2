-- What the arrays hold when a run begins, and what is told where it stops.
use Rattle.std.specs.Prelude.{◌≡◌, cond, List, [], ℕ, ◌-◌, ◌*◌, ◌/◌, ◌≤◌, ◌<◌, eqb, ℤ, length, Option, None, Some}
use Rattle.fractions.specs.declared.Point.{Point}
use Rattle.line_segment.specs.Piece.{HasLength}
use Rattle.charts.specs.Chart.{most}
use Rattle.charts.specs.Answer.{room}
use Rattle.sweep.specs.Lists.{upto}
use Rattle.sweep.specs.Chart.{Chart}
use Rattle.sweep.specs.Run.{is_none}
use Rattle.ported_arrays.specs.Numbers.{end_before}
use Rattle.ported_arrays.specs.Insertion.{insert_all}
use Rattle.ported_arrays.specs.Event.{Sheet}
use Rattle.ported_arrays.specs.Run.{blank, next, onwards, start}
use Rattle.ported_pieces.specs.Table.{piece_in, chart_in}
use Rattle.examinations.specs.Examined.{examined}
use Rattle.ported_run.specs.declared.Stop.{Stop}
use Rattle.ported_run.specs.Last.{as_last}

-- a place for every pair of the largest chart
abbrev pub places : ℕ
places = most * (most - 1) / 2

abbrev pub last_at : ℕ → Point → Option Point
last_at steps p = cond (eqb steps 0) None (Some p)

pub record Begun (n : ℕ) (table : List ℤ) (ends active marks waiting bytes : List ℕ) : Type 0 where
  pub few : n ≤ most
  pub long : (i : ℕ) → i < n → HasLength (piece_in table i)
  pub count : length ends ≡ 2 * n
  pub in_order : ends ≡ insert_all (end_before (chart_in n table)) [] (upto (2 * n))
  pub actives : length active ≡ most
  pub free : marks ≡ blank
  pub waits : length waiting ≡ places
  pub lists : room n ≤ length bytes

module _ (n : ℕ) (table : List ℤ) (budget : ℕ) (lent : List ℕ) where
  abbrev chart : Chart
  chart = chart_in n table

  -- the sheet that a run with this budget comes to
  abbrev pub came : Sheet chart
  came = onwards chart budget (start chart places lent)

  -- it stops so, and leaves these bytes where `lent` stood
  pub record Stopped (stop : Stop) (bytes : List ℕ) : Type 0 where
    pub end_is : stop.end ≡ came.ledger.end
    pub steps_are : stop.steps ≡ came.steps
    pub ended_is : stop.ended ≡ is_none chart (next chart came)
    pub last_is : stop.last ≡ as_last came.last
    pub examined_are : stop.examined ≡ examined chart budget
    pub bytes_are : bytes ≡ came.ledger.bytes
