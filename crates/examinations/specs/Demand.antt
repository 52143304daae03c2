-- What is promised of the pairs examined, on every chart of no more than `most` pieces, upright ones or not.
use Rattle.std.specs.Prelude.{◌≡◌, ℕ, ◌+◌, ◌-◌, ◌*◌, ◌≤◌, ◌<◌, length}
use Rattle.line_segment.specs.declared.LineSegment.{LineSegment}
use Rattle.line_segment.specs.Piece.{HasLength}
use Rattle.charts.specs.Chart.{most}
use Rattle.sweep.specs.Chart.{Chart}
use Rattle.sweep.specs.State.{State}
use Rattle.sweep.specs.Step.{stay, ranged}
use Rattle.sweep.specs.Run.{run}
use Rattle.sweep.specs.Ported.{ported}
use Rattle.examinations.specs.Examined.{examined_at, examined_in, examined}

-- n pieces have n - 1 adjacent pairs, examined twice; with no piece n - 1 is 0, and so is this
abbrev pub a_step : ℕ → ℕ
a_step n = 2 * (n - 1)

abbrev pub OnCharts : ((n : ℕ) → Chart → Type 0) → Type 0
OnCharts P =
    (n : ℕ) (piece : ℕ → LineSegment) → n ≤ most → ((i : ℕ) → i < n → HasLength (piece i)) → P n (ported n piece)

-- every adjacent pair counts, skipped ones too
abbrev pub CountsSkipped : Type 1
CountsSkipped = (C : Chart) (s : State C) (p : C.Point) → examined_at C s p ≡ (length (stay C s p) - 1) + (length (ranged C s p) - 1)

pub record ExaminesFew : Type 0 where
  -- "at most 2(n - 1) a step"
  pub a_step' : OnCharts (λ n C. (m : ℕ) → examined_in C m ≤ a_step n)
  -- .. as often as there were steps
  pub in_all : OnCharts (λ n C. (budget : ℕ) → examined C budget ≤ (run C budget).steps * a_step n)
