-- What is promised of a listing.
use Rattle.std.specs.Prelude.{◌≡◌, ◌↔◌, true, List, ℕ, ◌≤◌, ◌<◌, ℤ, length, take}
use mathlib.Core.List.{Memᴰ as In}
use Rattle.line_segment.specs.Demand.{Meet}
use Rattle.charts.specs.Piece.{piece_at, no_upright}
use Rattle.charts.specs.Chart.{verdict_of}
use Rattle.charts.specs.Verdict.{Accepted}
use Rattle.chart_file.specs.Groups.{Bytes}
use Rattle.place.specs.declared.Where.{Where}
use Rattle.place.specs.Place.{where_of}
use Rattle.sweep.specs.Run.{answer as ported_answer}
use Rattle.sweep.specs.Ported.{ported}
use Rattle.full_steps.specs.Steps.{answer}
use Rattle.full_order.specs.Finer.{finer}
use Rattle.listing.specs.Listing.{largest, chart_lines, chart_text, listing_of, deciding, longest_text}

-- no byte past those that decide changes the listing, however long the input
abbrev pub DecidedEarly : Type 0
DecidedEarly = (file : List ℕ) (k : ℕ) → deciding ≤ k → listing_of (take k file) ≡ listing_of file

-- "steps to the end"
abbrev pub SweptToTheEnd : Type 0
SweptToTheEnd = (list : List ℤ) (n : ℕ) → verdict_of list ≡ Accepted n → (answer (finer n (piece_at list)) largest).ended ≡ true

-- nothing is missing: a pair has a line exactly when it meets
abbrev pub ListsMeetings : Type 0
ListsMeetings =
    (list : List ℤ) (n : ℕ) → verdict_of list ≡ Accepted n
    → (a b : ℕ) → In (a, b) (answer (finer n (piece_at list)) largest).listed ↔ ((a < b) × (b < n) × Meet (piece_at list a) (piece_at list b))

-- .. and that is said of every chart
abbrev pub SaysComplete : Type 0
SaysComplete = (list : List ℤ) (n : ℕ) → (answer (finer n (piece_at list)) largest).complete ≡ true

-- without upright pieces the listing is that of the ported sweep
abbrev pub AsPorted : Type 0
AsPorted =
    (list : List ℤ) (n : ℕ) → verdict_of list ≡ Accepted n → no_upright list n ≡ true
    → let swept = ported_answer (ported n (piece_at list)) largest in
    chart_text list n ≡ chart_lines list n swept.complete swept.listed swept.steps

-- every pair that is listed meets, so its line has a place
abbrev pub LinesHavePlaces : Type 0
LinesHavePlaces =
    (list : List ℤ) (n : ℕ) → verdict_of list ≡ Accepted n
    → (a b : ℕ) → In (a, b) (answer (finer n (piece_at list)) largest).listed → ¬ (where_of (piece_at list a) (piece_at list b) ≡ Where.Nothing)

-- there is room for every listing
abbrev pub Fits : Type 0
Fits = (file : List ℕ) → Bytes file → length (listing_of file) ≤ longest_text
