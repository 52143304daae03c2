-- Nothing is missing in a listing; without upright pieces it is that of the ported sweep.
-- Assumes nothing.
use mathlib.Core.Path.{◌≡◌, refl}
use mathlib.Core.Bool.{Bool}
use mathlib.Core.List.{List}
use Prim.Native.Nat.{ℕ}
use lib.IntN.{ℤ}
use Rattle.charts.specs.Piece.{piece_at}
use Rattle.sweep.specs.Lists.{Pair}
use Rattle.full_steps.proofs.Promises.{says_complete as always_complete}
use Rattle.full_order.specs.Finer.{finer}
use Rattle.full_order.proofs.Modes.{full_lists_meetings, same_without_uprights}
use Rattle.listing.specs.Listing.{largest, chart_lines, chart_text}
use Rattle.listing.specs.Demand.{ListsMeetings, SaysComplete, AsPorted}
use Rattle.listing.proofs.Counts.{swept_to_the_end}

pub lists_meetings : ListsMeetings
lists_meetings list n e = full_lists_meetings list n e largest (swept_to_the_end list n e)

pub says_complete : SaysComplete
says_complete list n = always_complete (finer n (piece_at list)) largest

same_lines : (list : List ℤ) (n : ℕ) {c d : Bool} {l m : List Pair} {s t : ℕ} → c ≡ d → l ≡ m → s ≡ t → chart_lines list n d m t ≡ chart_lines list n c l s
same_lines list n e f g = rw (e, f, g) refl

pub as_ported : AsPorted
unfolding chart_text
as_ported list n e f =
    let m = same_without_uprights list n e f in
    same_lines list n (m.complete largest) (m.answers.listed largest) (m.answers.steps largest)
