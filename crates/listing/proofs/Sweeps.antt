-- What a full sweep of an accepted list answers, and the pairs in front of the lent bytes.
-- Assumes nothing.
use mathlib.Core.Path.{◌≡◌, refl, ap, ◌∙◌}
use mathlib.Core.List.{List}
use Prim.Native.Nat.{ℕ, ◌*◌, ◌≤◌}
use native.Mathlib.Nat.{le_trans}
use lib.IntN.{ℤ}
use lib.ListN.{length, take}
use borrow.Author.Tests.{le-ltb}
use Rattle.charts.specs.Chart.{most, verdict_of}
use Rattle.charts.specs.Answer.{room}
use Rattle.charts.specs.Answer.{listing_of as verdict_for}
use Rattle.charts.specs.Piece.{piece_at}
use Rattle.charts.specs.Verdict.{Accepted}
use Rattle.naive.proofs.Reading.{read_back}
use Rattle.sweep.specs.Lists.{Pair}
use Rattle.full_steps.specs.Steps.{answer}
use Rattle.full_order.specs.Finer.{finer}
use Rattle.bentley_ottmann.specs.declared.Swept.{Swept}
use Rattle.full_sweep.specs.Swept.{saying, swept_by, listed_over, sweep_of, lent_after}
use Rattle.listing_lines.specs.Lines.{pairs_in}
use Rattle.listing.specs.Listing.{chart_lines, largest, chart_text}
use Rattle.listing.proofs.Counts.{room_few, listed_few}

-- what was answered and left is what the listing prints
pub record Listed (list : List ℤ) (n : ℕ) (r : Swept) (after : List ℕ) : Type 0 where
  pub few : 2 * r.pairs ≤ room n
  pub pairs : pairs_in (take (2 * r.pairs) after) ≡ (answer (finer n (piece_at list)) largest).listed
  pub steps : r.steps ≡ (answer (finer n (piece_at list)) largest).steps
  pub text : chart_lines list n r.complete (pairs_in (take (2 * r.pairs) after)) r.steps ≡ chart_text list n

module _ (list : List ℤ) (n : ℕ) (e : verdict_of list ≡ Accepted n) (lent : List ℕ) (l : room most ≤ length lent) where
  goes : verdict_for list (length lent) ≡ Accepted n
  unfolding verdict_for
  goes = rw (e, le-ltb (length lent) (room n) (le_trans (room_few list n e) l))

  swept_is : sweep_of list largest (length lent) ≡ saying n (piece_at list) (answer (finer n (piece_at list)) largest)
  unfolding sweep_of swept_by
  swept_is = rw goes

  pairs_are : let ps = (answer (finer n (piece_at list)) largest).listed in pairs_in (take (2 * length ps) (lent_after list largest lent)) ≡ ps
  unfolding lent_after listed_over
  pairs_are = rw goes (read_back (answer (finer n (piece_at list)) largest).listed lent)

  pub full_sweep : (r : Swept) (after : List ℕ) → r ≡ sweep_of list largest (length lent) → after ≡ lent_after list largest lent → Listed list n r after
  unfolding chart_text
  full_sweep r after h k =
      let a = answer (finer n (piece_at list)) largest in
      rw (h ∙ swept_is, k)
      (record { few = listed_few list n e largest; pairs = pairs_are; steps = refl; text = ap (λ (ps : List Pair). chart_lines list n a.complete ps a.steps) pairs_are })
