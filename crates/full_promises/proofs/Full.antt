-- The promises of the new mode: its run is that of the definitions, and nothing is missing on any chart.
-- Assumes nothing.
use mathlib.Core.Path.{◌≡◌, refl, sym, ap, ◌∙◌}
use mathlib.Core.Bool.{Bool}
use mathlib.Core.List.{List}
use Prim.Native.Nat.{ℕ}
use lib.IntN.{ℤ}
use lib.ListN.{length}
use Rattle.fractions.specs.declared.Point.{Point}
use Rattle.line_segment.specs.declared.LineSegment.{LineSegment}
use Rattle.charts.specs.Answer.{listing_of}
use Rattle.charts.specs.Piece.{piece_at}
use Rattle.charts.specs.Verdict.{Accepted, Refused}
use Rattle.charts.proofs.Listing.{listing_goes, listing_refuses_exactly}
use Rattle.naive.specs.Pairs.{bytes, over}
use Rattle.sweep.specs.Lists.{Pair}
use Rattle.sweep.specs.Chart.{Chart}
use Rattle.sweep.specs.Ported.{is_less}
use Rattle.sweep.specs.Ported.{ported as ported_chart}
use Rattle.sweep.specs.Run.{Answer as Told}
use Rattle.full_steps.specs.Steps.{answer, visited}
use Rattle.full_steps.specs.Demand.{full_run}
use Rattle.full_steps.proofs.Promises.{tells}
use Rattle.full_steps.proofs.Promises.{says_complete as always_complete}
use Rattle.full_order.specs.Finer.{finer_order, finer}
use Rattle.full_order.proofs.Modes.{list_full_sweeps, same_without_uprights}
use Rattle.bentley_ottmann.specs.declared.Swept.{Swept}
use Rattle.ported_run.specs.Last.{as_last}
use Rattle.bentley_ottmann.specs.Swept.{refused_with}
use Rattle.bentley_ottmann.specs.Swept as ported
use Rattle.bentley_ottmann.proofs.Answering as ported_call
use Rattle.full_sweep.specs.Swept.{saying, swept_by, listed_over, sweep_of, lent_after}
use Rattle.promises.specs.Sweep.{SweepPromises}
use Rattle.full_sweep.proofs.sweep.Reads as sweep_call
use Rattle.promises.proofs.Geometry.{none_upright}
use Rattle.promises.proofs.Sweeping.{sweep_promises}
use Rattle.full_promises.specs.Sweep.{uncounted, Full, EveryChart, SameWithoutUprights, SameRefusals, FullPromises}
use Rattle.full_promises.proofs.Runs.{runs, sweeps}

-- the contract of `sweep` itself allows no other outcome
pub allows_these : (κ : _) (a : _) (r : _) (s : _) → sweep_call.Post κ a r s → Full a.0.now a.1.0 a.1.1.0.now r s.1.1.0.now
allows_these κ a r s h = record { returned = h.0; left = h.1 }

abbrev order : List ℤ → Point → ℕ → ℕ → Bool
order list p i j = is_less (finer_order (piece_at list) p i j)

abbrev C : List ℤ → ℕ → Chart
C list n = finer n (piece_at list)

-- ---- the call's outcome, by the verdict
module _ (list : List ℤ) (budget : ℕ) (lent : List ℕ) (r : Swept) (after : List ℕ) (o : Full list budget lent r after) where
  pub refused : (k p : ℕ) → listing_of list (length lent) ≡ Refused k p → (r ≡ refused_with k p) × (after ≡ lent)
  unfolding sweep_of lent_after
  refused k p e = (o.returned ∙ rw e refl, o.left ∙ rw e refl)

  pub done : (n : ℕ) → listing_of list (length lent) ≡ Accepted n
      → (r ≡ saying n (piece_at list) (answer (C list n) budget)) × (after ≡ over (bytes (answer (C list n) budget).listed) lent)
  unfolding sweep_of lent_after swept_by listed_over
  done n e = (o.returned ∙ rw e refl, o.left ∙ rw e refl)

-- ---- every promise of a sweep
pub sweep : SweepPromises Full EveryChart
sweep =
    sweep_promises Full EveryChart order (λ list n. answer (C list n)) (λ list n. visited (C list n)) (λ list n budget. 0)
    (record {
      done = λ list n budget lent r after e o. done list budget lent r after o n e;
      refused = λ list budget lent r after o. refused list budget lent r after o;
      complete = λ list n budget e. (λ h. tt, λ h. always_complete (C list n) budget);
      runs = λ list n e. runs (C list n) (full_run (C list n)) (tells (C list n)) (list_full_sweeps list n e);
      sweeps = λ list n e h. sweeps (C list n) (full_run (C list n)) (tells (C list n)) (list_full_sweeps list n e);
    })

-- ---- beside the ported sweep
-- both say a record of the same five values; whatever was examined is left out
same_saying : (n : ℕ) (piece : ℕ → LineSegment) (a : Told (ported_chart n piece)) (b : Told (finer n piece))
    → a.listed ≡ b.listed → a.steps ≡ b.steps → a.ended ≡ b.ended → a.complete ≡ b.complete → a.last ≡ b.last
    → saying n piece b ≡ uncounted (ported.saying n piece a 0)
same_saying n piece a b l s e c t i =
    record {
      number = 0;
      place = 0;
      pairs = length (sym l i);
      steps = sym s i;
      ended = sym e i;
      complete = sym c i;
      last = as_last (sym t i);
      examined = 0;
    }

pub without_uprights : SameWithoutUprights Full
unfolding ported.swept_by ported.listed_over
without_uprights list budget lent r s after beyond (n, c, f) o p =
    let g = (listing_refuses_exactly list (length lent) (Accepted n)).1 c in
    let m = same_without_uprights list n (listing_goes list (length lent) n g).0 ((none_upright list n).1 f) in
    let x = done list budget lent r after o n g in
    let y = ported_call.done_outcome list budget lent n g in
    let a = m.answers in (
      x.0 ∙ same_saying n (piece_at list) _ _ (a.listed budget) (a.steps budget) (a.ended budget) (m.complete budget) (a.last budget) ∙ ap uncounted (y.0 ∙ sym p.returned),
      x.1 ∙ ap (λ (l : List Pair). over (bytes l) lent) (sym (a.listed budget)) ∙ y.1 ∙ sym p.left,
    )

pub same_refused : SameRefusals Full
same_refused list budget lent r s after beyond (k, q, d) o p =
    let g = (listing_refuses_exactly list (length lent) (Refused k q)).1 d in
    let x = refused list budget lent r after o k q g in
    let y = ported_call.refused_outcome list budget lent k q g in
    (x.0 ∙ ap uncounted (y.0 ∙ sym p.returned), x.1 ∙ y.1 ∙ sym p.left)

pub full_promises : FullPromises Full
full_promises = record { sweep = sweep; same_without_uprights = without_uprights; same_refusals = same_refused }
