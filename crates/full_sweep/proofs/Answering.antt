-- What a run of the new mode tells where it stops is the call's answer.
use mathlib.Core.Path.{◌≡◌, refl, sym, ap, subst, ◌∙◌}
use mathlib.Core.Bool.{true}
use mathlib.Core.List.{List}
use Prim.Native.Nat.{ℕ, ◌*◌, ◌/◌, ◌≤◌}
use native.Mathlib.Omega.{arith}
use lib.IntN.{ℤ, pos}
use lib.ListN.{length, replicate}
use Rattle.line_segment.specs.declared.LineSegment.{LineSegment}
use Rattle.charts.specs.Chart.{most, verdict_of}
use Rattle.charts.specs.Answer.{room, listing_of}
use Rattle.charts.specs.Piece.{piece_at}
use Rattle.charts.specs.Verdict.{Accepted, Refused}
use Rattle.charts.proofs.Accepted.{accepted_most}
use Rattle.charts.proofs.Stores.{sets_front}
use Rattle.naive.specs.Pairs.{over}
use Rattle.sweep.specs.Lists.{Pair}
use Rattle.sweep.specs.Chart.{Chart}
use Rattle.sweep.specs.Geometry.{Geometry}
use Rattle.sweep.proofs.Ranked.{ranked}
use Rattle.sweep_geometry.specs.Demand.{AllProper}
use Rattle.sweep_geometry.proofs.Accepted.{list_proper}
use Rattle.ported_arrays.specs.Agreement.{flat}
use Rattle.ported_arrays.proofs.Flat.{flat_length}
use Rattle.ported_pieces.specs.Table.{piece_in}
use Rattle.ported_table.specs.Filled.{filled}
use Rattle.full_steps.specs.Steps.{answer, answer_of}
use Rattle.full_steps.proofs.Promises.{run_inv, promises, says_complete}
use Rattle.full_order.proofs.Promises.{finer_geometry}
use Rattle.full_step.specs.Carried.{chart, Given}
use Rattle.full_step.proofs.Fitting.{once_fits}
use Rattle.bentley_ottmann.specs.declared.Swept.{Swept}
use Rattle.bentley_ottmann.specs.Swept.{refused_with}
use Rattle.bentley_ottmann.proofs.Answering.{its_pieces}
use Rattle.full_loop.specs.declared.Stop.{Stop}
use Rattle.full_sweep.specs.Swept.{swept_by, listed_over, sweep_of, lent_after}
use Rattle.full_loop.specs.Running.{Stopped}

-- what the call returns from where its run stops
abbrev pub told : Stop → Swept
told stop = record { number = 0; place = 0; pairs = stop.end / 2; steps = stop.steps; ended = stop.ended; complete = true; last = stop.last; examined = 0 }

-- ---- a run that stopped
module _ (n : ℕ) (table : List ℤ) (lent : List ℕ) (K : Given n table lent) (budget : ℕ) {stop : Stop} {after : List ℕ} (S : Stopped n table budget lent stop after) where
  abbrev C : Chart
  C = chart n table

  abbrev listed : List Pair
  listed = (answer C budget).listed

  counted : stop.end / 2 ≡ length listed
  counted = let e = S.end_is ∙ flat_length listed in omega (arith, e)

  says : told stop ≡ swept_by n (piece_in table) budget
  unfolding swept_by
  says k =
      record {
        number = 0;
        place = 0;
        pairs = counted k;
        steps = S.steps_are k;
        ended = S.ended_is k;
        complete = sym (says_complete C budget) k;
        last = S.last_is k;
        examined = 0;
      }

  geometry : Geometry C
  geometry = finer_geometry n (piece_in table) K.proper

  fits : length (flat listed) ≤ length lent
  unfolding answer answer_of
  fits =
      let r = once_fits C listed ((promises C geometry).lists_once budget) (λ q m. ((run_inv C (ranked C geometry) budget).pairs_met.met q m).0) in
      omega (arith, r, K.lists)

  leaves : after ≡ listed_over n (piece_in table) budget lent
  unfolding listed_over over
  leaves = S.bytes_are ∙ sets_front lent (flat listed) fits

-- ---- an accepted list
module _ (list : List ℤ) (n : ℕ) (e : verdict_of list ≡ Accepted n) (table : List ℤ) (f : table ≡ filled list n (replicate (5 * most) (pos 0))) (lent : List ℕ) (r : room n ≤ length lent) where
  abbrev pieces : piece_in table ≡ piece_at list
  pieces = its_pieces list n e table f

  pub its_given : Given n table lent
  its_given = record { few = accepted_most list n e; proper = subst (AllProper n) (sym pieces) (list_proper list n e); lists = r }

  pub swept : (budget : ℕ) {stop : Stop} {after : List ℕ} → Stopped n table budget lent stop after
      → (told stop ≡ swept_by n (piece_at list) budget) × (after ≡ listed_over n (piece_at list) budget lent)
  swept budget S = (
    says n table lent its_given budget S ∙ ap (λ (piece : ℕ → LineSegment). swept_by n piece budget) pieces,
    leaves n table lent its_given budget S ∙ ap (λ (piece : ℕ → LineSegment). listed_over n piece budget lent) pieces,
  )

-- ---- the call
module _ (list : List ℤ) (budget : ℕ) (lent : List ℕ) where
  pub refused_outcome : (k p : ℕ) → listing_of list (length lent) ≡ Refused k p
      → (refused_with k p ≡ sweep_of list budget (length lent)) × (lent ≡ lent_after list budget lent)
  unfolding sweep_of lent_after
  refused_outcome k p e = (rw e refl, rw e refl)

  pub done_outcome : (n : ℕ) → listing_of list (length lent) ≡ Accepted n
      → (swept_by n (piece_at list) budget ≡ sweep_of list budget (length lent)) × (listed_over n (piece_at list) budget lent ≡ lent_after list budget lent)
  unfolding sweep_of lent_after
  done_outcome n e = (rw e refl, rw e refl)
