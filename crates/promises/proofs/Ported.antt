-- The promises of the ported sweep: its run is that of the definitions, and nothing is missing where no piece is upright.
-- Assumes nothing.
use mathlib.Core.Path.{◌≡◌, sym, ◌∙◌}
use mathlib.Core.Logic.{◌↔◌}
use mathlib.Core.Bool.{Bool, true}
use mathlib.Core.List.{List}
use Prim.Native.Nat.{ℕ}
use lib.IntN.{ℤ}
use lib.ListN.{length}
use Rattle.fractions.specs.declared.Point.{Point}
use Rattle.charts.specs.Answer.{listing_of}
use Rattle.charts.specs.Chart.{verdict_of}
use Rattle.charts.specs.Piece.{piece_at}
use Rattle.charts.specs.Verdict.{Accepted}
use Rattle.naive.specs.Pairs.{bytes, over}
use Rattle.sweep.specs.Run.{answer_of, answer, visited}
use Rattle.sweep.specs.Ported.{is_less, rank_order, ported}
use Rattle.sweep.proofs.Runs.{steps_visited}
use Rattle.sweep_geometry.proofs.Accepted.{list_proper, list_sweeps}
use Rattle.sweep_geometry.proofs.Promises.{ported_always}
use Rattle.examinations.specs.Examined.{examined}
use Rattle.bentley_ottmann.specs.declared.Swept.{Swept}
use Rattle.bentley_ottmann.specs.Swept.{saying, swept_by, listed_over}
use Rattle.bentley_ottmann.proofs.Answering.{refused_outcome, done_outcome}
use Rattle.bentley_ottmann.proofs.Answering.{none_upright as complete_is}
use Rattle.bentley_ottmann.proofs.sweep.Reads as sweep
use Rattle.promises.specs.Chart.{NoneUpright}
use Rattle.promises.specs.Sweep.{Ported, SweepPromises}
use Rattle.promises.proofs.Budgets.{steps_within, ended_or_spent}
use Rattle.promises.proofs.Geometry.{none_upright}
use Rattle.promises.proofs.Sweeping.{Runs, Sweeps, sweep_promises}

abbrev order : List ℤ → Point → ℕ → ℕ → Bool
order list p i j = is_less (rank_order (piece_at list) p i j)

-- the contract of `sweep` itself allows no other outcome
pub allows_these : (κ : _) (a : _) (r : _) (s : _) → sweep.Post κ a r s
    → Ported a.0.now a.1.0 a.1.1.0.now r s.1.1.0.now
allows_these κ a r s h = record { returned = h.0; left = h.1 }

module _ (list : List ℤ) (n : ℕ) (e : verdict_of list ≡ Accepted n) where
  runs : Runs (ported n (piece_at list)) (answer (ported n (piece_at list))) (visited (ported n (piece_at list)))
  unfolding answer answer_of
  runs =
      let C = ported n (piece_at list) in
      let t = ported_always n (piece_at list) (list_proper list n e) in
      record {
        lists_only = t.lists_only;
        lists_once = t.lists_once;
        lists_on = t.lists_on;
        visits_only = t.visits_only;
        visits_up = t.visits_up;
        steps_visited = steps_visited C;
        last_visited = t.last_visited;
        steps_within = steps_within C;
        ended_or_spent = ended_or_spent C;
        steps_bounded = t.steps_bounded;
        ends_soon = t.ends_soon;
      }

  sweeps : NoneUpright list n → Sweeps (ported n (piece_at list)) (answer (ported n (piece_at list))) (visited (ported n (piece_at list)))
  sweeps w =
      let t = list_sweeps list n e ((none_upright list n).1 w) in
      record {
        lists_exactly = t.lists_exactly;
        lists_in_order = t.lists_in_order;
        lists_all = t.lists_all;
        visits_first = t.visits_in_order.first_of;
        all_of = t.visits_in_order.all_of;
        ascending = t.visits_in_order.ascending;
        counts_steps = t.counts_steps;
        ends_exactly = t.ends_exactly;
      }

complete : (list : List ℤ) (n budget : ℕ) → ((answer (ported n (piece_at list)) budget).complete ≡ true) ↔ NoneUpright list n
unfolding answer answer_of
complete list n budget = (λ h. (none_upright list n).0 (complete_is list n ∙ h), λ w. sym (complete_is list n) ∙ (none_upright list n).1 w)

pub done : (list : List ℤ) (n budget : ℕ) (lent : List ℕ) (r : Swept) (after : List ℕ) → listing_of list (length lent) ≡ Accepted n → Ported list budget lent r after
    → (r ≡ saying n (piece_at list) (answer (ported n (piece_at list)) budget) (examined (ported n (piece_at list)) budget)) × (after ≡ over (bytes (answer (ported n (piece_at list)) budget).listed) lent)
unfolding swept_by listed_over
done list n budget lent r after e o = let t = done_outcome list budget lent n e in (o.returned ∙ sym t.0, o.left ∙ sym t.1)

pub ported_promises : SweepPromises Ported NoneUpright
ported_promises =
    sweep_promises Ported NoneUpright order (λ list n. answer (ported n (piece_at list))) (λ list n. visited (ported n (piece_at list))) (λ list n. examined (ported n (piece_at list)))
    (record {
      done = done;
      refused = λ list budget lent r after o k p e. let t = refused_outcome list budget lent k p e in (o.returned ∙ sym t.0, o.left ∙ sym t.1);
      complete = λ list n budget e. complete list n budget;
      runs = runs;
      sweeps = sweeps;
    })
