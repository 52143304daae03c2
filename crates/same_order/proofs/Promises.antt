-- The promises of specs/Demand, kept.
-- Assumes nothing.
use mathlib.Core.Path.{◌≡◌, refl, sym, ap, ◌∙◌, subst}
use mathlib.Core.Logic.{◌≢◌}
use mathlib.Core.Bool.{true}
use mathlib.Core.List.{List}
use mathlib.Core.List.{Memᴰ as In}
use Prim.Native.Nat.{ℕ, ◌+◌, ◌*◌, ◌≤◌}
use native.Mathlib.Omega.{arith}
use lib.IntN.{ℤ}
use lib.ListN.{length}
use Rattle.charts.specs.Answer.{listing_of}
use Rattle.charts.specs.Chart.{verdict_of}
use Rattle.charts.specs.Piece.{piece_at, no_upright}
use Rattle.charts.specs.Verdict.{Accepted}
use Rattle.charts.proofs.Listing.{listing_goes}
use Rattle.naive.specs.Pairs.{Pair, bytes, over}
use Rattle.sweep.specs.Chart.{meets, kind}
use Rattle.sweep.specs.Sought.{all, meeting}
use Rattle.sweep.proofs.Lists.{pairwise_keep}
use Rattle.sweep.proofs.Occurring.{all_once}
use Rattle.ported_arrays.proofs.Distinct.{distinct_fit}
use Rattle.sweep_geometry.proofs.Promises.{ported_always}
use Rattle.sweep.specs.Ported.{is_less, ported}
use Rattle.sweep.specs.Demand.{ported_run}
use Rattle.sweep.specs.Run.{answer as swept}
use Rattle.sweep_geometry.proofs.Accepted.{list_proper, list_sweeps}
use Rattle.bentley_ottmann.specs.declared.Swept.{Swept}
use Rattle.bentley_ottmann.specs.Swept.{swept_by, listed_over, sweep_of, lent_after}
use Rattle.full_steps.specs.Demand.{full_run}
use Rattle.full_order.specs.Finer.{finer_order, finer}
use Rattle.full_order.proofs.Modes.{list_full_sweeps}
use Rattle.plain_order.specs.Plain.{in_order_lem, ordering_of, plain_of, every_of, every_after}
use Rattle.plain_order.specs.Plain.{lent_after as plain_after}
use Rattle.same_order.specs.Demand.{PlainIsPorted, EnoughBudget, RefusedAlike, PlainIsNew}
use Rattle.same_order.proofs.Runs.{run_in_order}

-- ---- what the calls leave on a list that both take
module _ (list : List ℤ) (n : ℕ) (lent : List ℕ) (e : listing_of list (length lent) ≡ Accepted n) where
  accepted : verdict_of list ≡ Accepted n
  accepted = (listing_goes list (length lent) n e).0

  plain_count : no_upright list n ≡ true → (plain_of list (length lent)).count ≡ length (in_order_lem list n)
  unfolding plain_of ordering_of
  plain_count u = rw (e, u)

  plain_left : no_upright list n ≡ true → plain_after list lent ≡ over (bytes (in_order_lem list n)) lent
  unfolding plain_after ordering_of
  plain_left u = rw (e, u)

  every_count : (every_of list (length lent)).count ≡ length (in_order_lem list n)
  unfolding every_of
  every_count = rw e

  every_left : every_after list lent ≡ over (bytes (in_order_lem list n)) lent
  unfolding every_after
  every_left = rw e

  module _ (budget : ℕ) where
    pub swept_is : sweep_of list budget (length lent) ≡ swept_by n (piece_at list) budget
    unfolding sweep_of
    swept_is = rw e

    pub swept_left : lent_after list budget lent ≡ over (bytes (swept (ported n (piece_at list)) budget).listed) lent
    unfolding lent_after listed_over
    swept_left = rw e

    pub ported_in_order : no_upright list n ≡ true → (swept (ported n (piece_at list)) budget).ended ≡ true → (swept (ported n (piece_at list)) budget).listed ≡ in_order_lem list n
    ported_in_order u g =
        run_in_order list n accepted (ported n (piece_at list)).before (ported_run (ported n (piece_at list))) (list_sweeps list n accepted u) budget g

    -- k is the count of the pairs listed
    as_many : no_upright list n ≡ true → length (meeting (ported n (piece_at list))) ≤ length (in_order_lem list n)
    unfolding meeting
    as_many u =
        let C = ported n (piece_at list) in
        let big : ℕ = 2 * n + length (meeting C) in
        let P = list_sweeps list n accepted u in
        let g = (ported_always n (piece_at list) (list_proper list n accepted)).ends_soon big (omega arith) in
        let same = run_in_order list n accepted C.before (ported_run C) P big g in
        distinct_fit (meeting C) (in_order_lem list n) (pairwise_keep (λ q r. q ≢ r) (λ q. meets (kind C q)) (all C) (all_once C))
        (λ q m. subst (λ (l : List Pair). In q l) same ((P.lists_all big g q).1 m))

    ended : no_upright list n ≡ true → 2 * n + length (in_order_lem list n) ≤ budget → (swept (ported n (piece_at list)) budget).ended ≡ true
    ended u h = (ported_always n (piece_at list) (list_proper list n accepted)).ends_soon budget (omega (arith, as_many u))

pub plain_is_ported : PlainIsPorted
unfolding swept_by
plain_is_ported list n budget lent (e, u) g =
    let s = swept_is list n lent e budget in
    let same = ported_in_order list n lent e budget u (sym (ap (λ (r : Swept). r.ended) s) ∙ g) in
    record {
      count = plain_count list n lent e u ∙ ap (λ (l : List Pair). length l) (sym same) ∙ sym (ap (λ (r : Swept). r.pairs) s);
      left = plain_left list n lent e u ∙ ap (λ (l : List Pair). over (bytes l) lent) (sym same) ∙ sym (swept_left list n lent e budget);
    }

pub enough_budget : EnoughBudget
unfolding swept_by
enough_budget list n budget lent (e, u) h =
    ap (λ (r : Swept). r.ended) (swept_is list n lent e budget) ∙ ended list n lent e budget u (omega (arith, plain_count list n lent e u))

pub plain_is_new : PlainIsNew
plain_is_new list n budget lent e g =
    let same =
    run_in_order list n (accepted list n lent e) (λ p i j. is_less (finer_order (piece_at list) p i j)) (full_run (finer n (piece_at list)))
    (list_full_sweeps list n (accepted list n lent e)) budget g in
    record {
      count = every_count list n lent e ∙ ap (λ (l : List Pair). length l) (sym same);
      left = every_left list n lent e ∙ ap (λ (l : List Pair). over (bytes l) lent) (sym same);
    }

pub refused_alike : RefusedAlike
unfolding plain_of plain_after ordering_of lent_after
refused_alike list k place budget lent r e = rw e (refl, refl)
