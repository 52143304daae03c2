-- The pairs that a step of the ported mode lists: exactly those that meet first at its point, in number order.
use mathlib.Core.Path.{◌≡◌, ap}
use mathlib.Core.Bool.{true, false, not}
use mathlib.Core.Option.{some}
use mathlib.Core.List.{[], ◌∷◌, ◌++◌}
use mathlib.Core.List.{Memᴰ as In}
use Prim.Native.Nat.{suc, ◌≤◌}
use native.Mathlib.Omega.{arith}
use Rattle.sweep.specs.Lists.{Pair, keep, pairs}
use Rattle.sweep.specs.Chart.{crosses, Chart, same, kind, at}
use Rattle.sweep.specs.State.{Marks, State}
use Rattle.sweep.specs.Queue.{next}
use Rattle.sweep.specs.Step.{list, takes_part, pieces, report, drop, reported}
use Rattle.sweep.specs.Sought.{pairs_at}
use Rattle.sweep.specs.Demand.{Pieces}
use Rattle.sweep.proofs.Tests.{not_true}
use Rattle.sweep.proofs.Lists.{keep_out}
use Rattle.sweep.proofs.Occurring.{at_occurs}
use Rattle.sweep.proofs.Ranked.{Ranked, same_false}
use Rattle.sweep.proofs.Fair.{reports_wait}
use Rattle.sweep.proofs.Marked.{Good, Inv}
use Rattle.sweep.proofs.Next.{next_soonest, no_wait, part_on, on_part}
use Rattle.sweep.proofs.Listing.{unlisted, pass_lists, met_more}

module _ (C : Chart) where
  report_yes : (q : Pair) (m : Marks) → unlisted C m.listed q ≡ true → (report C q m).listed ≡ m.listed ++ (q ∷ [])
  unfolding report list
  report_yes q m e = rw e

  report_no : (q : Pair) (m : Marks) → unlisted C m.listed q ≡ false → (report C q m).listed ≡ m.listed
  unfolding report
  report_no q m e = rw e

  module _ (s : State C) (p : C.Point) (F : Ranked C) (I : Inv C F s) (hp : next C s ≡ some p) where
    open F.keyed use {key}

    pub reported_listed : (reported C s p).listed ≡ s.marks.listed ++ pairs_at C p
    unfolding reported drop pieces
    reported_listed =
        pass_lists C (λ (m : Marks). m.listed) (report C) report_yes report_no F s.last p (next_soonest C F s I p hp) (takes_part C s p)
        (part_on C F s I p hp) (on_part C F s I p hp) s.marks I.good.pairs_met

    waiting_is : (reported C s p).waiting ≡ keep (λ q. not (same C (at C q) p)) s.marks.waiting
    unfolding reported drop
    waiting_is = ap (keep (λ q. not (same C (at C q) p))) (reports_wait C (pairs (pieces C s p)) s.marks)

    pub reported_good : Good C F (suc (key p)) (reported C s p)
    reported_good =
        record { pairs_met = rw reported_listed (met_more C F s.last p (next_soonest C F s I p hp) s.marks.listed I.good.pairs_met); ahead = ahead }
      where
        ahead : (q : Pair) → In q (reported C s p).waiting → Pieces C q × (kind C q ≡ crosses) × (suc (key p) ≤ key (at C q))
        ahead q m =
            let r = keep_out (λ q. not (same C (at C q) p)) s.marks.waiting (rw waiting_is at m) in
            let w = I.good.ahead q r.0 in
            let ne = same_false C F.keyed (at C q) p (at_occurs C q w.0 w.1) (next_soonest C F s I p hp).occurs (not_true _ r.1) in
            (w.0, w.1, omega (arith, no_wait C F s I p hp q r.0))
