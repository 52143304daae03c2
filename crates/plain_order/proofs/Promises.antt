-- The promises of specs/Demand, kept.
-- Assumes nothing.
use mathlib.Core.Path.{◌≡◌}
use mathlib.Core.List.{List, map}
use Prim.Native.Nat.{ℕ}
use lib.IntN.{ℤ}
use Rattle.charts.specs.Chart.{verdict_of}
use Rattle.charts.specs.Verdict.{Accepted}
use Rattle.naive.specs.AllPairs.{pairs_of}
use Rattle.sweep.proofs.Sorting.{sort_in, sort_out, sort_sorted, sorted_same}
use Rattle.plain_order.specs.Order.{before}
use Rattle.plain_order.specs.Plain.{turn, in_order_lem, ordering_of}
use Rattle.plain_order.specs.Demand.{FirstIsLeast, BeforeExactly, Meeting, Orders, Ordered, ListsInOrder, OneOrder, RefusesInOrder}
use Rattle.plain_order.proofs.Ordering.{Positive, before_irr, before_trans, before_total}
use Rattle.plain_order.proofs.First as first
use Rattle.plain_order.proofs.ByPoints as points
use Rattle.plain_order.proofs.Outcomes.{meeting_out, meeting_in, meeting_once, meeting_positive}

pub first_is_least : FirstIsLeast
first_is_least = first.first_is_least

pub before_exactly : BeforeExactly
before_exactly = points.before_exactly

module _ (list : List ℤ) (n : ℕ) (e : verdict_of list ≡ Accepted n) where
  orders : Orders list n
  orders =
      record {
        not_itself = λ q h. before_irr list q (meeting_positive list n e q h);
        either = λ q s h k. before_total list q s (meeting_positive list n e q h) (meeting_positive list n e s k);
        onwards = λ q s t h k l. before_trans list q s t (meeting_positive list n e q h) (meeting_positive list n e s k) (meeting_positive list n e t l);
      }

  ordered : Ordered list n (in_order_lem list n)
  unfolding in_order_lem
  ordered =
      record {
        same_pairs = λ q. (
          λ m. meeting_out list n e q (sort_out (before list) (map turn (pairs_of list n)) m),
          λ h. sort_in (before list) (meeting_in list n e q h),
        );
        in_order =
            sort_sorted (before list) (Positive list) (before_trans list) (before_total list) (map turn (pairs_of list n))
            (λ q m. meeting_positive list n e q (meeting_out list n e q m)) (meeting_once list n e);
      }

pub lists_in_order : ListsInOrder
lists_in_order list n e = (orders list n e, ordered list n e)

pub one_order : OneOrder
one_order list n e l o =
    let p = ordered list n e in
    sorted_same (before list) (Meeting list n) (orders list n e).not_itself (orders list n e).onwards l (in_order_lem list n)
    (λ q m. (o.same_pairs q).0 m) o.in_order p.in_order
    (λ q m. (p.same_pairs q).1 ((o.same_pairs q).0 m)) (λ q m. (o.same_pairs q).1 ((p.same_pairs q).0 m))

pub refuses_in_order : RefusesInOrder
unfolding ordering_of
refuses_in_order list lent =
    record {
      as_the_sweep = λ k place e. rw e;
      upright = λ n e u. rw (e, u);
      accepted = λ n e u. rw (e, u);
    }
