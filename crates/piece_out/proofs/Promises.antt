-- The promises of specs/Demand, kept: all of them follow from the list in order, which a full run of either mode leaves.
-- Assumes nothing.
use mathlib.Core.Path.{◌≡◌, refl, sym, ap, ap₂, ◌∙◌, subst}
use mathlib.Core.Bool.{true}
use mathlib.Core.List.{List, ◌++◌}
use Prim.Native.Nat.{ℕ, ◌+◌, ◌*◌, ◌-◌, ◌<◌, ◌≤◌}
use native.Mathlib.Omega.{arith}
use lib.IntN.{ℤ}
use lib.ListN.{length, take, drop, length-append, take-append-drop}
use Rattle.line_segment.specs.declared.LineSegment.{LineSegment}
use Rattle.charts.specs.Answer.{listing_of}
use Rattle.charts.specs.Chart.{verdict_of}
use Rattle.charts.specs.Piece.{piece_at}
use Rattle.charts.specs.Verdict.{Accepted}
use Rattle.charts.proofs.Listing.{listing_goes, listing_accepted, listing_refuses_exactly}
use Rattle.charts.proofs.Room.{room_least}
use Rattle.naive.specs.Pairs.{bytes, over}
use Rattle.sweep.specs.Lists.{Pair}
use Rattle.sweep.specs.Ported.{is_less, ported}
use Rattle.sweep.specs.Run.{answer as swept}
use Rattle.bentley_ottmann.specs.declared.Swept.{Swept}
use Rattle.bentley_ottmann.specs.Swept.{swept_by}
use Rattle.full_steps.specs.Steps.{answer}
use Rattle.full_steps.specs.Demand.{full_run}
use Rattle.full_order.specs.Finer.{finer_order, finer}
use Rattle.full_order.proofs.Modes.{list_full_sweeps}
use Rattle.plain_order.specs.Plain.{in_order_lem}
use Rattle.same_order.proofs.Runs.{run_in_order}
use Rattle.same_order.proofs.Promises.{swept_is, swept_left, ported_in_order}
use Rattle.promises.specs.Chart.{Accepts, NoneUpright}
use Rattle.promises.specs.Sweep.{Ported, listed_in}
use Rattle.promises.specs.AllPairs.{Allowed}
use Rattle.promises.proofs.Geometry.{none_upright}
use Rattle.naive.proofs.Reading.{read_back}
use Rattle.promises.proofs.AllPairs.{its_list}
use Rattle.full_promises.specs.Sweep.{Full}
use Rattle.full_promises.proofs.Full.{done}
use Rattle.piece_out.specs.Cut.{cut_out, put_in, raised, without}
use Rattle.piece_out.specs.Demand.{CutIsAChart, PortedWithout, NewWithout, AllPairsWithout, PutIn, PortedAdds, NewAdds, AllPairsAdds}
use Rattle.piece_out.proofs.Numbers.{raised_below}
use Rattle.piece_out.proofs.Lists.{accepted_length, long_enough, piece_is, cut_accepted, cut_put}
use Rattle.piece_out.proofs.Pairs.{adds_only}
use Rattle.piece_out.proofs.Rest.{order_without, all_pairs_without}

-- a full run of the new mode leaves the list in order
new_list : (list : List ℤ) (n a : ℕ) → verdict_of list ≡ Accepted n → (answer (finer n (piece_at list)) a).ended ≡ true → (answer (finer n (piece_at list)) a).listed ≡ in_order_lem list n
new_list list n a e g =
    run_in_order list n e (λ p i j. is_less (finer_order (piece_at list) p i j)) (full_run (finer n (piece_at list))) (list_full_sweeps list n e) a g

-- ---- an accepted list
module _ (list : List ℤ) (n : ℕ) (lent : List ℕ) (c : Accepts list lent n) where
  given : listing_of list (length lent) ≡ Accepted n
  given = (listing_refuses_exactly list (length lent) (Accepted n)).1 c

  accepted : verdict_of list ≡ Accepted n
  accepted = (listing_goes list (length lent) n given).0

  -- a full sweep leaves the list in order
  ported_list : NoneUpright list n → (a : ℕ) (r : Swept) (after : List ℕ) → Ported list a lent r after → r.ended ≡ true → listed_in r after ≡ in_order_lem list n
  unfolding swept_by
  ported_list flat a r after o g =
      let says = o.returned ∙ swept_is list n lent given a in
      let l = (swept (ported n (piece_at list)) a).listed in
      rw (says, o.left ∙ swept_left list n lent given a) (read_back l lent)
      ∙ ported_in_order list n lent given a ((none_upright list n).1 flat) (sym (ap (λ (s : Swept). s.ended) says) ∙ g)

  -- so does one in the new mode
  full_list : (a : ℕ) (r : Swept) (after : List ℕ) → Full list a lent r after → r.ended ≡ true → listed_in r after ≡ in_order_lem list n
  full_list a r after o g =
      let d = done list a lent r after o n given in
      rw (d.0, d.1) (read_back (answer (finer n (piece_at list)) a).listed lent)
      ∙ new_list list n a accepted (sym (ap (λ (s : Swept). s.ended) d.0) ∙ g)

pub cut_is_a_chart : CutIsAChart
cut_is_a_chart list n i lent c h =
    let e = accepted list n lent c in
    record {
      accepted =
          (listing_refuses_exactly (cut_out i list) (length lent) (Accepted (n - 1))).0
          (listing_accepted (cut_out i list) (length lent) (n - 1) (cut_accepted list n i e h)
          (omega (arith, room_least (n - 1) n (omega arith), (listing_goes list (length lent) n (given list n lent c)).1)));
      none_upright = λ flat j g.
          subst (λ (s : LineSegment). ¬ (s.min.x ≡ s.max.x)) (sym (piece_is list i (long_enough list n i e h) j)) (flat (raised i j) (raised_below i j n h g));
    }

pub ported_without : PortedWithout
ported_without list n i a b lent r s after beyond c flat h o g p k =
    let t = cut_is_a_chart list n i lent c h in
    ported_list (cut_out i list) (n - 1) lent t.accepted (t.none_upright flat) b s beyond p k
    ∙ order_without list n i (accepted list n lent c) h
    ∙ ap (without i) (sym (ported_list list n lent c flat a r after o g))

pub new_without : NewWithout
new_without list n i a b lent r s after beyond c h o g p k =
    full_list (cut_out i list) (n - 1) lent (cut_is_a_chart list n i lent c h).accepted b s beyond p k
    ∙ order_without list n i (accepted list n lent c) h
    ∙ ap (without i) (sym (full_list list n lent c a r after o g))

pub all_pairs_promise : AllPairsWithout
all_pairs_promise list n i lent r s after beyond c h o p =
    its_list (cut_out i list) (n - 1) lent (cut_is_a_chart list n i lent c h).accepted p
    ∙ all_pairs_without list n i (accepted list n lent c) h
    ∙ ap (without i) (sym (its_list list n lent c o))

-- ---- the other way
module _ (list five : List ℤ) (n i : ℕ) (t : PutIn list five i) (e : verdict_of (put_in i five list) ≡ Accepted n) where
  back : cut_out i (put_in i five list) ≡ list
  back = cut_put list five i t.others t.five_numbers

  inside : i < n
  unfolding put_in
  inside =
      omega (
        arith,
        accepted_length (put_in i five list) n e,
        length-append (take (5 * i) list) (five ++ drop (5 * i) list),
        length-append five (drop (5 * i) list),
        length-append (take (5 * i) list) (drop (5 * i) list),
        ap length (take-append-drop (5 * i) list),
        t.five_numbers,
        t.others,
      )

pub ported_adds : PortedAdds
ported_adds list five n i a b lent r s after beyond t c flat o g p k =
    let e = accepted (put_in i five list) n lent c in
    adds_only i (listed_in r after) (listed_in s beyond)
    (ported_without (put_in i five list) n i b a lent s r beyond after c flat (inside list five n i t e) p k
    (subst (λ (l : List ℤ). Ported l a lent r after) (sym (back list five n i t e)) o) g)

pub new_adds : NewAdds
new_adds list five n i a b lent r s after beyond t c o g p k =
    let e = accepted (put_in i five list) n lent c in
    adds_only i (listed_in r after) (listed_in s beyond)
    (new_without (put_in i five list) n i b a lent s r beyond after c (inside list five n i t e) p k
    (subst (λ (l : List ℤ). Full l a lent r after) (sym (back list five n i t e)) o) g)

pub all_pairs_adds : AllPairsAdds
all_pairs_adds list five n i lent r s after beyond t c o p =
    let e = accepted (put_in i five list) n lent c in
    adds_only i _ _
    (all_pairs_promise (put_in i five list) n i lent s r beyond after c (inside list five n i t e) p (subst (λ (l : List ℤ). Allowed l lent r after) (sym (back list five n i t e)) o))
