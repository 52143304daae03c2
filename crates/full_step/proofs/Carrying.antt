-- The statements of specs/Demand, kept: arrays that hold the state are fit for the step at its next point, and then they hold
-- the state after it.
use mathlib.Core.Path.{◌≡◌, refl, sym, ap, ap₂, subst, ◌∙◌}
use mathlib.Core.Logic.{◌≢◌}
use mathlib.Core.Option.{some}
use mathlib.Core.List.{List, ◌++◌}
use mathlib.Core.List.{Memᴰ as In}
use Prim.Native.Nat.{ℕ, suc, ◌+◌, ◌≤◌}
use native.Mathlib.Omega.{arith}
use lib.IntN.{ℤ}
use lib.ListN.{length, take, length-append}
use lib.Seq.{slice, sets, length-sets, length-take-le}
use Rattle.fractions.specs.declared.Point.{Point}
use Rattle.charts.specs.Answer.{room}
use Rattle.charts.proofs.Stores.{sets_append}
use Rattle.sweep.specs.Lists.{Pair, keep, pairs, Pairwise}
use Rattle.sweep.specs.Chart.{Chart}
use Rattle.sweep.specs.Geometry.{Geometry}
use Rattle.sweep.proofs.Ranked.{ranked}
use Rattle.sweep.proofs.Between.{Lined}
use Rattle.sweep_geometry.specs.Demand.{Proper}
use Rattle.ported_arrays.specs.Agreement.{flat}
use Rattle.ported_arrays.proofs.Flat.{flat_append}
use Rattle.ported_pieces.specs.Table.{piece_in}
use Rattle.full_steps.specs.Steps.{State, start, next, reported, step, move, move_to, run, answer, answer_of}
use Rattle.full_steps.specs.InPlace.{Sides, InPlaceFacts, renewed, replaced, fresh_pairs}
use Rattle.full_steps.proofs.Step.{Inv, step_inv}
use Rattle.full_steps.proofs.Placed.{lo, hi, whole_length}
use Rattle.full_steps.proofs.Replaced.{same_active}
use Rattle.full_steps.proofs.Fresh.{same_listed}
use Rattle.full_steps.proofs.Promises.{run_inv, promises}
use Rattle.full_order.specs.Finer.{finer, sides_of}
use Rattle.full_order.proofs.Promises.{finer_supplies}
use Rattle.full_points.specs.declared.Spot.{Spot}
use Rattle.full_active.specs.Ranks.{starters}
use Rattle.full_list.specs.Listed.{fresh_in, Roomy}
use Rattle.full_step.specs.declared.At.{At}
use Rattle.full_step.specs.Halves.{InBounds, Turnable, at_point, new_block}
use Rattle.full_step.specs.Whole.{Steppable, Stepped}
use Rattle.full_step.specs.Carried.{Given, Carried, Starting, StandsAt}
use Rattle.full_step.specs.Demand.{CarriesOn, StepCarries, StartCarried}
use Rattle.full_step.proofs.Joined.{fresh_pairs_are, new_block_is, in_place_is}
use Rattle.full_step.proofs.Fitting.{no_more_than, once_fits}
use Rattle.full_step.proofs.Besides.{beside_again}

module _ (n : ℕ) (table : List ℤ) (lent : List ℕ) (K : Given n table lent) where
  abbrev C : Chart
  C = finer n (piece_in table)

  abbrev S : Sides C
  S = sides_of n (piece_in table)

  module _ (G : Geometry C) (A : InPlaceFacts C S G) (s : State C) (I : Inv C (ranked C G) s) (p : Point) (hp : next C s ≡ some p) (once : Pairwise (λ q r. q ≢ r) (reported C s p))
      (active lanes : List ℕ) (live : ℕ) (bytes : List ℕ) (end : ℕ) (H : Carried n table lent s active lanes live bytes end)
      (ends : List ℕ) (E : Starting n table p ends) (rough : Point) (spot : Spot) (W : StandsAt p rough spot) where
    abbrev first : ℕ
    first = lo C S G A s I p hp

    abbrev last : ℕ
    last = hi C S G A s I p hp

    abbrev new : List Pair
    new = fresh_pairs C S s.active p

    lived : live ≡ length s.active
    lived = sym (length-take-le live active H.lanes_are.places) ∙ ap length H.active_is

    -- ---- the step can be done
    counted : length s.active + length (starters ends) ≤ n
    counted = no_more_than C S G A s I p hp (starters ends) E.once E.only

    bounds : InBounds first last active ends
    bounds =
        let w = whole_length C S G A s I p hp in
        let h = H.lanes_are.places in
        record {
          ordered = omega arith;
          within = omega (arith, lived);
          small = λ i m. omega (arith, (E.only i m).0, K.few);
          few = omega (arith, counted, K.few);
        }

    turnable : Turnable active lanes live last ends
    turnable = record { inside = omega (arith, lived, whole_length C S G A s I p hp); fits = omega (arith, lived, counted, H.wide); alike = H.alike }

    new_are : keep (fresh_in table p) (pairs (at_point first last active ends)) ≡ new
    new_are = fresh_pairs_are n table G A s I p hp active live H.lanes_are.places H.active_is ends E.once E.only E.all

    flat_listed : flat (reported C s p) ≡ flat s.listed ++ flat new
    flat_listed = ap flat (same_listed C S G A s I p hp) ∙ flat_append s.listed new

    listed_fits : length (flat (reported C s p)) ≤ room n
    listed_fits = once_fits C (reported C s p) once (λ q m. unfold step in ((step_inv C (ranked C G) s I p hp).pairs_met.met q m).0)

    roomy : Roomy table spot (pairs (at_point first last active ends)) bytes end
    roomy =
        record {
          point = p;
          marks = W.marks;
          room =
              omega (
                arith,
                H.end_is,
                ap length (ap flat new_are),
                ap length flat_listed ∙ length-append (flat s.listed) (flat new),
                listed_fits,
                K.lists,
                ap length H.bytes_are ∙ length-sets lent 0 (flat s.listed),
              );
        }

    active_then : take first active ++ (new_block table p first last active ends ++ slice last live active) ≡ (step C s p).active
    unfolding step
    active_then =
        in_place_is n table G A s I p hp active live H.lanes_are.places H.active_is ends E.once E.only E.all
        ∙ sym (same_active C S G A s I p hp)

    proper : (i : ℕ) → In i (take first active ++ (new_block table p first last active ends ++ slice last live active)) → Proper (piece_in table i)
    proper i m = K.proper i ((step_inv C (ranked C G) s I p hp).lined.active_out i (subst (λ (l : List ℕ). In i l) active_then m)).0

    fit : Steppable table spot active lanes live first last ends bytes end
    unfolding roomy
    fit = record { fair = W.fair; bounds = bounds; turnable = turnable; roomy = roomy; proper = proper }

    -- ---- what it leaves
    module _ (active' lanes' bytes' : List ℕ) (r : At) (same : length active' ≡ length active) (beside : length lanes' ≡ length lanes)
        (T : Stepped table p rough active lanes live first last ends bytes end active' lanes' bytes' r (new_block table p first last active ends)) where
      abbrev block_new : new_block table p first last active ends ≡ renewed C S s.active p
      block_new = new_block_is n table G A s I p hp active live H.lanes_are.places H.active_is ends E.once E.only E.all

      T' : Stepped table p rough active lanes live first last ends bytes end active' lanes' bytes' r (renewed C S s.active p)
      T' = subst (λ (z : List ℕ). Stepped table p rough active lanes live first last ends bytes end active' lanes' bytes' r z) block_new T

      active_now : take r.live active' ≡ (step C s p).active
      active_now = T.pieces_are ∙ active_then

      bytes_now : bytes' ≡ sets lent 0 (flat (step C s p).listed)
      unfolding step
      bytes_now =
          let z : length (flat s.listed) ≡ 0 + length (flat s.listed) = omega arith in
          T.pairs_are.bytes_are
          ∙ ap (λ (l : List Pair). sets bytes end (flat l)) new_are
          ∙ ap₂ (λ (l : List ℕ) (i : ℕ). sets l i (flat new)) H.bytes_are (H.end_is ∙ z)
          ∙ sym (sets_append lent 0 (flat s.listed) (flat new))
          ∙ ap (sets lent 0) (sym flat_listed)

      end_now : r.end ≡ length (flat (step C s p).listed)
      unfolding step
      end_now =
          T.pairs_are.end_is
          ∙ ap₂ (λ (i : ℕ) (l : List Pair). i + length (flat l)) H.end_is new_are
          ∙ sym (length-append (flat s.listed) (flat new))
          ∙ ap length (sym flat_listed)

      pub after : Carried n table lent (step C s p) active' lanes' r.live bytes' r.end
      after =
          record {
            wide = omega (arith, H.wide);
            alike = beside ∙ H.alike ∙ sym same;
            active_is = active_now;
            lanes_are =
                unfold step replaced in
                beside_again n table K.proper G A s I p hp active lanes live H.active_is H.lanes_are rough W.same_place active' lanes' r.live
                T.fits (omega (arith, T.fits, H.alike)) T'.live_is
                (active_now ∙ same_active C S G A s I p hp)
                (subst (λ (l : List ℕ). Lined C (ranked C G) l (some p)) (sym active_now) (step_inv C (ranked C G) s I p hp).lined)
                T'.lanes_are;
            bytes_are = bytes_now;
            end_is = end_now;
          }

    pub carries : CarriesOn n table lent s p rough spot active lanes live first last ends bytes end
    unfolding fit
    carries = record { steppable = fit; there = refl; carried = after }

  -- ---- at every step of a run
  once_listed : (G : Geometry C) (budget : ℕ) (p : Point) → next C (run C budget) ≡ some p → Pairwise (λ q r. q ≢ r) (reported C (run C budget) p)
  unfolding answer answer_of run move move_to step
  once_listed G budget p hp = rw hp at ((promises C G).lists_once (suc budget))

pub step_carries : StepCarries
step_carries n table lent K budget p hp active lanes live bytes end H ends E rough spot W lo hi B =
    let C = finer n (piece_in table) in
    let g = finer_supplies n (piece_in table) K.proper in
    let c = carries n table lent K g.0 g.1 (run C budget) (run_inv C (ranked C g.0) budget) p hp (once_listed n table lent K g.0 budget p hp)
    active lanes live bytes end H ends E rough spot W in
    rw (B.first, B.last) c

pub start_carried : StartCarried
unfolding start flat
start_carried n table active lanes lent wide alike =
    record {
      wide = wide;
      alike = alike;
      active_is = refl;
      lanes_are = record { room = omega arith; places = omega arith; lanes_are = λ k h. absurd (omega arith); end = λ k h. absurd (omega arith) };
      bytes_are = refl;
      end_is = refl;
    }
