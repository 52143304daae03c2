-- At the next point of a run, what the calls leave is what the step done in place says: the places of the block, the pieces
-- gathered, the block renewed, and the active list with it. `a` is the array, and its first `live` are the active pieces.
use mathlib.Core.Path.{◌≡◌, refl, sym, ap, ap₂, ◌∙◌, subst}
use mathlib.Core.Logic.{◌≢◌, ◌⊎◌, inl, inr, ⊎_elim}
use mathlib.Core.Bool.{Bool, true, false, not, ◌||◌}
use mathlib.Core.Option.{some}
use mathlib.Core.List.Memᴰ
use mathlib.Core.List.{List, [], ◌++◌}
use mathlib.Core.List.{Memᴰ as In}
use Prim.Native.Nat.{ℕ, ◌-◌, ◌≤◌, ◌<◌}
use native.Mathlib.Omega.{arith}
use borrow.Author.Tests.{ltb-true, ltb-false, eqb-true}
use lib.Dec.{ltb, eqb}
use lib.ListN.{length, get_or, take, drop}
use lib.Seq.{slice, take-take, get_or-take, length-take-le}
use Rattle.std.specs.declared.cmp.Ordering.TheVariants.{Less, Equal, Greater}
use Rattle.sweep.specs.Lists.{upto, keep, any, sort, Pairwise}
use Rattle.sweep.specs.Chart.{Chart}
use Rattle.sweep.specs.Step.{starts, finishes}
use Rattle.sweep.specs.Geometry.{Geometry}
use Rattle.sweep.specs.Ported.{is_equal}
use Rattle.sweep.proofs.Tests.{ask, or_left, or_right, or_one, eqb_yes}
use Rattle.sweep.proofs.Lists.{keep_in, keep_out, any_in, any_out, pairwise_append, pairwise_keep}
use Rattle.sweep.proofs.Sorting.{sort_in, sort_out, sort_sorted}
use Rattle.sweep.proofs.Pairs.{upto_in, upto_out}
use Rattle.sweep.proofs.Ranked.{ranked}
use Rattle.sweep.proofs.Soonest.{starts_apart}
use Rattle.full_steps.specs.Steps.{State, next}
use Rattle.full_steps.specs.InPlace.{is_greater_lem, Sides, InPlaceFacts, block, renewed, replaced, gathered}
use Rattle.full_steps.proofs.Step.{Inv}
use Rattle.full_steps.proofs.Sides.{F, N}
use Rattle.full_steps.proofs.Replaced.{block_out, goers, comers, Through, through, rises_trans, rises_total, renewed_alone}
use Rattle.full_steps.proofs.Placed.{lo, hi, front_is, middle_is, back_is, whole_length, side_below, side_through, side_above}
use Rattle.ported_arrays.specs.Insertion.{insert_all}
use Rattle.ported_arrays.proofs.Resorting.{inserted_sort}
use Rattle.full_active.specs.Parts.{Edge, Down, Up}
use Rattle.full_active.specs.Ranks.{backwards}
use Rattle.full_active.specs.Replaced.{Replaced}
use Rattle.full_active.proofs.Places.{edge_is, down_is, up_is}
use Rattle.full_active.proofs.Shifting.{slice_is}
use Rattle.full_active.proofs.Sorted.{ascended, back_in, back_out, back_once}

module _ (C : Chart) (S : Sides C) (G : Geometry C) (A : InPlaceFacts C S G) (s : State C) (I : Inv C (ranked C G) s) (p : C.Point) (hp : next C s ≡ some p) where
  open C use {n}
  open S use {aside, rises}

  abbrev first : ℕ
  first = lo C S G A s I p hp

  abbrev last : ℕ
  last = hi C S G A s I p hp

  -- ---- places
  module _ (a : List ℕ) (live : ℕ) (fits : live ≤ length a) (holds : take live a ≡ s.active) where
    at : (i : ℕ) → i < live → get_or a i 0 ≡ get_or s.active i 0
    at i h = sym (get_or-take live a i 0 h) ∙ ap (λ (l : List ℕ). get_or l i 0) holds

    long : length s.active ≡ live
    long = ap length (sym holds) ∙ length-take-le live a fits

    ends_in : last ≤ live
    ends_in = omega (arith, long, whole_length C S G A s I p hp)

    under : (i : ℕ) → i < first → aside p (get_or a i 0) ≡ Greater
    under i h = ap (aside p) (at i (omega (arith, ends_in))) ∙ side_below C S G A s I p hp i h

    on : (i : ℕ) → first ≤ i → i < last → aside p (get_or a i 0) ≡ Equal
    on i h k = ap (aside p) (at i (omega (arith, ends_in))) ∙ side_through C S G A s I p hp i h k

    over : (i : ℕ) → last ≤ i → i < live → aside p (get_or a i 0) ≡ Less
    over i h k = ap (aside p) (at i k) ∙ side_above C S G A s I p hp i h (omega (arith, long))

    pub search_is : (r : ℕ) → Edge (λ i. is_greater_lem (aside p i)) a live r → r ≡ first
    search_is r E =
        edge_is (λ i. is_greater_lem (aside p i)) a live first r (omega (arith, ends_in)) (λ i h. ap is_greater_lem (under i h))
        (λ i h k. ⊎_elim (λ (t : ltb i last ≡ true). ap is_greater_lem (on i h (ltb-true i last t))) (λ (t : ltb i last ≡ false). ap is_greater_lem (over i (ltb-false i last t) k)) (ask (ltb i last))) E

    -- from any place of the block
    module _ (from : ℕ) (begun : first ≤ from) (ended : from ≤ last) where
      pub widen_down_is : (r : ℕ) → Down (λ i. is_equal (aside p i)) a from r → r ≡ first
      widen_down_is r D =
          down_is (λ i. is_equal (aside p i)) a live first last from begun ended (λ i h k. ap is_equal (on i h k)) (λ i h. ap is_equal (under i h)) r D

      pub widen_up_is : (r : ℕ) → Up (λ i. is_equal (aside p i)) a live from r → r ≡ last
      widen_up_is r U =
          up_is (λ i. is_equal (aside p i)) a live first last from begun ended (λ i h k. ap is_equal (on i h k)) ends_in (λ i h k. ap is_equal (over i h k)) r U

    pub block_is : slice first last a ≡ block C S s.active p
    block_is =
        let size : last - first ≡ length (block C S s.active p) = omega arith in
        ap (drop first) (sym (take-take last live a ends_in) ∙ ap (take last) holds)
        ∙ sym (slice_is s.active first last (omega arith) (omega (arith, long, ends_in)))
        ∙ ap (λ (k : ℕ). take k (drop first s.active)) size ∙ middle_is C S G A s I p hp

    -- ---- the active list
    pub replaced_is : (lanes fresh : List ℕ) (m : ℕ) (a' lanes' : List ℕ) (live' : ℕ) → take m fresh ≡ renewed C S s.active p
        → Replaced a lanes live first last fresh m a' lanes' live' → take live' a' ≡ replaced C S s.active p
    unfolding replaced
    replaced_is lanes fresh m a' lanes' live' new P =
        P.pieces_are
        ∙ ap₂ (λ (x : List ℕ) (y : List ℕ). x ++ y)
        (sym (take-take first live a (omega (arith, ends_in))) ∙ ap (take first) holds ∙ front_is C S G A s I p hp)
        (ap₂ (λ (x : List ℕ) (y : List ℕ). x ++ y) new (ap (drop last) holds ∙ back_is C S G A s I p hp))

  -- ---- the pieces at p; `new` are those that start, in any order
  module _ (new : List ℕ) (once : Pairwise (λ i j. i ≢ j) new) (new_out : (i : ℕ) → In i new → (i < n) × (starts C p i ≡ true)) (new_in : (i : ℕ) → i < n → starts C p i ≡ true → In i new) where
    abbrev on_p : List ℕ
    on_p = block C S s.active p

    block_once : Pairwise (λ i j. i ≢ j) on_p
    unfolding block
    block_once = pairwise_keep (λ i j. i ≢ j) (λ i. is_equal (aside p i)) s.active I.lined.once

    apart : (i j : ℕ) → In i on_p → In j new → i ≢ j
    apart i j m k =
        let r = new_out j k in
        starts_apart C (F C S G A) s.active s.last I.lined p (N C S G A s I p hp) i j (block_out C S G A s I p hp i m).0 r.0 r.1

    pub gathered_is : insert_all ltb [] (on_p ++ new) ≡ gathered C S s.active p
    unfolding gathered
    gathered_is =
        ascended n (λ i. starts C p i || any (eqb i) on_p) (on_p ++ new) (pairwise_append (λ i j. i ≢ j) on_p new block_once once apart)
        (λ i m. out i (Memᴰ.append_cases on_p m))
        (λ i h e. into i h (or_one (starts C p i) (any (eqb i) on_p) e))
      where
        out : (i : ℕ) → In i on_p ⊎ In i new → (i < n) × ((starts C p i || any (eqb i) on_p) ≡ true)
        out i (inl m) = ((I.lined.active_out i (block_out C S G A s I p hp i m).0).0, or_right (starts C p i) (any (eqb i) on_p) (any_in (eqb i) m (eqb_yes i i refl)))
        out i (inr m) = ((new_out i m).0, or_left (starts C p i) (any (eqb i) on_p) (new_out i m).1)

        into : (i : ℕ) → i < n → (starts C p i ≡ true) ⊎ (any (eqb i) on_p ≡ true) → In i (on_p ++ new)
        into i h (inl e) = Memᴰ.append_right on_p (new_in i h e)
        into i h (inr e) =
            let r = any_out (eqb i) on_p e in
            let d : i ≡ r.0 = eqb-true i r.0 r.2 in
            Memᴰ.append_left new (subst (λ (j : ℕ). In j on_p) (sym d) r.1)

    -- ---- the block anew
    abbrev stay_on : ℕ → Bool
    stay_on i = not (finishes C p i)

    abbrev order_put : List ℕ
    order_put = keep stay_on (backwards on_p) ++ new

    put_out : (i : ℕ) → In i order_put → In i (goers C S G A s I p hp ++ comers C S G A s I p hp)
    put_out i m =
        ⊎_elim
        (λ (h : In i (keep stay_on (backwards on_p))). let r = keep_out stay_on (backwards on_p) h in Memᴰ.append_left (comers C S G A s I p hp) (keep_in stay_on (back_out on_p r.0) r.1))
        (λ (h : In i new). let r = new_out i h in Memᴰ.append_right (goers C S G A s I p hp) (keep_in (starts C p) (upto_in n i r.0) r.1))
        (Memᴰ.append_cases (keep stay_on (backwards on_p)) m)

    put_in : (i : ℕ) → In i (goers C S G A s I p hp ++ comers C S G A s I p hp) → In i order_put
    put_in i m =
        ⊎_elim
        (λ (h : In i (goers C S G A s I p hp)). let r = keep_out stay_on on_p h in Memᴰ.append_left new (keep_in stay_on (back_in r.0) r.1))
        (λ (h : In i (comers C S G A s I p hp)). let r = keep_out (starts C p) (upto n) h in Memᴰ.append_right (keep stay_on (backwards on_p)) (new_in i (upto_out n r.0) r.1))
        (Memᴰ.append_cases (goers C S G A s I p hp) m)

    put_once : Pairwise (λ i j. i ≢ j) order_put
    put_once =
        pairwise_append (λ i j. i ≢ j) (keep stay_on (backwards on_p)) new (pairwise_keep (λ i j. i ≢ j) stay_on (backwards on_p) (back_once on_p block_once)) once
        (λ i j m k. apart i j (back_out on_p (keep_out stay_on (backwards on_p) m).0) k)

    ok : (i : ℕ) → In i order_put → Through C S G A s I p hp i
    ok i m = through C S G A s I p hp i (put_out i m)

    pub renewed_is : insert_all rises [] order_put ≡ renewed C S s.active p
    renewed_is =
        inserted_sort rises (Through C S G A s I p hp) (rises_trans C S G A s I p hp) (rises_total C S G A s I p hp) order_put ok put_once
        ∙ renewed_alone C S G A s I p hp (sort rises order_put)
        (sort_sorted rises (Through C S G A s I p hp) (rises_trans C S G A s I p hp) (rises_total C S G A s I p hp) order_put ok put_once)
        (λ i m. put_out i (sort_out rises order_put m)) (λ i m. sort_in rises (put_in i m))
