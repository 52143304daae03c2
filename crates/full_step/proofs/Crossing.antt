-- Where two neighbours cross, both go on and no other piece is there, the step is their exchange.
use mathlib.Core.Path.{◌≡◌, refl, sym, ap, subst, ◌∙◌}
use mathlib.Core.Logic.{⊎_elim}
use mathlib.Core.Bool.{Bool, true, false, cond}
use mathlib.Core.List.{List, [], ◌∷◌, ◌++◌}
use mathlib.Core.List.{Memᴰ as In}
use Prim.Native.Nat.{ℕ, suc, ◌+◌, ◌≤◌, ◌<◌}
use native.Mathlib.Omega.{arith}
use native.Mathlib.Numerals.{add-one}
use borrow.Author.Tests.{le-ltb, ltb-true, ltb-false}
use lib.Dec.{ltb}
use lib.IntN.{ℤ}
use lib.ListN.{length, get_or, take, drop}
use lib.Seq.{slice, slice-cons, slice_empty}
use Rattle.fractions.specs.declared.Point.{Point}
use Rattle.line_segment.specs.declared.Meeting.TheVariants.{Crossing}
use Rattle.line_segment.specs.Segment.{intersect_of}
use Rattle.sweep.specs.Lists.{Pair, keep, pairs, lesser_first}
use Rattle.sweep.specs.Ported.{slope_order}
use Rattle.sweep.proofs.Lists.{keep_yes}
use Rattle.sweep.proofs.Tests.{ask}
use Rattle.ported_arrays.specs.Insertion.{back, insert, insert_all}
use Rattle.ported_arrays.specs.Agreement.{flat}
use Rattle.ported_pieces.specs.Table.{piece_in}
use Rattle.full_steps.proofs.Sides.{is_greater}
use Rattle.full_order.specs.Finer.{through_order}
use Rattle.full_points.specs.declared.Spot.{Spot}
use Rattle.full_lanes.specs.Lanes.{pair_at, steeper}
use Rattle.full_active.specs.Ranks.{rises_in, goes_on_in, backwards, starters}
use Rattle.full_list.specs.Listed.{fresh_in, Listed}
use Rattle.full_list.proofs.Freshness.{by_crossing}
use Rattle.full_step.specs.declared.At.{At}
use Rattle.full_step.specs.Halves.{at_point, new_block}
use Rattle.full_step.specs.Whole.{Steppable, Stepped}
use Rattle.full_step.specs.Crossed.{turned_two, Crossable, Crossed}

-- two put in order
insert_two : (before : ℕ → ℕ → Bool) (x y : ℕ) → insert_all before [] (y ∷ x ∷ []) ≡ cond (before x y) (x ∷ y ∷ []) (y ∷ x ∷ [])
unfolding insert_all insert back
insert_two before x y = go (before x y)
  where
    go : (t : Bool) → take (cond t 0 1) (y ∷ []) ++ x ∷ drop (cond t 0 1) (y ∷ []) ≡ cond t (x ∷ y ∷ []) (y ∷ x ∷ [])
    go true = refl
    go false = refl

-- the steeper does not rise before the other
steep_last : (table : List ℤ) (i j : ℕ) → steeper table i j ≡ true → rises_in table i j ≡ false
unfolding through_order
steep_last table i j e = rw (is_greater (slope_order (piece_in table i) (piece_in table j)) e)

pairs_two : (x y : ℕ) → pairs (x ∷ y ∷ []) ≡ (x, y) ∷ []
unfolding pairs
pairs_two x y = refl

by_number : (i j : ℕ) → pairs (cond (ltb j i) (j ∷ i ∷ []) (i ∷ j ∷ [])) ≡ lesser_first i j ∷ []
unfolding lesser_first
by_number i j =
    ⊎_elim
    (λ (t : ltb i j ≡ true). rw (t, le-ltb j i (let h = ltb-true i j t in omega arith)) (pairs_two i j))
    (λ (t : ltb i j ≡ false).
    ⊎_elim
    (λ (u : ltb j i ≡ true). rw (t, u) (pairs_two j i))
    (λ (u : ltb j i ≡ false). let e : i ≡ j = omega (arith, ltb-false i j t, ltb-false j i u) in rw (t, u, e) (pairs_two j j))
    (ask (ltb j i)))
    (ask (ltb i j))

-- they cross, at q both go on, and the one in front is the steeper
pub record Turns (table : List ℤ) (q : Point) (active : List ℕ) (k : ℕ) : Type 0 where
  pub inside : k + 1 < length active
  pub crosses : intersect_of (piece_in table (pair_at active k).0) (piece_in table (pair_at active k).1) ≡ Crossing
  pub first_on : goes_on_in table q (get_or active k 0) ≡ true
  pub second_on : goes_on_in table q (get_or active (k + 1) 0) ≡ true
  pub falls : steeper table (get_or active k 0) (get_or active (k + 1) 0) ≡ true

module _ (table : List ℤ) (q : Point) (active : List ℕ) (k : ℕ) (W : Turns table q active k) where
  abbrev i : ℕ
  i = get_or active k 0

  abbrev j : ℕ
  j = get_or active (k + 1) 0

  two : slice k (k + 2) active ≡ i ∷ j ∷ []
  two =
      let h = W.inside in
      let e : suc k ≡ k + 1 = sym (add-one k) in
      let f : suc (k + 1) ≡ k + 2 = omega arith in
      slice-cons k (k + 2) active 0 (omega arith) (omega arith)
      ∙ ap (λ (l : List ℕ). i ∷ l)
      (ap (λ (m : ℕ). slice m (k + 2) active) e ∙ slice-cons (k + 1) (k + 2) active 0 (omega arith) (omega arith)
      ∙ ap (λ (l : List ℕ). j ∷ l) (ap (λ (m : ℕ). slice m (k + 2) active) f ∙ slice_empty (k + 2) active))

  pairs_are : keep (fresh_in table q) (pairs (at_point k (k + 2) active [])) ≡ pair_at active k ∷ []
  unfolding starters keep pair_at
  pairs_are =
      ap (λ (l : List ℕ). keep (fresh_in table q) (pairs (insert_all ltb [] (l ++ [])))) two
      ∙ ap (λ (l : List ℕ). keep (fresh_in table q) (pairs l)) (insert_two ltb j i)
      ∙ ap (keep (fresh_in table q)) (by_number i j)
      ∙ keep_yes (fresh_in table q) (lesser_first i j) [] (sym (by_crossing table q (pair_at active k).0 (pair_at active k).1 W.crosses))

  block_is : new_block table q k (k + 2) active [] ≡ turned_two active k
  unfolding starters keep backwards turned_two
  block_is =
      ap (λ (l : List ℕ). insert_all (rises_in table) [] (keep (goes_on_in table q) (backwards l) ++ [])) two
      ∙ ap (λ (l : List ℕ). insert_all (rises_in table) [] (l ++ []))
      (keep_yes (goes_on_in table q) j (i ∷ []) W.second_on ∙ ap (λ (l : List ℕ). j ∷ l) (keep_yes (goes_on_in table q) i [] W.first_on))
      ∙ insert_two (rises_in table) i j
      ∙ rw (steep_last table i j W.falls) refl

  -- the step can be done so
  pub crossable : {spot : Spot} {lanes : List ℕ} {live : ℕ} {bytes : List ℕ} {end : ℕ} (S : Steppable table spot active lanes live k (k + 2) [] bytes end) → S.roomy.point ≡ q
      → k + 1 < live → Crossable table active lanes live k bytes end
  unfolding flat
  crossable {spot} {lanes} {live} {bytes} {end} S e h =
      record {
        two = h;
        places = omega (arith, S.turnable.fits);
        alike = S.turnable.alike;
        room =
            omega (
              arith,
              S.roomy.room,
              ap (λ (z : Point). length (flat (keep (fresh_in table z) (pairs (at_point k (k + 2) active []))))) e ∙ ap (λ (l : List Pair). length (flat l)) pairs_are,
            );
        proper = λ x m. S.proper x (subst (λ (l : List ℕ). In x (take k active ++ (l ++ slice (k + 2) live active))) (sym (ap (λ (z : Point). new_block table z k (k + 2) active []) e ∙ block_is)) m);
      }

  -- and then it is done
  pub crossed_steps : {p : Point} {lanes : List ℕ} {live : ℕ} {bytes : List ℕ} {end : ℕ} {active' lanes' bytes' : List ℕ} {r : At} → live ≤ length active' → k + 1 < live
      → Crossed table p active lanes live k bytes end active' lanes' bytes' r → Stepped table q p active lanes live k (k + 2) [] bytes end active' lanes' bytes' r (new_block table q k (k + 2) active [])
  unfolding turned_two
  crossed_steps {p} {lanes} {live} {bytes} {end} {active'} {lanes'} {bytes'} {r} fits h X =
      subst (λ (l : List ℕ). Stepped table q p active lanes live k (k + 2) [] bytes end active' lanes' bytes' r l) (sym block_is)
      (record {
        live_is = omega (arith, X.live_is);
        fits = omega (arith, X.live_is);
        pieces_are = rw X.live_is X.pieces_are;
        lanes_are = rw X.live_is X.lanes_are;
        pairs_are = subst (λ (l : List Pair). Listed l bytes end bytes' r.end) (sym pairs_are) X.pairs_are;
      })
