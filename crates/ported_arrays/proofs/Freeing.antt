-- Marks that drop: of the pairs that are freed, each waiting one becomes free, and no other mark changes.
use mathlib.Core.Path.{◌≡◌, refl, sym, ap, ◌∙◌, subst}
use mathlib.Core.Logic.{◌≢◌, ⊎_elim}
use mathlib.Core.Bool.{Bool, true, false, cond, ◌&&◌, ◌||◌}
use mathlib.Core.List.{List, [], ◌∷◌, map}
use mathlib.Core.List.Memᴰ.{head as here}
use mathlib.Core.List.Memᴰ.{tail as there}
use mathlib.Core.List.{Memᴰ as In}
use Prim.Native.Nat.{ℕ, ◌*◌, ◌≤◌}
use lib.Dec.{eqb}
use lib.ListN.{length, get_or, length-set}
use borrow.Author.Tests.{eqb-true}
use Rattle.charts.specs.Chart.{most}
use Rattle.sweep.specs.Lists.{Pair, among, any, same_pair}
use Rattle.sweep.specs.Chart.{Chart}
use Rattle.sweep.specs.Demand.{Pieces}
use Rattle.sweep.proofs.Tests.{ask, eqb_yes}
use Rattle.ported_arrays.specs.Numbers.{cell}
use Rattle.ported_arrays.specs.Event.{free, free_all}
use Rattle.ported_arrays.proofs.Marking.{same_or_not, set_own, set_others}

-- one mark that drops
unfoldable pub freed : Bool → ℕ → ℕ
freed b x = cond (b && eqb x 1) 0 x

freed_again : (b : Bool) (x : ℕ) → freed b (freed true x) ≡ freed true x
unfolding freed
freed_again b x = go (eqb x 1) refl
  where
    go : (a : Bool) → eqb x 1 ≡ a → freed b (cond a 0 x) ≡ cond a 0 x
    go true e = none b
      where
        none : (b : Bool) → freed b 0 ≡ 0
        none true = refl
        none false = refl
    go false e = keeps b
      where
        keeps : (b : Bool) → freed b x ≡ x
        keeps true = rw e
        keeps false = refl

module _ (C : Chart) (few : C.n ≤ most) where
  free_long : (c : ℕ) (m : List ℕ) → length (free c m) ≡ length m
  unfolding free
  free_long c m = ⊎_elim (λ (e : eqb (get_or m c 0) 1 ≡ true). rw e (length-set m c 0)) (λ (e : eqb (get_or m c 0) 1 ≡ false). rw e) (ask (eqb (get_or m c 0) 1))

  pub free_all_long : (cs m : List ℕ) → length (free_all cs m) ≡ length m
  unfolding free_all
  free_all_long [] m = refl
  free_all_long (c ∷ cs) m = free_all_long cs (free c m) ∙ free_long c m

  free_own : (m : List ℕ) → length m ≡ most * most → (q : Pair) → Pieces C q → get_or (free (cell q) m) (cell q) 0 ≡ freed true (get_or m (cell q) 0)
  unfolding free freed
  free_own m long q v =
      ⊎_elim
      (λ (e : eqb (get_or m (cell q) 0) 1 ≡ true). rw e (set_own C few m long q v 0))
      (λ (e : eqb (get_or m (cell q) 0) 1 ≡ false). rw e)
      (ask (eqb (get_or m (cell q) 0) 1))

  free_other : (m : List ℕ) → length m ≡ most * most → (q : Pair) → Pieces C q → (r : Pair) → Pieces C r → r ≢ q → get_or (free (cell q) m) (cell r) 0 ≡ get_or m (cell r) 0
  unfolding free
  free_other m long q v r w d =
      ⊎_elim
      (λ (e : eqb (get_or m (cell q) 0) 1 ≡ true). rw e (set_others C few m long q v 0 r w d))
      (λ (e : eqb (get_or m (cell q) 0) 1 ≡ false). rw e)
      (ask (eqb (get_or m (cell q) 0) 1))

  same_pair_no : (r q : Pair) → r ≢ q → same_pair r q ≡ false
  unfolding same_pair
  same_pair_no (a, b) (c, d) n =
      ⊎_elim
      (λ (e : eqb a c ≡ true).
      ⊎_elim (λ (f : eqb b d ≡ true). absurd (n (rw (eqb-true a c e, eqb-true b d f)))) (λ (f : eqb b d ≡ false). rw (e, f)) (ask (eqb b d)))
      (λ (e : eqb a c ≡ false). rw e)
      (ask (eqb a c))

  same_pair_yes : (r q : Pair) → r ≡ q → same_pair r q ≡ true
  unfolding same_pair
  same_pair_yes r q e = rw (eqb_yes r.0 q.0 (ap (λ (z : Pair). z.0) e), eqb_yes r.1 q.1 (ap (λ (z : Pair). z.1) e))

  -- after so many pairs are freed
  pub free_marks : (qs : List Pair) (m : List ℕ) → length m ≡ most * most → ((q : Pair) → In q qs → Pieces C q) → (r : Pair) → Pieces C r
      → get_or (free_all (map cell qs) m) (cell r) 0 ≡ freed (among r qs) (get_or m (cell r) 0)
  unfolding free_all among any
  free_marks [] m long v r w = unfold freed in refl
  free_marks (q ∷ qs) m long v r w =
      free_marks qs (free (cell q) m) (free_long (cell q) m ∙ long) (λ t h. v t (there h)) r w
      ∙ ⊎_elim
      (λ (e : r ≡ q).
      let h : get_or (free (cell q) m) (cell r) 0 ≡ freed true (get_or m (cell r) 0) = subst (λ (z : Pair). get_or (free (cell q) m) (cell z) 0 ≡ freed true (get_or m (cell z) 0)) (sym e) (free_own m long q (v q (here refl))) in
      ap (freed (among r qs)) h ∙ freed_again (among r qs) (get_or m (cell r) 0)
      ∙ ap (λ (b : Bool). freed (b || among r qs) (get_or m (cell r) 0)) (sym (same_pair_yes r q e)))
      (λ (d : r ≢ q).
      ap (freed (among r qs)) (free_other m long q (v q (here refl)) r w d)
      ∙ ap (λ (b : Bool). freed (b || among r qs) (get_or m (cell r) 0)) (sym (same_pair_no r q d)))
      (same_or_not r q)
