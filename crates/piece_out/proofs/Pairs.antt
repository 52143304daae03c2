-- The pairs without those of a piece: which they are, and in which order.
-- Assumes nothing.
use mathlib.Core.Path.{◌≡◌, refl, sym, ap, ◌∙◌, subst}
use mathlib.Core.Logic.{◌⊎◌, inl, inr, ⊎_elim, ◌≢◌}
use mathlib.Core.Bool.{Bool, true, false, not, ◌||◌}
use mathlib.Core.List.Memᴰ
use mathlib.Core.List.{List, [], ◌∷◌, map}
use mathlib.Core.List.Memᴰ.{head as here}
use mathlib.Core.List.Memᴰ.{tail as there}
use mathlib.Core.List.{Memᴰ as In}
use Prim.Native.Nat.{ℕ, ◌<◌}
use native.Mathlib.Omega.{arith}
use borrow.Author.Tests.{eqb-true, eqb-false}
use lib.Dec.{eqb}
use Rattle.sweep.specs.Lists.{Pair, keep, Pairwise}
use Rattle.sweep.proofs.Tests.{ask, clash, neither, not_true, eqb_yes}
use Rattle.sweep.proofs.Lists.{keep_in, keep_out, pairwise_keep}
use Rattle.piece_out.specs.Cut.{lowered, lower_both, raised, raise_both, of_piece, without}
use Rattle.piece_out.specs.Demand.{AddsOnly}
use Rattle.piece_out.proofs.Numbers.{raise_lowered, lower_raised, raised_not}

module _ (i : ℕ) where
  abbrev other : Pair → Bool
  other q = not (of_piece i q)

  -- neither of the two is piece i
  pub two_others : (q : Pair) → other q ≡ true → (q.0 ≢ i) × (q.1 ≢ i)
  unfolding of_piece
  two_others q e =
      let n = neither (eqb q.0 i) (eqb q.1 i) (not_true (eqb q.0 i || eqb q.1 i) e) in
      (eqb-false q.0 i n.0, eqb-false q.1 i n.1)

  others_two : (q : Pair) → q.0 ≢ i → q.1 ≢ i → other q ≡ true
  unfolding of_piece
  others_two q h k = rw (no q.0 h, no q.1 k)
    where
      no : (j : ℕ) → j ≢ i → eqb j i ≡ false
      no j ne = ⊎_elim (λ (e : eqb j i ≡ true). absurd (ne (eqb-true j i e))) (λ (e : eqb j i ≡ false). e) (ask (eqb j i))

  pub raised_other : (q : Pair) → other (raise_both i q) ≡ true
  raised_other q = others_two (raise_both i q) (raised_not i q.0) (raised_not i q.1)

  pub raise_lower : (q : Pair) → other q ≡ true → raise_both i (lower_both i q) ≡ q
  raise_lower q e =
      let o = two_others q e in
      let x = raise_lowered i q.0 o.0 in
      let y = raise_lowered i q.1 o.1 in
      λ j. (x j, y j)

  pub lower_raise : (q : Pair) → lower_both i (raise_both i q) ≡ q
  lower_raise q = λ j. (lower_raised i q.0 j, lower_raised i q.1 j)

  lowered_out : (l : List Pair) {q : Pair} → In q (map (lower_both i) l) → (s : Pair) × In s l × (q ≡ lower_both i s)
  lowered_out [] m = elim m [ ]
  lowered_out (s ∷ l) (here e) = (s, here refl, e)
  lowered_out (s ∷ l) (there m) = let r = lowered_out l m in (r.0, there r.1, r.2)

  -- a pair stands in the rest exactly when, raised, it stood in the list
  pub without_out : (l : List Pair) (q : Pair) → In q (without i l) → In (raise_both i q) l
  unfolding without
  without_out l q m =
      let r = lowered_out (keep other l) m in
      let k = keep_out other l r.1 in
      subst (λ (s : Pair). In s l) (sym (ap (raise_both i) r.2 ∙ raise_lower r.0 k.1)) k.0

  pub without_in : (l : List Pair) (q : Pair) → In (raise_both i q) l → In q (without i l)
  unfolding without
  without_in l q m = subst (λ (s : Pair). In s (without i l)) (lower_raise q) (Memᴰ.map (lower_both i) (keep_in other m (raised_other q)))

  -- what holds between raised pairs of the list, holds between the pairs of the rest
  module _ (R S : Pair → Pair → Type 0) (f : (q s : Pair) → R (raise_both i q) (raise_both i s) → S q s) where
    lowered_pairwise : (l : List Pair) → ((q : Pair) → In q l → other q ≡ true) → Pairwise R l → Pairwise S (map (lower_both i) l)
    lowered_pairwise [] o u = tt
    lowered_pairwise (q ∷ l) o u = (
      λ s m.
          let r = lowered_out l m in
          let x = raise_lower q (o q (here refl)) in
          let y = ap (raise_both i) r.2 ∙ raise_lower r.0 (o r.0 (there r.1)) in
          f (lower_both i q) s (subst (λ (p : Pair). R p (raise_both i s)) (sym x) (subst (λ (p : Pair). R q p) (sym y) (u.0 r.0 r.1))),
      lowered_pairwise l (λ s m. o s (there m)) u.1,
    )

    pub without_pairwise : (l : List Pair) → Pairwise R l → Pairwise S (without i l)
    unfolding without
    without_pairwise l u = lowered_pairwise (keep other l) (λ q m. (keep_out other l m).1) (pairwise_keep R other l u)

  -- read the other way: what is new are pairs of the piece
  pub adds_only : (old new : List Pair) → old ≡ without i new → AddsOnly i old new
  adds_only old new e =
      record {
        kept = λ q m. without_out new q (subst (λ (l : List Pair). In q l) e m);
        only = λ q m.
            ⊎_elim
            (λ (t : of_piece i q ≡ true). inl t)
            (λ (t : of_piece i q ≡ false).
            inr (subst (λ (l : List Pair). In (lower_both i q) l) (sym e) (without_in new (lower_both i q) (subst (λ (s : Pair). In s new) (sym (raise_lower q (rw t))) m))))
            (ask (of_piece i q));
      }
