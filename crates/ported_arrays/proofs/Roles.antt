-- Which pieces start, finish or cross at p: the flags say what the definitions say.
use mathlib.Core.Path.{◌≡◌, refl, sym, ap, ◌∙◌, subst}
use mathlib.Core.Logic.{⊎_elim}
use mathlib.Core.Bool.{Bool, true, false, not, ◌&&◌, ◌||◌}
use mathlib.Core.Option.{some}
use mathlib.Core.List.Memᴰ
use mathlib.Core.List.{List, [], ◌∷◌, map}
use mathlib.Core.List.Memᴰ.{head as here}
use mathlib.Core.List.Memᴰ.{tail as there}
use mathlib.Core.List.{Memᴰ as In}
use Prim.Native.Nat.{ℕ, ◌+◌, ◌*◌, ◌/◌, ◌%◌, ◌<◌}
use native.Mathlib.Omega.{arith}
use lib.Dec.{eqb}
use borrow.Author.Tests.{eqb-true, eqb-false}
use Rattle.charts.specs.Chart.{most}
use Rattle.sweep.specs.Lists.{Pair, keep, any}
use Rattle.sweep.specs.Chart.{Chart, same, at}
use Rattle.sweep.specs.State.{State}
use Rattle.sweep.specs.Queue.{next}
use Rattle.sweep.specs.Step.{starts, finishes, turns}
use Rattle.sweep.proofs.Tests.{ask, same_test, eqb_yes, not_true}
use Rattle.sweep.proofs.Lists.{keep_in, keep_out, any_in, any_out}
use Rattle.ported_arrays.specs.Numbers.{cell, is_min, end_of, end_at}
use Rattle.ported_arrays.specs.Insertion.{rest}
use Rattle.ported_arrays.specs.Event.{Sheet, flagged, halves, pieces, ends_here, crossings_here, starting, finishing, turning}
use Rattle.ported_arrays.specs.Agreement.{flat, Ordered, Room, Agrees}
use Rattle.ported_arrays.proofs.Cells.{pair_cell}
use Rattle.ported_arrays.proofs.Fronts.{front_keep, rest_keep, stops, same_yes}
use Rattle.ported_arrays.proofs.Dropping.{front_is}
use Rattle.ported_arrays.proofs.Least.{end_min, end_max}
use Rattle.ported_arrays.proofs.Nexts.{p_fit, p_beyond, no_end_before, no_crossing_before}
use Rattle.ported_arrays.proofs.Flags.{flagged_is}

any_keep : (f g : Pair → Bool) (l : List Pair) → any f (keep g l) ≡ any (λ q. g q && f q) l
unfolding any keep
any_keep f g [] = refl
any_keep f g (q ∷ l) =
    ⊎_elim
    (λ (e : g q ≡ true). rw e (ap (λ (b : Bool). f q || b) (any_keep f g l)))
    (λ (e : g q ≡ false). rw e (any_keep f g l))
    (ask (g q))

-- the pieces of some pairs, by their numbers
pub pieces_cells : (qs : List Pair) → ((q : Pair) → In q qs → q.1 < most) → pieces (map cell qs) ≡ flat qs
unfolding pieces flat
pieces_cells [] h = refl
pieces_cells (q ∷ qs) h = rw (pair_cell q (h q (here refl)), pieces_cells qs (λ r m. h r (there m)))

pub any_flat : (i : ℕ) (qs : List Pair) → any (eqb i) (flat qs) ≡ any (λ q. eqb i q.0 || eqb i q.1) qs
unfolding any flat
any_flat i [] = refl
any_flat i (q ∷ qs) = or_or (eqb i q.0) (eqb i q.1) (any_flat i qs)
  where
    or_or : (x y : Bool) {b c : Bool} → b ≡ c → (x || (y || b)) ≡ ((x || y) || c)
    or_or true y e = refl
    or_or false y e = ap (λ (z : Bool). y || z) e

module _ (C : Chart) (O : Ordered C) (places : ℕ) (lent : List ℕ) (R : Room C places lent) (a : Sheet C) (s : State C) (G : Agrees C O places lent a s)
    (p : C.Point) (taken : next C s ≡ some p) where
  open C use {Point, less, n, min, max}

  fit : O.Fit p
  fit = p_fit C O places lent R a s G p taken

  pub ends_here_are : ends_here C a p ≡ keep (end_at C p) a.ends
  unfolding end_at
  ends_here_are =
      front_keep (end_at C p) a.ends (stops C O p fit (end_of C) a.ends (no_end_before C O places lent R a s G p taken) G.ends_up)

  pub ends_left_are : rest (end_at C p) a.ends ≡ keep (λ e. not (end_at C p e)) a.ends
  unfolding end_at
  ends_left_are =
      rest_keep (end_at C p) a.ends (stops C O p fit (end_of C) a.ends (no_end_before C O places lent R a s G p taken) G.ends_up)

  -- an end at p is left
  end_left : (e : ℕ) → e < 2 * n → O.Fit (end_of C e) → end_at C p e ≡ true → In e a.ends
  unfolding end_at
  end_left e h f d = G.ends_in e h (rw (same_yes C O p fit (end_of C e) f d) (p_beyond C O places lent R a s G p taken))

  -- the pieces of ends at p of one sort
  sort_flags : (sort : ℕ → Bool) (i : ℕ) → (e : ℕ) → e < 2 * n → e / 2 ≡ i → sort e ≡ true → O.Fit (end_of C e)
      → ((f : ℕ) → sort f ≡ true → f / 2 ≡ i → f ≡ e) → any (eqb i) (halves (keep sort (ends_here C a p))) ≡ end_at C p e
  unfolding halves
  sort_flags sort i e h half so f only =
      same_test (any (eqb i) (halves (keep sort (ends_here C a p)))) (end_at C p e)
      (λ d.
      let x = any_out (eqb i) (map (λ e. e / 2) (keep sort (ends_here C a p))) d in
      let r = Memᴰ.of_map (λ e. e / 2) (keep sort (ends_here C a p)) x.1 in
      let k = keep_out sort (ends_here C a p) r.1 in
      let y = keep_out (end_at C p) a.ends (subst (λ (l : List ℕ). In r.0 l) ends_here_are k.0) in
      subst (λ (z : ℕ). end_at C p z ≡ true) (only r.0 k.1 (r.2 ∙ sym (eqb-true i x.0 x.2))) y.1)
      (λ d.
      any_in (eqb i)
      (Memᴰ.map (λ e. e / 2) (keep_in sort (subst (λ (l : List ℕ). In e l) (sym ends_here_are) (keep_in (end_at C p) (end_left e h f d) d)) so))
      (eqb_yes i (e / 2) (sym half)))

  small : (i : ℕ) → i < n → i < most
  small i h = omega (arith, R.few)

  pub starting_any : (i : ℕ) → i < n → any (eqb i) (halves (keep is_min (ends_here C a p))) ≡ starts C p i
  unfolding starts
  starting_any i h =
      sort_flags is_min i (2 * i) (omega arith) (omega arith) (even i) (rw (end_min C i) (O.fit_min i h)) (λ f e d. only f e d) ∙ at_min
    where
      even : (i : ℕ) → is_min (2 * i) ≡ true
      even i = unfold is_min in (let a : (2 * i) % 2 ≡ 0 = omega arith in rw a)

      only : (f : ℕ) → is_min f ≡ true → f / 2 ≡ i → f ≡ 2 * i
      only f e d = let k : f % 2 ≡ 0 = eqb-true (f % 2) 0 (unfold is_min in e) in omega arith

      at_min : end_at C p (2 * i) ≡ same C (min i) p
      at_min = unfold end_at in ap (λ (z : Point). same C z p) (end_min C i)

  pub finishing_any : (i : ℕ) → i < n → any (eqb i) (halves (keep (λ e. not (is_min e)) (ends_here C a p))) ≡ finishes C p i
  unfolding finishes
  finishing_any i h =
      sort_flags (λ e. not (is_min e)) i (2 * i + 1) (omega arith) (omega arith) (odd i) (rw (end_max C i) (O.fit_max i h)) (λ f e d. only f e d)
      ∙ at_max
    where
      odd : (i : ℕ) → not (is_min (2 * i + 1)) ≡ true
      odd i = unfold is_min in (let a : (2 * i + 1) % 2 ≡ 1 = omega arith in rw a)

      only : (f : ℕ) → not (is_min f) ≡ true → f / 2 ≡ i → f ≡ 2 * i + 1
      only f e d = let k : ¬ (f % 2 ≡ 0) = eqb-false (f % 2) 0 (not_true (eqb (f % 2) 0) (unfold is_min in e)) in omega (arith, k)

      at_max : end_at C p (2 * i + 1) ≡ same C (max i) p
      at_max = unfold end_at in ap (λ (z : Point). same C z p) (end_max C i)

  pub starting_is : (i : ℕ) → i < n → flagged (starting C a p) i ≡ starts C p i
  unfolding starting
  starting_is i h = flagged_is (halves (keep is_min (ends_here C a p))) i (small i h) ∙ starting_any i h

  pub finishing_is : (i : ℕ) → i < n → flagged (finishing C a p) i ≡ finishes C p i
  unfolding finishing
  finishing_is i h = flagged_is (halves (keep (λ e. not (is_min e)) (ends_here C a p))) i (small i h) ∙ finishing_any i h

  abbrev pub gone : Pair → Bool
  gone q = same C (at C q) p

  pub crossing_pieces : pieces (crossings_here C a p) ≡ flat (keep gone s.marks.waiting)
  crossing_pieces =
      ap pieces (front_is C O places lent R a.ledger s.marks G.holds p fit (no_crossing_before C O places lent R a s G p taken))
      ∙ pieces_cells (keep gone s.marks.waiting)
      (λ q m. omega (arith, G.holds.waiting_once.pieces q (keep_out gone s.marks.waiting m).0, R.few))

  pub turning_any : (i : ℕ) → any (eqb i) (pieces (crossings_here C a p)) ≡ turns C s p i
  unfolding turns
  turning_any i =
      ap (any (eqb i)) crossing_pieces
      ∙ any_flat i (keep gone s.marks.waiting)
      ∙ any_keep (λ q. eqb i q.0 || eqb i q.1) gone s.marks.waiting

  pub turning_is : (i : ℕ) → i < n → flagged (turning C a p) i ≡ turns C s p i
  unfolding turning
  turning_is i h = flagged_is (pieces (crossings_here C a p)) i (small i h) ∙ turning_any i
