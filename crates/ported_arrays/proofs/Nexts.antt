-- The next point on arrays is the least of the queue; and what that says of the ends and pairs that are left.
use mathlib.Core.Path.{◌≡◌, refl, sym, ap, ◌∙◌, subst}
use mathlib.Core.Logic.{⊎_elim}
use mathlib.Core.Bool.{true, false}
use mathlib.Core.Option.{some}
use mathlib.Core.List.{List, [], ◌∷◌, map}
use mathlib.Core.List.Memᴰ.{head as here}
use mathlib.Core.List.Memᴰ.{tail as there}
use mathlib.Core.List.{Memᴰ as In}
use Prim.Native.Nat.{ℕ}
use native.Mathlib.Omega.{arith}
use Rattle.sweep.specs.Lists.{Pair}
use Rattle.sweep.specs.Chart.{Chart, at}
use Rattle.sweep.specs.State.{State}
use Rattle.sweep.specs.Queue.{beyond, queue, least, next}
use Rattle.sweep.proofs.Tests.{ask}
use Rattle.ported_arrays.specs.Numbers.{cell, pair_of, end_of}
use Rattle.ported_arrays.specs.Event.{Sheet}
use Rattle.ported_arrays.specs.Run.{next_by'}
use Rattle.ported_arrays.specs.Run.{next as next_on}
use Rattle.ported_arrays.specs.Agreement.{Ordered, Room, Agrees}
use Rattle.ported_arrays.proofs.Cells.{pair_cell}
use Rattle.ported_arrays.proofs.Order.{Up, asym, not_after}
use Rattle.ported_arrays.proofs.Least.{Least, least_is, least_some, least_empty, end_fit, wait_fit, end_queued, wait_queued, queue_out, queue_fit}

module _ (C : Chart) (O : Ordered C) (places : ℕ) (lent : List ℕ) (R : Room C places lent) (a : Sheet C) (s : State C) (G : Agrees C O places lent a s) where
  open C use {Point, less, n}

  -- least, where no end that is left and no crossing that waits is before it
  least_by : (p : Point) → In p (queue C s) → ((e : ℕ) → In e a.ends → less (end_of C e) p ≡ false)
      → ((q : Pair) → In q s.marks.waiting → less (at C q) p ≡ false) → least C (queue C s) ≡ some p
  least_by p m he hq =
      least_is C O p (queue C s) (queue_fit C O places lent R a s G)
      (record {
        is_in = m;
        none_before = λ y k.
            ⊎_elim
            (λ (h : (e : ℕ) × In e a.ends × (y ≡ end_of C e)). rw h.2 (he h.0 h.1))
            (λ (h : (q : Pair) × In q s.marks.waiting × (y ≡ at C q)). rw h.2 (hq h.0 h.1))
            (queue_out C O places lent R a s G y k);
      })

  fit_e : (e : ℕ) → In e a.ends → O.Fit (end_of C e)
  fit_e e m = end_fit C O places lent R a s G e (G.ends_out e m).0

  fit_q : (q : Pair) → In q s.marks.waiting → O.Fit (at C q)
  fit_q = wait_fit C O places lent R a s G

  at_cell : (q : Pair) → In q s.marks.waiting → at C (pair_of (cell q)) ≡ at C q
  at_cell q m = ap (at C) (pair_cell q (omega (arith, G.holds.waiting_once.pieces q m, R.few)))

  -- the first end is not after the others, nor the first crossing
  first_end : (e : ℕ) (es : List ℕ) → a.ends ≡ e ∷ es → (f : ℕ) → In f a.ends → less (end_of C f) (end_of C e) ≡ false
  first_end e es d f m = go (subst (λ (l : List ℕ). In f l) d m)
    where
      go : In f (e ∷ es) → less (end_of C f) (end_of C e) ≡ false
      go (here g) = rw g (O.less_irr (end_of C e) (fit_e e (rw d (here refl))))
      go (there k) = (subst (λ (l : List ℕ). Up C (end_of C) l) d G.ends_up).0 f k

  first_wait : (q : Pair) (qs : List Pair) → s.marks.waiting ≡ q ∷ qs → (r : Pair) → In r s.marks.waiting → less (at C r) (at C q) ≡ false
  first_wait q qs d r m = go (subst (λ (l : List Pair). In r l) d m)
    where
      go : In r (q ∷ qs) → less (at C r) (at C q) ≡ false
      go (here g) = rw g (O.less_irr (at C q) (fit_q q (rw d (here refl))))
      go (there k) = (subst (λ (l : List Pair). Up C (at C) l) d G.holds.waiting_up).0 r k

  -- the four cases of the two lists
  next_cases : (es : List ℕ) (qs : List Pair) → a.ends ≡ es → s.marks.waiting ≡ qs → next_by' C es (map cell qs) ≡ least C (queue C s)
  unfolding next_by'
  next_cases [] [] d f =
      sym (least_empty C O (queue C s) (λ y m.
      ⊎_elim
      (λ (h : (e : ℕ) × In e a.ends × (y ≡ end_of C e)). elim (subst (λ (l : List ℕ). In h.0 l) d h.1) [ ])
      (λ (h : (q : Pair) × In q s.marks.waiting × (y ≡ at C q)). elim (subst (λ (l : List Pair). In h.0 l) f h.1) [ ])
      (queue_out C O places lent R a s G y m)))
  next_cases [] (q ∷ qs) d f =
      let m : In q s.marks.waiting = rw f (here refl) in
      ap some (at_cell q m)
      ∙ sym (least_by (at C q) (wait_queued C O places lent R a s G q m) (λ e k. elim (subst (λ (l : List ℕ). In e l) d k) [ ]) (first_wait q qs f))
  next_cases (e ∷ es) [] d f =
      let m : In e a.ends = rw d (here refl) in
      sym (least_by (end_of C e) (end_queued C O places lent R a s G e m) (first_end e es d) (λ q k. elim (subst (λ (l : List Pair). In q l) f k) [ ]))
  next_cases (e ∷ es) (q ∷ qs) d f =
      let me : In e a.ends = rw d (here refl) in
      let mq : In q s.marks.waiting = rw f (here refl) in
      ⊎_elim
      (λ (h : less (at C q) (end_of C e) ≡ true).
      rw (at_cell q mq, h)
      (sym (least_by (at C q) (wait_queued C O places lent R a s G q mq)
      (λ g k.
      not_after C O (at C q) (end_of C e) (end_of C g) (fit_q q mq) (fit_e e me) (fit_e g k) (asym C O (at C q) (end_of C e) (fit_q q mq) (fit_e e me) h)
      (first_end e es d g k))
      (first_wait q qs f))))
      (λ (h : less (at C q) (end_of C e) ≡ false).
      rw (at_cell q mq, h)
      (sym (least_by (end_of C e) (end_queued C O places lent R a s G e me) (first_end e es d)
      (λ r k. not_after C O (end_of C e) (at C q) (at C r) (fit_e e me) (fit_q q mq) (fit_q r k) h (first_wait q qs f r k)))))
      (ask (less (at C q) (end_of C e)))

  pub next_agrees : next_on C a ≡ next C s
  unfolding next_on next
  next_agrees = ap (next_by' C a.ends) G.holds.waiting_is ∙ next_cases a.ends s.marks.waiting refl refl

  module _ (p : Point) (taken : next C s ≡ some p) where
    least_p : Least C O p (queue C s)
    unfolding next
    least_p = least_some C O p (queue C s) (queue_fit C O places lent R a s G) taken

    pub p_fit : O.Fit p
    p_fit = queue_fit C O places lent R a s G p least_p.is_in

    pub p_beyond : beyond C s.last p ≡ true
    p_beyond =
        ⊎_elim
        (λ (h : (e : ℕ) × In e a.ends × (p ≡ end_of C e)). rw h.2 (G.ends_out h.0 h.1).1)
        (λ (h : (q : Pair) × In q s.marks.waiting × (p ≡ at C q)). rw h.2 (G.waiting_beyond h.0 h.1))
        (queue_out C O places lent R a s G p least_p.is_in)

    pub no_end_before : (e : ℕ) → In e a.ends → O.Fit (end_of C e) × (less (end_of C e) p ≡ false)
    no_end_before e m = (fit_e e m, least_p.none_before (end_of C e) (end_queued C O places lent R a s G e m))

    pub no_crossing_before : (q : Pair) → In q s.marks.waiting → less (at C q) p ≡ false
    no_crossing_before q m = least_p.none_before (at C q) (wait_queued C O places lent R a s G q m)
