-- The least point of a list, and the points of the queue by the numbers of ends and pairs.
use mathlib.Core.Path.{◌≡◌, refl, sym, ap, ◌∙◌, subst}
use mathlib.Core.Logic.{◌⊎◌, inl, inr, ⊎_elim}
use mathlib.Core.Bool.{true, false}
use mathlib.Core.Option.{none, some}
use mathlib.Core.List.Memᴰ
use mathlib.Core.List.{List, [], ◌∷◌, map}
use mathlib.Core.List.Memᴰ.{head as here}
use mathlib.Core.List.Memᴰ.{tail as there}
use mathlib.Core.List.{Memᴰ as In}
use Prim.Native.Nat.{ℕ, ◌+◌, ◌*◌, ◌/◌, ◌%◌, ◌<◌}
use native.Mathlib.Omega.{arith}
use lib.Dec.{eqb}
use borrow.Author.Tests.{eqb-true, eqb-false}
use Rattle.sweep.specs.Lists.{Pair, upto, keep}
use Rattle.sweep.specs.Chart.{Chart, at}
use Rattle.sweep.specs.State.{State}
use Rattle.sweep.specs.Queue.{ends, beyond, queue, least_from, least}
use Rattle.sweep.proofs.Tests.{ask}
use Rattle.sweep.proofs.Lists.{keep_in, keep_out}
use Rattle.sweep.proofs.Occurring.{min_in, max_in, ends_out}
use Rattle.ported_arrays.specs.Numbers.{is_min, end_of}
use Rattle.ported_arrays.specs.Event.{Sheet}
use Rattle.ported_arrays.specs.Agreement.{Ordered, Room, Agrees}
use Rattle.ported_arrays.proofs.Order.{asym, not_after}

module _ (C : Chart) where
  pub end_min : (i : ℕ) → end_of C (2 * i) ≡ C.min i
  unfolding end_of is_min
  end_min i =
      let a : (2 * i) % 2 ≡ 0 = omega arith in
      let b : (2 * i) / 2 ≡ i = omega arith in
      rw (a, b)

  pub end_max : (i : ℕ) → end_of C (2 * i + 1) ≡ C.max i
  unfolding end_of is_min
  end_max i =
      let a : (2 * i + 1) % 2 ≡ 1 = omega arith in
      let b : (2 * i + 1) / 2 ≡ i = omega arith in
      rw (a, b)

  -- a number of an end is even or odd
  pub end_cases : (e : ℕ) → ((i : ℕ) × (e ≡ 2 * i)) ⊎ ((i : ℕ) × (e ≡ 2 * i + 1))
  end_cases e =
      ⊎_elim
      (λ (h : eqb (e % 2) 0 ≡ true). inl (e / 2, omega (arith, eqb-true (e % 2) 0 h)))
      (λ (h : eqb (e % 2) 0 ≡ false). inr (e / 2, odd h))
      (ask (eqb (e % 2) 0))
    where
      odd : eqb (e % 2) 0 ≡ false → e ≡ 2 * (e / 2) + 1
      odd h = let k : ¬ (e % 2 ≡ 0) = eqb-false (e % 2) 0 h in omega (arith, k)

module _ (C : Chart) (O : Ordered C) where
  open C use {Point, less, n, min, max}
  open O use {Fit}

  -- one of a list that none of it is before
  pub record Least (p : Point) (l : List Point) : Type 0 where
    pub is_in : In p l
    pub none_before : (y : Point) → In y l → less y p ≡ false

  least_from_is : (p : Point) (l : List Point) → Fit p → ((y : Point) → In y l → Fit y) → Least (least_from C p l) (p ∷ l)
  unfolding least_from
  least_from_is p [] a h = record { is_in = here refl; none_before = λ y m. own y m }
    where
      own : (y : Point) → In y (p ∷ []) → less y p ≡ false
      own y (here e) = rw e (O.less_irr p a)
      own y (there m) = elim m [ ]
  least_from_is p (q ∷ l) a h =
      ⊎_elim
      (λ (e : less q p ≡ true). rw e (fell e (least_from_is q l (h q (here refl)) (λ y m. h y (there m)))))
      (λ (e : less q p ≡ false). rw e (stayed e (least_from_is p l a (λ y m. h y (there m)))))
      (ask (less q p))
    where
      r_fit : (x : Point) → Fit x → (r : Point) → In r (x ∷ l) → Fit r
      r_fit x f r (here e) = rw e f
      r_fit x f r (there m) = h r (there m)

      skip : (r : Point) → In r (p ∷ l) → In r (p ∷ q ∷ l)
      skip r (here e) = here e
      skip r (there m) = there (there m)

      fell : less q p ≡ true → Least (least_from C q l) (q ∷ l) → Least (least_from C q l) (p ∷ q ∷ l)
      fell e L = record { is_in = there L.is_in; none_before = λ y m. go y m }
        where
          go : (y : Point) → In y (p ∷ q ∷ l) → less y (least_from C q l) ≡ false
          go y (here f) =
              rw f
              (not_after C O (least_from C q l) q p (r_fit q (h q (here refl)) _ L.is_in) (h q (here refl)) a (L.none_before q (here refl))
              (asym C O q p (h q (here refl)) a e))
          go y (there m) = L.none_before y m

      stayed : less q p ≡ false → Least (least_from C p l) (p ∷ l) → Least (least_from C p l) (p ∷ q ∷ l)
      stayed e L = record { is_in = skip _ L.is_in; none_before = λ y m. go y m }
        where
          go : (y : Point) → In y (p ∷ q ∷ l) → less y (least_from C p l) ≡ false
          go y (here f) = L.none_before y (here f)
          go y (there (here f)) =
              rw f (not_after C O (least_from C p l) p q (r_fit p a _ L.is_in) a (h q (here refl)) (L.none_before p (here refl)) e)
          go y (there (there m)) = L.none_before y (there m)

  pub least_is : (p : Point) (l : List Point) → ((y : Point) → In y l → Fit y) → Least p l → least C l ≡ some p
  unfolding least
  least_is p [] h L = elim L.is_in [ ]
  least_is p (q ∷ l) h L =
      let M = least_from_is q l (h q (here refl)) (λ y m. h y (there m)) in
      ap some (O.less_same (least_from C q l) p (h _ M.is_in) (h p L.is_in) (L.none_before _ M.is_in) (M.none_before p L.is_in))

  pub least_some : (p : Point) (l : List Point) → ((y : Point) → In y l → Fit y) → least C l ≡ some p → Least p l
  unfolding least
  least_some p [] h e = let z : ◌≡◌ {A = ℕ} 0 1 = cc in absurd (omega arith)
  least_some p (q ∷ l) h e =
      let d : least_from C q l ≡ p = cc in
      subst (λ (x : Point). Least x (q ∷ l)) d (least_from_is q l (h q (here refl)) (λ y m. h y (there m)))

  pub least_empty : (l : List Point) → ((y : Point) → ¬ In y l) → least C l ≡ none
  unfolding least
  least_empty [] h = refl
  least_empty (q ∷ l) h = absurd (h q (here refl))

  module _ (places : ℕ) (lent : List ℕ) (R : Room C places lent) (a : Sheet C) (s : State C) (G : Agrees C O places lent a s) where
    pub end_fit : (e : ℕ) → e < 2 * n → Fit (end_of C e)
    end_fit e h =
        ⊎_elim
        (λ (w : (i : ℕ) × (e ≡ 2 * i)). rw (w.1, end_min C w.0) (O.fit_min w.0 (omega (arith, w.1))))
        (λ (w : (i : ℕ) × (e ≡ 2 * i + 1)). rw (w.1, end_max C w.0) (O.fit_max w.0 (omega (arith, w.1))))
        (end_cases C e)

    end_listed : (e : ℕ) → e < 2 * n → In (end_of C e) (ends C (upto n))
    end_listed e h =
        ⊎_elim
        (λ (w : (i : ℕ) × (e ≡ 2 * i)). rw (w.1, end_min C w.0) (min_in C w.0 (omega (arith, w.1))))
        (λ (w : (i : ℕ) × (e ≡ 2 * i + 1)). rw (w.1, end_max C w.0) (max_in C w.0 (omega (arith, w.1))))
        (end_cases C e)

    pub wait_fit : (q : Pair) → In q s.marks.waiting → Fit (at C q)
    wait_fit q m = O.fit_at q (G.holds.waiting_once.pieces q m) (G.holds.waiting_cross q m)

    pub end_queued : (e : ℕ) → In e a.ends → In (end_of C e) (queue C s)
    unfolding queue
    end_queued e m = let h = G.ends_out e m in Memᴰ.append_left _ (keep_in (beyond C s.last) (end_listed e h.0) h.1)

    pub wait_queued : (q : Pair) → In q s.marks.waiting → In (at C q) (queue C s)
    unfolding queue
    wait_queued q m = Memᴰ.append_right (keep (beyond C s.last) (ends C (upto n))) (Memᴰ.map (at C) m)

    -- a point of the queue is an end that is left or the crossing of a pair that waits
    pub queue_out : (x : Point) → In x (queue C s) → ((e : ℕ) × In e a.ends × (x ≡ end_of C e)) ⊎ ((q : Pair) × In q s.marks.waiting × (x ≡ at C q))
    unfolding queue
    queue_out x m =
        ⊎_elim
        (λ (h : In x (keep (beyond C s.last) (ends C (upto n)))).
        let k = keep_out (beyond C s.last) (ends C (upto n)) h in
        inl (from_end (ends_out C k.0) k.1))
        (λ (h : In x (map (at C) s.marks.waiting)).
        let r = Memᴰ.of_map (at C) s.marks.waiting h in
        inr (r.0, r.1, sym r.2))
        (Memᴰ.append_cases (keep (beyond C s.last) (ends C (upto n))) m)
      where
        from_end : (i : ℕ) × (i < n) × ((x ≡ min i) ⊎ (x ≡ max i)) → beyond C s.last x ≡ true → (e : ℕ) × In e a.ends × (x ≡ end_of C e)
        from_end (i, h, inl e) b =
            let d : x ≡ end_of C (2 * i) = e ∙ sym (end_min C i) in
            (2 * i, G.ends_in (2 * i) (omega arith) (rw (← d) b), d)
        from_end (i, h, inr e) b =
            let d : x ≡ end_of C (2 * i + 1) = e ∙ sym (end_max C i) in
            (2 * i + 1, G.ends_in (2 * i + 1) (omega arith) (rw (← d) b), d)

    pub queue_fit : (x : Point) → In x (queue C s) → Fit x
    queue_fit x m =
        ⊎_elim
        (λ (h : (e : ℕ) × In e a.ends × (x ≡ end_of C e)). rw h.2 (end_fit h.0 (G.ends_out h.0 h.1).0))
        (λ (h : (q : Pair) × In q s.marks.waiting × (x ≡ at C q)). rw h.2 (wait_fit h.0 h.1))
        (queue_out x m)
