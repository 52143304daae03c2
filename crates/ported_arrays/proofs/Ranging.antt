-- The active list after a step: those that stay and those that enter, all begun, each once, in order.
use mathlib.Core.Path.{◌≡◌, refl, sym, ap, ap₂, ◌∙◌, subst}
use mathlib.Core.Logic.{◌⊎◌, ⊎_elim, ◌≢◌}
use mathlib.Core.Bool.{Bool, true, false, not, ◌&&◌, ◌||◌}
use mathlib.Core.Option.{some}
use mathlib.Core.List.Memᴰ
use mathlib.Core.List.{List, [], ◌∷◌, ◌++◌}
use mathlib.Core.List.Memᴰ.{head as here}
use mathlib.Core.List.Memᴰ.{tail as there}
use mathlib.Core.List.{Memᴰ as In}
use Prim.Native.Nat.{ℕ, ◌+◌, ◌-◌, ◌≤◌, ◌<◌}
use native.Mathlib.Omega.{arith}
use lib.ListN.{length, length-append}
use lib.Seq.{take_all}
use lib.Dec.{eqb}
use borrow.Author.Tests.{eqb-true}
use Rattle.charts.specs.Chart.{most}
use Rattle.sweep.specs.Lists.{upto, place, sort_into, sort, Pairwise}
use Rattle.sweep.specs.Chart.{Chart, same, at}
use Rattle.sweep.specs.State.{State}
use Rattle.sweep.specs.Queue.{beyond, next}
use Rattle.sweep.specs.Step.{starts, finishes, turns}
use Rattle.sweep.specs.Step.{stay as staying, enter as entering, ranged as ranging}
use Rattle.sweep.proofs.Tests.{clash, or_one, and_both, neither, not_true}
use Rattle.sweep.proofs.Lists.{keep_out, any_out, pairwise_keep, pairwise_map, pairwise_append}
use Rattle.sweep.proofs.Pairs.{upto_in, upto_out, upto_up, upto_length}
use Rattle.sweep.proofs.Sorting.{place_out}
use Rattle.ported_arrays.specs.Insertion.{insert_all}
use Rattle.ported_arrays.specs.Event.{Sheet, add, ranged}
use Rattle.ported_arrays.specs.Agreement.{Ordered, Room, Agrees}
use Rattle.ported_arrays.proofs.Distinct.{distinct_fit}
use Rattle.ported_arrays.proofs.Order.{place_pairwise}
use Rattle.ported_arrays.proofs.Fronts.{same_yes}
use Rattle.ported_arrays.proofs.Resorting.{resorted}
use Rattle.ported_arrays.proofs.Nexts.{p_fit, p_beyond}
use Rattle.ported_arrays.proofs.Taking.{stay_is, enter_is}
use Rattle.ported_arrays.proofs.Begun.{Begun, begun_on}

-- sorting keeps members apart
into_once : (before : ℕ → ℕ → Bool) (done l : List ℕ) → Pairwise (λ x y. x ≢ y) done → Pairwise (λ x y. x ≢ y) l
    → ((x y : ℕ) → In x l → In y done → x ≢ y) → Pairwise (λ x y. x ≢ y) (sort_into before done l)
unfolding sort_into
into_once before done [] d e a = d
into_once before done (x ∷ l) d e a =
    into_once before (place before x done) l
    (place_pairwise before _ x done (λ y m. (a x y (here refl) m, λ f. a x y (here refl) m (sym f))) d)
    e.1
    (λ z y m k. apart z y m (place_out before x done k))
  where
    apart : (z y : ℕ) → In z l → In y (x ∷ done) → z ≢ y
    apart z y m (here f) g = e.0 z m (sym (g ∙ f))
    apart z y m (there k) g = a z y (there m) k g

pub sort_once : (before : ℕ → ℕ → Bool) (l : List ℕ) → Pairwise (λ x y. x ≢ y) l → Pairwise (λ x y. x ≢ y) (sort before l)
unfolding sort
sort_once before l d = into_once before [] l tt d (λ x y m k. elim k [ ])

-- with room for all, all are added
add_all : (room : ℕ) (l xs : List ℕ) → length l + length xs ≤ room → add room l xs ≡ l ++ xs
unfolding add
add_all room l xs h = ap (λ (z : List ℕ). l ++ z) (take_all (room - length l) xs (omega arith))

module _ (C : Chart) (O : Ordered C) (places : ℕ) (lent : List ℕ) (R : Room C places lent) (a : Sheet C) (s : State C) (G : Agrees C O places lent a s)
    (p : C.Point) (taken : next C s ≡ some p) where
  open C use {Point, less, n, min, before}

  pub fit : O.Fit p
  fit = p_fit C O places lent R a s G p taken

  pub after : beyond C s.last p ≡ true
  after = p_beyond C O places lent R a s G p taken

  pub begun : (i : ℕ) → i < n → beyond C s.last (min i) ≡ false → Begun C p i
  begun i h e = begun_on C O s.last G.last_fit p fit after (min i) (O.fit_min i h) e

  pub stay_out : (i : ℕ) → In i (staying C s p) → In i s.active × (finishes C p i ≡ false) × (turns C s p i ≡ false)
  unfolding staying
  stay_out i m =
      let k = keep_out (λ i. not (finishes C p i || turns C s p i)) s.active m in
      let b = neither (finishes C p i) (turns C s p i) (not_true (finishes C p i || turns C s p i) k.1) in
      (k.0, b.0, b.1)

  enter_out : (i : ℕ) → In i (entering C s p) → (i < n) × ((starts C p i ≡ true) ⊎ (turns C s p i ≡ true))
  unfolding entering
  enter_out i m =
      let k = keep_out (λ i. (starts C p i || turns C s p i) && not (finishes C p i)) (upto n) m in
      (upto_out n k.0, or_one (starts C p i) (turns C s p i) (and_both (starts C p i || turns C s p i) (not (finishes C p i)) k.1).0)

  starts_at : (i : ℕ) → i < n → starts C p i ≡ true → min i ≡ p
  unfolding starts
  starts_at i h e = same_yes C O p fit (min i) (O.fit_min i h) e

  -- a piece that stays has begun before, and none that enters stays
  apart : (i j : ℕ) → In i (staying C s p) → In j (entering C s p) → i ≢ j
  apart i j m k e =
      let x = stay_out i m in
      let y = enter_out j k in
      ⊎_elim
      (λ (f : starts C p j ≡ true).
      clash (subst (λ (z : Point). beyond C s.last z ≡ true) (sym (starts_at j y.0 f)) after) (subst (λ (z : ℕ). beyond C s.last (min z) ≡ false) e (G.active_begun i x.0)))
      (λ (f : turns C s p j ≡ true). clash f (subst (λ (z : ℕ). turns C s p z ≡ false) e x.2))
      y.1

  abbrev pub both : List ℕ
  both = staying C s p ++ entering C s p

  pub both_once : Pairwise (λ i j. i ≢ j) both
  unfolding staying entering
  both_once =
      pairwise_append _ (staying C s p) (entering C s p)
      (pairwise_keep _ _ s.active G.active_once)
      (pairwise_keep _ _ (upto n) (pairwise_map _ _ (upto n) (λ x y m k (o : x < y) e. omega arith) (upto_up n)))
      apart

  both_cases : (i : ℕ) → In i both → In i (staying C s p) ⊎ In i (entering C s p)
  both_cases i m = Memᴰ.append_cases (staying C s p) m

  pub both_below : (i : ℕ) → In i both → i < n
  both_below i m =
      ⊎_elim (λ (h : In i (staying C s p)). G.active_below i (stay_out i h).0) (λ (h : In i (entering C s p)). (enter_out i h).0) (both_cases i m)

  -- whoever crosses at p waited, and so has begun
  turn_begun : (i : ℕ) → i < n → turns C s p i ≡ true → Begun C p i
  unfolding turns
  turn_begun i h e =
      let r = any_out _ s.marks.waiting e in
      let b = G.waiting_begun r.0 r.1 in
      ⊎_elim
      (λ (f : eqb i r.0.0 ≡ true). begun i h (subst (λ (z : ℕ). beyond C s.last (min z) ≡ false) (sym (eqb-true i r.0.0 f)) b.0))
      (λ (f : eqb i r.0.1 ≡ true). begun i h (subst (λ (z : ℕ). beyond C s.last (min z) ≡ false) (sym (eqb-true i r.0.1 f)) b.1))
      (or_one (eqb i r.0.0) (eqb i r.0.1) (and_both (same C (at C r.0) p) (eqb i r.0.0 || eqb i r.0.1) r.2).1)

  pub stay_begun : (i : ℕ) → In i (staying C s p) → Begun C p i
  stay_begun i m = let x = stay_out i m in begun i (G.active_below i x.0) (G.active_begun i x.0)

  pub both_begun : (i : ℕ) → In i both → Begun C p i
  both_begun i m =
      ⊎_elim
      (λ (h : In i (staying C s p)). stay_begun i h)
      (λ (h : In i (entering C s p)).
      let y = enter_out i h in
      ⊎_elim (λ (f : starts C p i ≡ true). rw (starts_at i y.0 f) (O.less_irr p fit)) (λ (f : turns C s p i ≡ true). turn_begun i y.0 f) y.1)
      (both_cases i m)

  pub ranged_is : ranged C a p ≡ ranging C s p
  unfolding ranged ranging
  ranged_is =
      ap₂ (λ (x : List ℕ) (y : List ℕ). insert_all (before p) [] (add most x y)) (stay_is C O places lent R a s G p taken) (enter_is C O places lent R a s G p taken)
      ∙ ap (insert_all (before p) []) (add_all most (staying C s p) (entering C s p) room)
      ∙ resorted C O p fit both both_below both_once
    where
      room : length (staying C s p) + length (entering C s p) ≤ most
      room =
          omega (
            arith,
            R.few,
            upto_length n,
            length-append (staying C s p) (entering C s p),
            distinct_fit both (upto n) both_once (λ i m. upto_in n i (both_below i m)),
          )
