-- The waiting marks of p's crossings drop, in the ledger as in the state.
use mathlib.Core.Path.{◌≡◌, refl, sym, ap, ◌∙◌}
use mathlib.Core.Logic.{⊎_elim}
use mathlib.Core.Bool.{Bool, true, false, not}
use mathlib.Core.List.Memᴰ
use mathlib.Core.List.{List, [], ◌∷◌, map}
use mathlib.Core.List.Memᴰ.{head as here}
use mathlib.Core.List.Memᴰ.{tail as there}
use mathlib.Core.List.{Memᴰ as In}
use Prim.Native.Nat.{ℕ, ◌+◌, ◌<◌}
use native.Mathlib.Omega.{arith}
use lib.ListN.{length, length-map}
use Rattle.charts.specs.Chart.{most}
use Rattle.sweep.specs.Lists.{Pair, among, keep, Pairwise}
use Rattle.sweep.specs.Chart.{Chart, same, at}
use Rattle.sweep.specs.State.{Marks}
use Rattle.sweep.specs.Step.{drop}
use Rattle.sweep.proofs.Tests.{ask, clash}
use Rattle.sweep.proofs.Lists.{keep_in, keep_out, keep_same, pairwise_keep}
use Rattle.sweep.proofs.Pairs.{among_in, among_out, among_no}
use Rattle.ported_arrays.specs.Numbers.{cell, pair_of, crossing_at}
use Rattle.ported_arrays.specs.Insertion.{front, rest}
use Rattle.ported_arrays.specs.Ledger.{Ledger, mark}
use Rattle.ported_arrays.specs.Event.{free_all}
use Rattle.ported_arrays.specs.Agreement.{mark_of, Ordered, Once, Room, Holds}
use Rattle.ported_arrays.proofs.Cells.{pair_cell}
use Rattle.ported_arrays.proofs.Order.{Up}
use Rattle.ported_arrays.proofs.Fronts.{front_keep, rest_keep, stops}
use Rattle.ported_arrays.proofs.Freeing.{freed, free_marks, free_all_long}

keep_map : {A B : Type 0} (f : B → Bool) (g : A → B) (l : List A) → keep f (map g l) ≡ map g (keep (λ x. f (g x)) l)
unfolding keep
keep_map f g [] = refl
keep_map f g (x ∷ l) =
    ⊎_elim
    (λ (e : f (g x) ≡ true). rw e (ap (λ (z : List _). g x ∷ z) (keep_map f g l)))
    (λ (e : f (g x) ≡ false). rw e (keep_map f g l))
    (ask (f (g x)))

keep_split_length : {A : Type 0} (f : A → Bool) (l : List A) → length (keep f l) + length (keep (λ x. not (f x)) l) ≡ length l
unfolding keep
keep_split_length f [] = refl
keep_split_length f (x ∷ l) =
    ⊎_elim
    (λ (e : f x ≡ true). rw e (omega (arith, keep_split_length f l)))
    (λ (e : f x ≡ false). rw e (omega (arith, keep_split_length f l)))
    (ask (f x))

map_up : (C : Chart) (f : ℕ → C.Point) (g : Pair → C.Point) (l : List Pair) → ((q : Pair) → In q l → f (cell q) ≡ g q) → Up C g l → Up C f (map cell l)
map_up C f g [] h u = tt
map_up C f g (q ∷ l) h u = (λ y m. later y m, map_up C f g l (λ r k. h r (there k)) u.1)
  where
    later : (y : ℕ) → In y (map cell l) → C.less (f y) (f (cell q)) ≡ false
    later y m =
        let r = Memᴰ.of_map cell l m in
        rw (← r.2, h r.0 (there r.1), h q (here refl)) (u.0 r.0 r.1)

module _ (C : Chart) (O : Ordered C) (places : ℕ) (lent : List ℕ) (R : Room C places lent) (s : Ledger) (m : Marks) (H : Holds C places lent s m)
    (p : C.Point) (fit : O.Fit p) (ahead : (q : Pair) → In q m.waiting → C.less (at C q) p ≡ false) where
  open C use {Point, less}

  abbrev gone : Pair → Bool
  gone q = same C (at C q) p

  short : (q : Pair) → In q m.waiting → q.1 < most
  short q h = omega (arith, H.waiting_once.pieces q h, R.few)

  there_at : (q : Pair) → In q m.waiting → at C (pair_of (cell q)) ≡ at C q
  there_at q h = ap (at C) (pair_cell q (short q h))

  gone_cell : (q : Pair) → In q m.waiting → crossing_at C p (cell q) ≡ gone q
  unfolding crossing_at
  gone_cell q h = ap (λ (z : Point). same C z p) (there_at q h)

  cells_stop : Pairwise (λ x y. crossing_at C p x ≡ false → crossing_at C p y ≡ false) (map cell m.waiting)
  unfolding crossing_at
  cells_stop =
      stops C O p fit (λ c. at C (pair_of c)) (map cell m.waiting) (λ c h. here_fit c h)
      (map_up C (λ c. at C (pair_of c)) (at C) m.waiting there_at H.waiting_up)
    where
      here_fit : (c : ℕ) → In c (map cell m.waiting) → O.Fit (at C (pair_of c)) × (less (at C (pair_of c)) p ≡ false)
      here_fit c h =
          let r = Memᴰ.of_map cell m.waiting h in
          rw (← r.2, there_at r.0 r.1)
          (O.fit_at r.0 (H.waiting_once.pieces r.0 r.1) (H.waiting_cross r.0 r.1), ahead r.0 r.1)

  -- the numbers of the pairs that are here
  pub front_is : front (crossing_at C p) s.waiting ≡ map cell (keep gone m.waiting)
  front_is =
      ap (front (crossing_at C p)) H.waiting_is
      ∙ front_keep (crossing_at C p) (map cell m.waiting) cells_stop
      ∙ keep_map (crossing_at C p) cell m.waiting
      ∙ ap (map cell) (keep_same _ gone m.waiting gone_cell)

  rest_is : rest (crossing_at C p) s.waiting ≡ map cell (keep (λ q. not (gone q)) m.waiting)
  rest_is =
      ap (rest (crossing_at C p)) H.waiting_is
      ∙ rest_keep (crossing_at C p) (map cell m.waiting) cells_stop
      ∙ keep_map (λ c. not (crossing_at C p c)) cell m.waiting
      ∙ ap (map cell) (keep_same _ (λ q. not (gone q)) m.waiting (λ q h. ap not (gone_cell q h)))

  -- the ledger without p's crossings
  abbrev pub after : Ledger
  after =
      record {
        marks = free_all (front (crossing_at C p) s.waiting) s.marks;
        waiting = rest (crossing_at C p) s.waiting;
        spare = s.spare + length (front (crossing_at C p) s.waiting);
        bytes = s.bytes;
        end = s.end;
      }

  once : (f : Pair → Bool) → Once C (keep f m.waiting)
  once f =
      record {
        pieces = λ q h. H.waiting_once.pieces q (keep_out f m.waiting h).0;
        once = pairwise_keep _ f m.waiting H.waiting_once.once;
      }

  -- what a pair's mark becomes
  mark_after : (r : Pair) → freed (among r (keep gone m.waiting)) (mark_of m r) ≡ mark_of (drop C p m) r
  unfolding freed mark_of drop
  mark_after r =
      ⊎_elim
      (λ (l : among r m.listed ≡ true). rw l (listed (among r (keep gone m.waiting))))
      (λ (l : among r m.listed ≡ false).
      rw l
      (⊎_elim
      (λ (w : among r m.waiting ≡ true).
      ⊎_elim
      (λ (g : gone r ≡ true).
      rw (w, among_in (keep_in gone (among_out r m.waiting w) g), among_no r (keep (λ q. not (gone q)) m.waiting) (λ h. clash g (left r h))))
      (λ (g : gone r ≡ false).
      rw (
        w,
        among_no r (keep gone m.waiting) (λ h. clash (keep_out gone m.waiting h).1 g),
        among_in (keep_in (λ q. not (gone q)) (among_out r m.waiting w) (ap not g)),
      ))
      (ask (gone r)))
      (λ (w : among r m.waiting ≡ false).
      rw (
        w,
        among_no r (keep gone m.waiting) (λ h. clash (among_in (keep_out gone m.waiting h).0) w),
        among_no r (keep (λ q. not (gone q)) m.waiting) (λ h. clash (among_in (keep_out (λ q. not (gone q)) m.waiting h).0) w),
      ))
      (ask (among r m.waiting))))
      (ask (among r m.listed))
    where
      listed : (b : Bool) → freed b 2 ≡ 2
      listed true = refl
      listed false = refl

      left : (q : Pair) → In q (keep (λ q. not (gone q)) m.waiting) → gone q ≡ false
      left q h = turn (gone q) (keep_out (λ q. not (gone q)) m.waiting h).1
        where
          turn : (b : Bool) → not b ≡ true → b ≡ false
          turn true e = sym e
          turn false e = refl

  pub drop_holds : Holds C places lent after (drop C p m)
  unfolding drop mark
  drop_holds =
      record {
        waiting_is = rest_is;
        spare_is =
            omega (arith, H.spare_is, ap length front_is ∙ length-map (keep gone m.waiting) cell, keep_split_length gone m.waiting);
        bytes_are = H.bytes_are;
        end_is = H.end_is;
        marks_long = free_all_long C R.few (front (crossing_at C p) s.waiting) s.marks ∙ H.marks_long;
        marks_are = λ r w.
            rw front_is
            (free_marks C R.few (keep gone m.waiting) s.marks H.marks_long (once gone).pieces r w
            ∙ ap (freed (among r (keep gone m.waiting))) (H.marks_are r w)
            ∙ mark_after r);
        waiting_once = once (λ q. not (gone q));
        waiting_cross = λ q h. H.waiting_cross q (keep_out (λ q. not (gone q)) m.waiting h).0;
        waiting_up = pairwise_keep _ (λ q. not (gone q)) m.waiting H.waiting_up;
        listed_once = H.listed_once;
      }
