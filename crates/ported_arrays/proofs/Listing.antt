-- A pair that is not listed yet goes to the end of the list, in the ledger as in the state.
use mathlib.Core.Path.{◌≡◌, refl, sym, ap, ◌∙◌, subst}
use mathlib.Core.Logic.{◌≢◌, ⊎_elim}
use mathlib.Core.Bool.{true}
use mathlib.Core.List.Memᴰ
use mathlib.Core.List.{List, [], ◌∷◌, ◌++◌}
use mathlib.Core.List.Memᴰ.{head as here}
use mathlib.Core.List.Memᴰ.{tail as there}
use mathlib.Core.List.{Memᴰ as In}
use Prim.Native.Nat.{ℕ, ◌+◌, ◌≤◌, ◌<◌}
use native.Mathlib.Omega.{arith}
use lib.Dec.{ltb}
use lib.ListN.{length, set, get_or, length-append, length-drop, length-set}
use Rattle.sweep.specs.Lists.{Pair}
use Rattle.sweep.specs.Chart.{Chart}
use Rattle.sweep.specs.Sought.{all}
use Rattle.sweep.specs.State.{Marks}
use Rattle.sweep.specs.Step.{list}
use Rattle.sweep.specs.Demand.{Pieces}
use Rattle.sweep.proofs.Tests.{ltb_yes}
use Rattle.sweep.proofs.Pairs.{upto_in, upto_up, pairs_in, among_in, among_snoc}
use Rattle.sweep.proofs.Lists.{pairwise_append}
use Rattle.ported_arrays.specs.Numbers.{cell}
use Rattle.ported_arrays.specs.Ledger.{Ledger, mark, put, past}
use Rattle.ported_arrays.specs.Ledger.{list as write}
use Rattle.ported_arrays.specs.Agreement.{flat, mark_of, Once, Room, Holds}
use Rattle.ported_arrays.proofs.Distinct.{distinct_fit}
use Rattle.ported_arrays.proofs.Flat.{flat_append, flat_length, two_more}
use Rattle.ported_arrays.proofs.Marking.{same_or_not, set_own, set_others}

module _ (C : Chart) where
  open C use {n}

  pub all_in : (q : Pair) → Pieces C q → In q (all C)
  unfolding all
  all_in q v = pairs_in (upto_up n) (upto_in n q.0 (omega arith)) (upto_in n q.1 v.1) v.0

  pub once_snoc : (l : List Pair) (q : Pair) → Once C l → Pieces C q → ¬ In q l → Once C (l ++ (q ∷ []))
  once_snoc l q o v new =
      record {
        pieces = λ r m. ⊎_elim (λ (h : In r l). o.pieces r h) (λ (h : In r (q ∷ [])). own r h) (Memᴰ.append_cases l m);
        once = pairwise_append _ l (q ∷ []) o.once (λ y m. elim m [ ], tt) (λ x y m k e. apart x y m k e);
      }
    where
      own : (r : Pair) → In r (q ∷ []) → Pieces C r
      own r (here e) = rw e v
      own r (there h) = elim h [ ]

      apart : (x y : Pair) → In x l → In y (q ∷ []) → x ≡ y → ⊥
      apart x y m (here f) e = new (subst (λ (z : Pair). In z l) (e ∙ f) m)
      apart x y m (there h) e = elim h [ ]

  -- a list of pairs, each once, has no more than all
  pub once_room : (l : List Pair) → Once C l → length l ≤ length (all C)
  once_room l o = distinct_fit l (all C) o.once (λ q m. all_in q (o.pieces q m))

  mark_of_listed : (m : Marks) (q : Pair) → In q m.listed → mark_of m q ≡ 2
  unfolding mark_of
  mark_of_listed m q h = rw (among_in h)

  mark_of_other : (m : Marks) (q r : Pair) → r ≢ q → mark_of (list q m) r ≡ mark_of m r
  unfolding mark_of list
  mark_of_other m q r d = rw (among_snoc r q m.listed d)

  module _ (places : ℕ) (lent : List ℕ) (R : Room C places lent) (s : Ledger) (m : Marks) (H : Holds C places lent s m)
      (q : Pair) (v : Pieces C q) (new : ¬ In q m.listed) where
    fits : length (flat m.listed) + 1 < length lent
    fits =
        omega (
          arith,
          once_room (m.listed ++ (q ∷ [])) (once_snoc m.listed q H.listed_once v new),
          length-append m.listed (q ∷ []),
          flat_length m.listed,
          flat_length (all C),
          R.lists,
        )

    bytes_long : length s.bytes ≡ length lent
    bytes_long =
        ap length H.bytes_are ∙ length-append (flat m.listed) _
        ∙ omega (arith, length-drop (length (flat m.listed)) lent, fits)

    room : ltb (s.end + 1) (length s.bytes) ≡ true
    room = ltb_yes (s.end + 1) (length s.bytes) (omega (arith, H.end_is, bytes_long, fits))

    flat_snoc : flat (m.listed ++ (q ∷ [])) ≡ flat m.listed ++ (q.0 ∷ q.1 ∷ [])
    unfolding flat
    flat_snoc = flat_append m.listed (q ∷ [])

    snoc_length : length (flat (m.listed ++ (q ∷ []))) ≡ length (flat m.listed) + 2
    snoc_length = ap length flat_snoc ∙ length-append (flat m.listed) (q.0 ∷ q.1 ∷ [])

    marks_are : (r : Pair) → Pieces C r → get_or (set s.marks (cell q) 2) (cell r) 0 ≡ mark_of (list q m) r
    unfolding mark
    marks_are r w =
        ⊎_elim
        (λ (e : r ≡ q).
        ap (λ (z : Pair). get_or (set s.marks (cell q) 2) (cell z) 0) e
        ∙ set_own C R.few s.marks H.marks_long q v 2
        ∙ sym (unfold list in mark_of_listed (list q m) r (subst (λ (z : Pair). In z (m.listed ++ (q ∷ []))) (sym e) (Memᴰ.append_right m.listed (here refl)))))
        (λ (d : r ≢ q). set_others C R.few s.marks H.marks_long q v 2 r w d ∙ H.marks_are r w ∙ sym (mark_of_other m q r d))
        (same_or_not r q)

    pub list_holds : Holds C places lent (write q s) (list q m)
    unfolding write list mark put past
    list_holds =
        record {
          waiting_is = H.waiting_is;
          spare_is = H.spare_is;
          bytes_are =
              rw (room, H.bytes_are, H.end_is)
              (two_more (flat m.listed) lent (length (flat m.listed)) q.0 q.1 refl fits
              ∙ sym (rw (snoc_length, flat_snoc) refl));
          end_is = rw room (omega (arith, H.end_is, snoc_length));
          marks_long = length-set s.marks (cell q) 2 ∙ H.marks_long;
          marks_are = marks_are;
          waiting_once = H.waiting_once;
          waiting_cross = H.waiting_cross;
          waiting_up = H.waiting_up;
          listed_once = once_snoc m.listed q H.listed_once v new;
        }
