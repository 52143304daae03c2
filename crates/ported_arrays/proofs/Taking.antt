-- The pieces at p on arrays are those of the definition, in number order; so are those that stay and that enter.
use mathlib.Core.Path.{◌≡◌, refl, sym, ap, ap₂, ◌∙◌, subst}
use mathlib.Core.Logic.{◌⊎◌, inl, inr, ⊎_elim}
use mathlib.Core.Bool.{Bool, true, false, not, ◌&&◌, ◌||◌}
use mathlib.Core.Option.{some}
use mathlib.Core.List.Memᴰ
use mathlib.Core.List.{List, [], ◌∷◌, ◌++◌, map}
use mathlib.Core.List.Memᴰ.{head as here}
use mathlib.Core.List.Memᴰ.{tail as there}
use mathlib.Core.List.{Memᴰ as In}
use Prim.Native.Nat.{ℕ, ◌/◌, ◌<◌}
use native.Mathlib.Omega.{arith}
use lib.Dec.{eqb}
use borrow.Author.Tests.{eqb-true}
use Rattle.charts.specs.Chart.{most}
use Rattle.sweep.specs.Lists.{Pair, upto, keep, any}
use Rattle.sweep.specs.Chart.{Chart}
use Rattle.sweep.specs.State.{State}
use Rattle.sweep.specs.Queue.{next}
use Rattle.sweep.specs.Step.{starts, finishes, turns, takes_part}
use Rattle.sweep.specs.Step.{pieces as taking, stay as staying, enter as entering}
use Rattle.sweep.proofs.Tests.{ask, eqb_yes, or_one, or_left, or_right, and_both}
use Rattle.sweep.proofs.Lists.{keep_in, keep_out, keep_keep, keep_same, any_in, any_out, pairwise_keep}
use Rattle.sweep.proofs.Pairs.{upto_in, upto_out, upto_up}
use Rattle.ported_arrays.specs.Insertion.{join_all}
use Rattle.ported_arrays.specs.Event.{Sheet, flagged, halves, pieces, ends_here, crossings_here, stay, enter, starting, finishing, turning}
use Rattle.ported_arrays.specs.Event.{here as joining}
use Rattle.ported_arrays.specs.Numbers.{is_min, end_at}
use Rattle.ported_arrays.specs.Agreement.{flat, Ordered, Room, Agrees}
use Rattle.ported_arrays.proofs.Joining.{ascending_one, joined_all}
use Rattle.ported_arrays.proofs.Roles.{ends_here_are, starting_any, finishing_any, starting_is, finishing_is, gone, crossing_pieces, turning_any, turning_is}

any_eq : (i : ℕ) {l : List ℕ} → In i l → any (eqb i) l ≡ true
any_eq i m = any_in (eqb i) m (eqb_yes i i refl)

any_one : (i : ℕ) (l : List ℕ) → any (eqb i) l ≡ true → In i l
any_one i l e = let r = any_out (eqb i) l e in subst (λ (z : ℕ). In z l) (sym (eqb-true i r.0 r.2)) r.1

flat_in : (i : ℕ) (qs : List Pair) → In i (flat qs) → (q : Pair) × In q qs × ((i ≡ q.0) ⊎ (i ≡ q.1))
unfolding flat
flat_in i [] m = elim m [ ]
flat_in i (q ∷ qs) (here e) = (q, here refl, inl e)
flat_in i (q ∷ qs) (there (here e)) = (q, here refl, inr e)
flat_in i (q ∷ qs) (there (there m)) = let r = flat_in i qs m in (r.0, there r.1, r.2)

module _ (C : Chart) (O : Ordered C) (places : ℕ) (lent : List ℕ) (R : Room C places lent) (a : Sheet C) (s : State C) (G : Agrees C O places lent a s)
    (p : C.Point) (taken : next C s ≡ some p) where
  open C use {Point, n, contains}

  abbrev holding : List ℕ
  holding = keep (λ i. contains i p) a.active

  abbrev here_ends : List ℕ
  here_ends = ends_here C a p

  abbrev here_crossings : List ℕ
  here_crossings = crossings_here C a p

  -- ends of one sort have their pieces among those of all ends
  half_in : (sort : ℕ → Bool) (i : ℕ) → any (eqb i) (halves (keep sort here_ends)) ≡ true → In i (halves here_ends)
  unfolding halves
  half_in sort i e =
      let r = Memᴰ.of_map (λ e. e / 2) (keep sort here_ends) (any_one i (halves (keep sort here_ends)) e) in
      subst (λ (z : ℕ). In z (map (λ e. e / 2) here_ends)) r.2 (Memᴰ.map (λ e. e / 2) (keep_out sort here_ends r.1).0)

  half_out : (i : ℕ) → In i (halves here_ends) → (any (eqb i) (halves (keep is_min here_ends)) ≡ true) ⊎ (any (eqb i) (halves (keep (λ e. not (is_min e)) here_ends)) ≡ true)
  unfolding halves
  half_out i m =
      let r = Memᴰ.of_map (λ e. e / 2) here_ends m in
      ⊎_elim
      (λ (e : is_min r.0 ≡ true). inl (any_eq i (subst (λ (z : ℕ). In z (halves (keep is_min here_ends))) r.2 (Memᴰ.map (λ e. e / 2) (keep_in is_min r.1 e)))))
      (λ (e : is_min r.0 ≡ false).
      inr (any_eq i (subst (λ (z : ℕ). In z (halves (keep (λ e. not (is_min e)) here_ends))) r.2 (Memᴰ.map (λ e. e / 2) (keep_in (λ e. not (is_min e)) r.1 (ap not e))))))
      (ask (is_min r.0))

  abbrev parts : List ℕ
  parts = halves here_ends ++ (pieces here_crossings ++ holding)

  half_below : (i : ℕ) → In i (halves here_ends) → i < n
  unfolding halves
  half_below i m =
      let r = Memᴰ.of_map (λ e. e / 2) here_ends m in
      let k = keep_out (end_at C p) a.ends (subst (λ (l : List ℕ). In r.0 l) (ends_here_are C O places lent R a s G p taken) r.1) in
      omega (arith, (G.ends_out r.0 k.0).0, r.2)

  piece_below : (i : ℕ) → In i (pieces here_crossings) → i < n
  piece_below i m =
      let r = flat_in i (keep (gone C O places lent R a s G p taken) s.marks.waiting) (subst (λ (l : List ℕ). In i l) (crossing_pieces C O places lent R a s G p taken) m) in
      let v = G.holds.waiting_once.pieces r.0 (keep_out (gone C O places lent R a s G p taken) s.marks.waiting r.1).0 in
      ⊎_elim (λ (e : i ≡ r.0.0). omega (arith, v)) (λ (e : i ≡ r.0.1). omega (arith, v)) r.2

  parts_cases : (i : ℕ) → In i parts → In i (halves here_ends) ⊎ (In i (pieces here_crossings) ⊎ In i holding)
  parts_cases i m =
      ⊎_elim (λ (h : In i (halves here_ends)). inl h) (λ (h : In i (pieces here_crossings ++ holding)). inr (Memᴰ.append_cases (pieces here_crossings) h))
      (Memᴰ.append_cases (halves here_ends) m)

  active_in : (i : ℕ) → In i holding → In i s.active × (contains i p ≡ true)
  active_in i m = let k = keep_out (λ i. contains i p) a.active m in (subst (λ (l : List ℕ). In i l) G.active_is k.0, k.1)

  parts_below : (i : ℕ) → In i parts → i < n
  parts_below i m = go (parts_cases i m)
    where
      go : In i (halves here_ends) ⊎ (In i (pieces here_crossings) ⊎ In i holding) → i < n
      go (inl h) = half_below i h
      go (inr (inl h)) = piece_below i h
      go (inr (inr h)) = G.active_below i (active_in i h).0

  abbrev Part : ℕ → Type 0
  Part i = ((starts C p i ≡ true) ⊎ (finishes C p i ≡ true)) ⊎ ((turns C s p i ≡ true) ⊎ ((any (eqb i) s.active && contains i p) ≡ true))

  part_yes : (i : ℕ) → Part i → takes_part C s p i ≡ true
  unfolding takes_part
  part_yes i (inl (inl e)) = or_left _ _ (or_left _ _ (or_left (starts C p i) (finishes C p i) e))
  part_yes i (inl (inr e)) = or_left _ _ (or_left _ _ (or_right (starts C p i) (finishes C p i) e))
  part_yes i (inr (inl e)) = or_left _ _ (or_right (starts C p i || finishes C p i) (turns C s p i) e)
  part_yes i (inr (inr e)) = or_right (starts C p i || finishes C p i || turns C s p i) _ e

  part_cases : (i : ℕ) → takes_part C s p i ≡ true → Part i
  unfolding takes_part
  part_cases i e =
      ⊎_elim
      (λ (f : (starts C p i || finishes C p i || turns C s p i) ≡ true).
      ⊎_elim (λ (g : (starts C p i || finishes C p i) ≡ true). inl (or_one (starts C p i) (finishes C p i) g)) (λ (g : turns C s p i ≡ true). inr (inl g))
      (or_one (starts C p i || finishes C p i) (turns C s p i) f))
      (λ (f : (any (eqb i) s.active && contains i p) ≡ true). inr (inr f))
      (or_one (starts C p i || finishes C p i || turns C s p i) (any (eqb i) s.active && contains i p) e)

  parts_out : (i : ℕ) → In i parts → Part i
  parts_out i m = go (parts_cases i m)
    where
      go : In i (halves here_ends) ⊎ (In i (pieces here_crossings) ⊎ In i holding) → Part i
      go (inl h) =
          ⊎_elim
          (λ (e : any (eqb i) (halves (keep is_min here_ends)) ≡ true). inl (inl (sym (starting_any C O places lent R a s G p taken i (half_below i h)) ∙ e)))
          (λ (e : any (eqb i) (halves (keep (λ e. not (is_min e)) here_ends)) ≡ true). inl (inr (sym (finishing_any C O places lent R a s G p taken i (half_below i h)) ∙ e)))
          (half_out i h)
      go (inr (inl h)) = inr (inl (sym (turning_any C O places lent R a s G p taken i) ∙ any_eq i h))
      go (inr (inr h)) = let k = active_in i h in inr (inr (rw (any_eq i k.0) k.1))

  parts_in : (i : ℕ) → i < n → Part i → In i parts
  parts_in i h (inl (inl e)) = Memᴰ.append_left _ (half_in is_min i (starting_any C O places lent R a s G p taken i h ∙ e))
  parts_in i h (inl (inr e)) = Memᴰ.append_left _ (half_in (λ e. not (is_min e)) i (finishing_any C O places lent R a s G p taken i h ∙ e))
  parts_in i h (inr (inl e)) =
      Memᴰ.append_right (halves here_ends) (Memᴰ.append_left _ (any_one i (pieces here_crossings) (turning_any C O places lent R a s G p taken i ∙ e)))
  parts_in i h (inr (inr e)) =
      let b = and_both (any (eqb i) s.active) (contains i p) e in
      Memᴰ.append_right (halves here_ends)
      (Memᴰ.append_right (pieces here_crossings)
      (keep_in (λ i. contains i p) (subst (λ (l : List ℕ). In i l) (sym G.active_is) (any_one i s.active b.0)) b.1))

  pub here_is : joining C a p ≡ taking C s p
  unfolding joining taking
  here_is =
      let j = joined_all n most R.few parts [] (record { up = tt; below = λ y m. elim m [ ] }) parts_below in
      ascending_one (join_all most parts []) (keep (takes_part C s p) (upto n)) j.0.up (pairwise_keep _ (takes_part C s p) (upto n) (upto_up n))
      (λ z m. into z (j.1 z m))
      (λ z m. let k = keep_out (takes_part C s p) (upto n) m in j.2 z (inl (parts_in z (upto_out n k.0) (part_cases z k.1))))
    where
      into : (z : ℕ) → In z parts ⊎ In z [] → In z (keep (takes_part C s p) (upto n))
      into z (inl m) = keep_in (takes_part C s p) (upto_in n z (parts_below z m)) (part_yes z (parts_out z m))
      into z (inr m) = elim m [ ]

  pub stay_is : stay C a p ≡ staying C s p
  unfolding stay staying
  stay_is =
      ap (keep (λ i. not (flagged (finishing C a p) i || flagged (turning C a p) i))) G.active_is
      ∙ keep_same _ _ s.active (λ i m.
      ap₂ (λ (x : Bool) (y : Bool). not (x || y))
      (finishing_is C O places lent R a s G p taken i (G.active_below i m))
      (turning_is C O places lent R a s G p taken i (G.active_below i m)))

  abbrev enters : ℕ → Bool
  enters i = (starts C p i || turns C s p i) && not (finishes C p i)

  enters_part : (i : ℕ) → enters i ≡ true → takes_part C s p i ≡ true
  enters_part i e =
      ⊎_elim (λ (f : starts C p i ≡ true). part_yes i (inl (inl f))) (λ (f : turns C s p i ≡ true). part_yes i (inr (inl f)))
      (or_one (starts C p i) (turns C s p i) (and_both (starts C p i || turns C s p i) (not (finishes C p i)) e).0)

  pub enter_is : enter C a p ≡ entering C s p
  unfolding enter entering taking
  enter_is =
      ap (keep (λ i. (flagged (starting C a p) i || flagged (turning C a p) i) && not (flagged (finishing C a p) i))) here_is
      ∙ keep_same _ enters (keep (takes_part C s p) (upto n)) (λ i m. flags i (upto_out n (keep_out (takes_part C s p) (upto n) m).0))
      ∙ keep_keep enters (takes_part C s p) (upto n)
      ∙ keep_same _ enters (upto n) (λ i m. both i)
    where
      flags : (i : ℕ) → i < n → ((flagged (starting C a p) i || flagged (turning C a p) i) && not (flagged (finishing C a p) i)) ≡ enters i
      flags i h =
          rw (starting_is C O places lent R a s G p taken i h, turning_is C O places lent R a s G p taken i h, finishing_is C O places lent R a s G p taken i h)

      both : (i : ℕ) → (takes_part C s p i && enters i) ≡ enters i
      both i =
          ⊎_elim
          (λ (e : enters i ≡ true). rw (enters_part i e))
          (λ (e : enters i ≡ false). rw e (and_no (takes_part C s p i)))
          (ask (enters i))
        where
          and_no : (b : Bool) → (b && false) ≡ false
          and_no true = refl
          and_no false = refl
