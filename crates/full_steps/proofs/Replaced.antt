-- The block replaced in place is the active list that the step sorts: the same members, in order, and there is but one
-- such list.
use mathlib.Core.Path.{◌≡◌, sym, ◌∙◌}
use mathlib.Core.Logic.{⊎_elim, ◌≢◌, ◌↔◌}
use mathlib.Core.Bool.{true, false, not}
use mathlib.Core.Option.{some}
use mathlib.Core.List.Memᴰ
use mathlib.Core.List.{List, ◌++◌}
use mathlib.Core.List.{Memᴰ as In}
use Prim.Native.Nat.{ℕ}
use native.Mathlib.Omega.{arith}
use Rattle.std.specs.declared.cmp.Ordering.TheVariants.{Less, Equal, Greater}
use Rattle.sweep.specs.Lists.{upto, keep, sort, Pairwise}
use Rattle.sweep.specs.Chart.{Chart}
use Rattle.sweep.specs.Step.{starts, finishes}
use Rattle.sweep.specs.Geometry.{Occurs, Under, Geometry}
use Rattle.sweep.specs.Ported.{is_less, is_equal}
use Rattle.sweep.proofs.Tests.{ask, not_true}
use Rattle.sweep.proofs.Lists.{keep_in, keep_out, pairwise_map, pairwise_append, pairwise_keep, pairwise_left, pairwise_right, pairwise_across}
use Rattle.sweep.proofs.Sorting.{sort_in, sort_out, sort_once, sort_sorted, sorted_same}
use Rattle.sweep.proofs.Pairs.{upto_out, upto_once}
use Rattle.sweep.proofs.Occurring.{min_occurs, max_occurs}
use Rattle.sweep.proofs.Ranked.{Act, Ranked, ranked, ranked_on, on_ranked, less_yes, less_no}
use Rattle.sweep.proofs.Between.{Lined, Soonest}
use Rattle.sweep.proofs.Soonest.{no_max, starts_on, finishes_on, goes_on, starts_act, starts_apart}
use Rattle.sweep.proofs.Lining.{sorted_line}
use Rattle.full_steps.specs.Steps.{State, next, ranged}
use Rattle.full_steps.specs.InPlace.{is_greater_lem, Sides, InPlaceFacts, below, block, above, renewed, replaced}
use Rattle.full_steps.proofs.Step.{Inv, stayers, starters, member_act, act_member, members_once}
use Rattle.full_steps.proofs.Sides.{is_less_lem, is_equal_lem, is_greater, F, N, Steady, onward, parts}

module _ (C : Chart) (S : Sides C) (G : Geometry C) (A : InPlaceFacts C S G) (s : State C) (I : Inv C (ranked C G) s) (p : C.Point) (hp : next C s ≡ some p) where
  open C use {Point, less, n, max, min, before}
  open S use {aside, rises}
  open (F C S G A).keyed use {key}

  abbrev R : Ranked C
  R = F C S G A

  abbrev here_at : Soonest C R s.last p
  here_at = N C S G A s I p hp

  abbrev L : Lined C R s.active s.last
  L = I.lined

  op : Occurs C p
  op = here_at.occurs

  pub act_under : (i : ℕ) → Act C key p i → Under C p i
  act_under i a = (a.0, less_no C R.keyed p (min i) op (min_occurs C i a.0) a.1, less_yes C R.keyed p (max i) op (max_occurs C i a.0) a.2)

  -- an active piece is on p exactly where its side says so
  side_on : (i : ℕ) → In i s.active → (aside p i ≡ Equal) ↔ G.On i p
  side_on i m =
      let o = L.active_out i m in
      let u = here_at.new in
      A.aside_on p i op o.0 (less_no C R.keyed p (min i) op (min_occurs C i o.0) (omega arith))
      (less_no C R.keyed (max i) p (max_occurs C i o.0) op (no_max C R s.active s.last L p here_at i o.0 o.2))

  pub on_active : (i : ℕ) → In i s.active → R.On i p → aside p i ≡ Equal
  on_active i m o = (side_on i m).1 (ranked_on C G o)

  pub below_out : (i : ℕ) → In i (below C S s.active p) → In i s.active × (aside p i ≡ Greater)
  unfolding below
  below_out i m = let r = keep_out (λ i. is_greater_lem (aside p i)) s.active m in (r.0, is_greater (aside p i) r.1)

  pub block_out : (i : ℕ) → In i (block C S s.active p) → In i s.active × R.On i p
  unfolding block
  block_out i m = let r = keep_out (λ i. is_equal (aside p i)) s.active m in (r.0, on_ranked C G ((side_on i r.0).0 (is_equal_lem (aside p i) r.1)))

  pub block_in : (i : ℕ) → In i s.active → R.On i p → In i (block C S s.active p)
  unfolding block
  block_in i m o = keep_in (λ i. is_equal (aside p i)) m (rw (on_active i m o))

  pub above_out : (i : ℕ) → In i (above C S s.active p) → In i s.active × (aside p i ≡ Less)
  unfolding above
  above_out i m = let r = keep_out (λ i. is_less (aside p i)) s.active m in (r.0, is_less_lem (aside p i) r.1)

  -- whoever is not on p goes on
  off_late : (i : ℕ) → In i s.active → ¬ (aside p i ≡ Equal) → finishes C p i ≡ false
  off_late i m ne =
      ⊎_elim
      (λ (e : finishes C p i ≡ true). absurd (ne (on_active i m (finishes_on C R s.active s.last L p here_at i (L.active_out i m).0 e))))
      (λ (e : finishes C p i ≡ false). e)
      (ask (finishes C p i))

  off_act : (i : ℕ) → In i s.active → ¬ (aside p i ≡ Equal) → Act C key p i
  off_act i m ne = goes_on C R s.active s.last L p here_at i m (off_late i m ne)

  pub below_act : (i : ℕ) → In i (below C S s.active p) → Act C key p i
  below_act i m = let r = below_out i m in off_act i r.0 (λ e. let z : ◌≡◌ {A = ℕ} 0 1 = cc r.1 in absurd (omega arith))

  pub above_act : (i : ℕ) → In i (above C S s.active p) → Act C key p i
  above_act i m = let r = above_out i m in off_act i r.0 (λ e. let z : ◌≡◌ {A = ℕ} 0 1 = cc r.1 in absurd (omega arith))

  -- ---- the renewed block
  abbrev pub goers : List ℕ
  goers = keep (λ i. not (finishes C p i)) (block C S s.active p)

  abbrev pub comers : List ℕ
  comers = keep (starts C p) (upto n)

  -- on p and going on
  abbrev pub Through : ℕ → Type 0
  Through i = Act C key p i × R.On i p

  pub through : (i : ℕ) → In i (goers ++ comers) → Through i
  through i m =
      ⊎_elim
      (λ (h : In i goers).
      let r = keep_out (λ i. not (finishes C p i)) (block C S s.active p) h in
      let b = block_out i r.0 in
      (goes_on C R s.active s.last L p here_at i b.0 (not_true _ r.1), b.1))
      (λ (h : In i comers).
      let r = keep_out (starts C p) (upto n) h in
      let g = upto_out n r.0 in
      (starts_act C R s.active s.last L p here_at i g r.1, starts_on C R s.active s.last L p here_at i g r.1))
      (Memᴰ.append_cases goers m)

  pub renewed_through : (i : ℕ) → In i (renewed C S s.active p) → Through i
  unfolding renewed
  renewed_through i m = through i (sort_out _ (goers ++ comers) m)

  rises_is : (i j : ℕ) → Through i → Through j → before p i j ≡ rises i j
  rises_is i j a b = A.on_rises p op i j (act_under i a.0) (act_under j b.0) (ranked_on C G a.1) (ranked_on C G b.1)

  comes_once : Pairwise (λ i j. i ≢ j) (goers ++ comers)
  unfolding block
  comes_once =
      pairwise_append (λ i j. i ≢ j) goers comers
      (pairwise_keep (λ i j. i ≢ j) (λ i. not (finishes C p i)) (block C S s.active p) (pairwise_keep (λ i j. i ≢ j) (λ i. is_equal (aside p i)) s.active L.once))
      (pairwise_keep (λ i j. i ≢ j) (starts C p) (upto n) (upto_once n))
      (λ i j a b.
      let r = keep_out (starts C p) (upto n) b in
      starts_apart C R s.active s.last L p here_at i j (block_out i (keep_out (λ i. not (finishes C p i)) (block C S s.active p) a).0).0 (upto_out n r.0) r.1)

  pub rises_trans : (x y z : ℕ) → Through x → Through y → Through z → rises x y ≡ true → rises y z ≡ true → rises x z ≡ true
  rises_trans x y z i j l e d = sym (rises_is x z i l) ∙ R.before_trans p op x y z i.0 j.0 l.0 (rises_is x y i j ∙ e) (rises_is y z j l ∙ d)

  pub rises_total : (x y : ℕ) → Through x → Through y → x ≢ y → rises x y ≡ false → rises y x ≡ true
  rises_total x y i j ne e = sym (rises_is y x j i) ∙ R.before_total p op x y i.0 j.0 ne (rises_is x y i j ∙ e)

  renewed_rises : Pairwise (λ i j. rises i j ≡ true) (renewed C S s.active p)
  unfolding renewed
  renewed_rises =
      sort_sorted rises Through rises_trans rises_total (goers ++ comers) through comes_once

  renewed_line : Pairwise (λ i j. before p i j ≡ true) (renewed C S s.active p)
  renewed_line =
      pairwise_map (λ i j. rises i j ≡ true) (λ i j. before p i j ≡ true) (renewed C S s.active p)
      (λ i j x y e. rises_is i j (renewed_through i x) (renewed_through j y) ∙ e) renewed_rises

  -- any list of these pieces by slope and number is the renewed block, in whatever order they were put in
  pub renewed_alone : (l : List ℕ) → Pairwise (λ i j. rises i j ≡ true) l → ((i : ℕ) → In i l → In i (goers ++ comers)) → ((i : ℕ) → In i (goers ++ comers) → In i l) → l ≡ renewed C S s.active p
  unfolding renewed
  renewed_alone l u f g =
      sorted_same rises Through (λ i t. sym (rises_is i i t t) ∙ R.before_irr p i) rises_trans l (sort rises (goers ++ comers))
      (λ i m. through i (f i m)) u renewed_rises (λ i m. sort_in rises (f i m)) (λ i m. g i (sort_out rises (goers ++ comers) m))

  pub renewed_once : Pairwise (λ i j. i ≢ j) (renewed C S s.active p)
  unfolding renewed
  renewed_once = sort_once rises (goers ++ comers) comes_once

  -- ---- all of it in order
  abbrev Calm : ℕ → ℕ → Type 0
  Calm = Steady C S G A s I p hp

  calm : (i j : ℕ) → Act C key p i → Act C key p j → ¬ (aside p i ≡ Equal) → Calm i j → before p i j ≡ true
  calm i j x y ne h = h (act_under i x).2 (act_under j y).2 (λ d. ne d.0)

  off_line : (l : List ℕ) → ((i : ℕ) → In i l → Act C key p i × ¬ (aside p i ≡ Equal)) → Pairwise Calm l → Pairwise (λ i j. before p i j ≡ true) l
  off_line l f u = pairwise_map Calm (λ i j. before p i j ≡ true) l (λ i j x y h. calm i j (f i x).0 (f j y).0 (f i x).1 h) u

  abbrev b : List ℕ
  b = below C S s.active p

  abbrev k : List ℕ
  k = block C S s.active p

  abbrev a : List ℕ
  a = above C S s.active p

  abbrev r : List ℕ
  r = renewed C S s.active p

  steadily : Pairwise Calm (b ++ (k ++ a))
  steadily = rw (← parts C S G A s I p hp) (pairwise_map _ Calm s.active (λ i j x y h. h.1) (onward C S G A s I p hp))

  below_off : (i : ℕ) → In i b → Act C key p i × ¬ (aside p i ≡ Equal)
  below_off i m = (below_act i m, λ e. let z : ◌≡◌ {A = ℕ} 0 1 = cc (below_out i m).1 in absurd (omega arith))

  above_off : (i : ℕ) → In i a → Act C key p i × ¬ (aside p i ≡ Equal)
  above_off i m = (above_act i m, λ e. let z : ◌≡◌ {A = ℕ} 0 1 = cc (above_out i m).1 in absurd (omega arith))

  replaced_line : Pairwise (λ i j. before p i j ≡ true) (b ++ (r ++ a))
  replaced_line =
      pairwise_append (λ i j. before p i j ≡ true) b (r ++ a)
      (off_line b below_off (pairwise_left Calm b (k ++ a) steadily))
      (pairwise_append (λ i j. before p i j ≡ true) r a renewed_line
      (off_line a above_off (pairwise_right Calm k a (pairwise_right Calm b (k ++ a) steadily)))
      (λ i j x y. let t = renewed_through i x in A.above_last p op i j (act_under i t.0) (act_under j (above_act j y)) (ranked_on C G t.1) (above_out j y).1))
      (λ i j x y.
      ⊎_elim
      (λ (h : In j r). let t = renewed_through j h in A.below_first p op i j (act_under i (below_act i x)) (act_under j t.0) (below_out i x).1 (ranked_on C G t.1))
      (λ (h : In j a).
      calm i j (below_act i x) (above_act j h) (below_off i x).1 (pairwise_across Calm b (k ++ a) steadily x (Memᴰ.append_right k h)))
      (Memᴰ.append_cases r y))

  replaced_act : (i : ℕ) → In i (b ++ (r ++ a)) → Act C key p i
  replaced_act i m =
      ⊎_elim
      (λ (h : In i b). below_act i h)
      (λ (h : In i (r ++ a)). ⊎_elim (λ (g : In i r). (renewed_through i g).0) (λ (g : In i a). above_act i g) (Memᴰ.append_cases r h))
      (Memᴰ.append_cases b m)

  -- whoever goes on or starts stands in one of the three parts
  member_replaced : (i : ℕ) → In i (stayers C R s I p hp ++ starters C R s I p hp) → In i (b ++ (r ++ a))
  unfolding renewed
  member_replaced i m = ⊎_elim stays comes (Memᴰ.append_cases (stayers C R s I p hp) m)
    where
      stays : In i (stayers C R s I p hp) → In i (b ++ (r ++ a))
      stays h =
          let t = keep_out (λ i. not (finishes C p i)) s.active h in
          ⊎_elim
          (λ (g : In i b). Memᴰ.append_left (r ++ a) g)
          (λ (g : In i (k ++ a)).
          Memᴰ.append_right b
          (⊎_elim
          (λ (g : In i k). Memᴰ.append_left a (sort_in rises (Memᴰ.append_left comers (keep_in (λ i. not (finishes C p i)) g t.1))))
          (λ (g : In i a). Memᴰ.append_right r g)
          (Memᴰ.append_cases k g)))
          (Memᴰ.append_cases b (rw (parts C S G A s I p hp) at t.0))

      comes : In i (starters C R s I p hp) → In i (b ++ (r ++ a))
      comes h = Memᴰ.append_right b (Memᴰ.append_left a (sort_in rises (Memᴰ.append_right goers h)))

  pub same_active : ranged C s.active p ≡ replaced C S s.active p
  unfolding ranged replaced
  same_active =
      sorted_same (before p) (Act C key p) (λ i x. R.before_irr p i) (R.before_trans p op)
      (sort (before p) (stayers C R s I p hp ++ starters C R s I p hp)) (b ++ (r ++ a))
      (λ i m. member_act C R s I p hp i (sort_out (before p) (stayers C R s I p hp ++ starters C R s I p hp) m))
      (sorted_line C R p op (stayers C R s I p hp ++ starters C R s I p hp) (member_act C R s I p hp) (act_member C R s I p hp) (members_once C R s I p hp))
      replaced_line
      (λ i m. member_replaced i (sort_out (before p) (stayers C R s I p hp ++ starters C R s I p hp) m))
      (λ i m. sort_in (before p) (act_member C R s I p hp i (replaced_act i m)))
