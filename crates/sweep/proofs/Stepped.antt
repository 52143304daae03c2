-- One step of the ported mode keeps what holds between steps, and lists the pairs that meet first at its point.
use mathlib.Core.Path.{◌≡◌, ◌∙◌}
use mathlib.Core.Logic.{◌⊎◌, inl, inr, ⊎_elim, ◌≢◌}
use mathlib.Core.Bool.{true, false, ◌&&◌, ◌||◌, not}
use mathlib.Core.Option.{some}
use mathlib.Core.List.Memᴰ
use mathlib.Core.List.{List, ◌++◌}
use mathlib.Core.List.{Memᴰ as In}
use Prim.Native.Nat.{ℕ, ◌≤◌}
use native.Mathlib.Omega.{arith}
use Rattle.sweep.specs.Lists.{Pair, adjacent, Pairwise}
use Rattle.sweep.specs.Chart.{Chart}
use Rattle.sweep.specs.State.{Marks, State}
use Rattle.sweep.specs.Queue.{next}
use Rattle.sweep.specs.Step.{each, starts, finishes, turns, reported, examine, stay, enter, ranged, examined, step}
use Rattle.sweep.specs.Sought.{pairs_at}
use Rattle.sweep.specs.Geometry.{Occurs}
use Rattle.sweep.specs.Demand.{Pieces}
use Rattle.sweep.proofs.Tests.{ask, clash, or_left, or_right}
use Rattle.sweep.proofs.Lists.{keep_in, pairwise_append}
use Rattle.sweep.proofs.Pairs.{upto_in}
use Rattle.sweep.proofs.Active.{stay_out, enter_out, stay_once, enter_once}
use Rattle.sweep.proofs.Occurring.{adjacent_two, max_occurs}
use Rattle.sweep.proofs.Ranked.{Act, Ranked, same_false}
use Rattle.sweep.proofs.Between.{bound, Soonest}
use Rattle.sweep.proofs.Soonest.{goes_on, starts_act, act_late, act_cases, starts_apart}
use Rattle.sweep.proofs.Lining.{sorted_act, sorted_once, sorted_lined}
use Rattle.sweep.proofs.Marked.{Inv}
use Rattle.sweep.proofs.Next.{next_soonest, turns_on}
use Rattle.sweep.proofs.Reported.{reported_good, reported_listed}
use Rattle.sweep.proofs.Examined.{Begun, After, examined_after}

module _ (C : Chart) (F : Ranked C) (s : State C) (I : Inv C F s) (p : C.Point) (hp : next C s ≡ some p) where
  open C use {n, min, max}
  open F.keyed use {key}

  N : Soonest C F s.last p
  N = next_soonest C F s I p hp

  op : Occurs C p
  op = N.occurs

  stay_act : (i : ℕ) → In i (stay C s p) → Act C key p i
  stay_act i m = let r = stay_out C s p i m in goes_on C F s.active s.last I.lined p N i r.0 r.1

  enter_act : (i : ℕ) → In i (enter C s p) → Act C key p i
  unfolding finishes
  enter_act i m =
      let r = enter_out C s p i m in
      let ne = same_false C F.keyed (max i) p (max_occurs C i r.0) op r.2 in
      ⊎_elim
      (λ (e : starts C p i ≡ true). starts_act C F s.active s.last I.lined p N i r.0 e)
      (λ (e : turns C s p i ≡ true). let o = F.on_range i p r.0 op (turns_on C F s I p hp i e) in (r.0, omega arith, omega arith))
      r.1

  act : (i : ℕ) → In i (stay C s p ++ enter C s p) → Act C key p i
  act i m = ⊎_elim (λ h. stay_act i h) (λ h. enter_act i h) (Memᴰ.append_cases (stay C s p) m)

  -- every piece that has begun by p and reaches beyond it stays or enters
  act_in : (i : ℕ) → Act C key p i → In i (stay C s p ++ enter C s p)
  act_in i a = go (act_cases C F s.active s.last I.lined p N i a) (ask (turns C s p i))
    where
      late : finishes C p i ≡ false
      late = act_late C F s.active s.last I.lined p N i a

      enters : (starts C p i || turns C s p i) ≡ true → In i (stay C s p ++ enter C s p)
      enters e = Memᴰ.append_right (stay C s p) (unfold enter in keep_in (λ j. (starts C p j || turns C s p j) && not (finishes C p j)) (upto_in n i a.0) (rw (e, late)))

      go : (starts C p i ≡ true) ⊎ In i s.active → (turns C s p i ≡ true) ⊎ (turns C s p i ≡ false) → In i (stay C s p ++ enter C s p)
      go (inl e) t = enters (or_left (starts C p i) (turns C s p i) e)
      go (inr m) (inl e) = enters (or_right (starts C p i) (turns C s p i) e)
      go (inr m) (inr e) = Memᴰ.append_left {s = stay C s p} _ (unfold stay in keep_in (λ j. not (finishes C p j || turns C s p j)) m (rw (late, e)))

  -- whoever enters was not active, or has just left
  apart : (i j : ℕ) → In i (stay C s p) → In j (enter C s p) → i ≢ j
  apart i j a b e =
      let r = stay_out C s p i a in
      let t = enter_out C s p j b in
      ⊎_elim
      (λ (h : starts C p j ≡ true). starts_apart C F s.active s.last I.lined p N i j r.0 t.0 h e)
      (λ (h : turns C s p j ≡ true). clash (rw e h) r.2)
      t.1

  once : Pairwise (λ i j. i ≢ j) (stay C s p ++ enter C s p)
  once = pairwise_append (λ i j. i ≢ j) (stay C s p) (enter C s p) (stay_once C s p I.lined.once) (enter_once C s p) apart

  adjacent_ok : (l : List ℕ) → ((i : ℕ) → In i l → Act C key p i) → Pairwise (λ i j. i ≢ j) l → (q : Pair) → In q (adjacent l) → Pieces C q × Begun C F p op q
  adjacent_ok l f d q m = adjacent_two C (λ i. key (min i) ≤ key p) l (λ i h. let a = f i h in (a.0, a.1)) d q m

  abbrev once_looked : Marks
  once_looked = each (examine C p) (adjacent (stay C s p)) (reported C s p)

  first_look : After C F p op (adjacent (stay C s p)) (reported C s p) once_looked
  first_look = examined_after C F p op (adjacent (stay C s p)) (reported C s p) (reported_good C s p F I hp) (adjacent_ok (stay C s p) stay_act (stay_once C s p I.lined.once))

  second_look : After C F p op (adjacent (ranged C s p)) once_looked (examined C s p)
  unfolding examined ranged
  second_look =
      examined_after C F p op (adjacent (ranged C s p)) once_looked first_look.good
      (adjacent_ok (ranged C s p) (sorted_act C F p op (stay C s p ++ enter C s p) act act_in once) (sorted_once C F p op (stay C s p ++ enter C s p) act act_in once))

  pub step_inv : Inv C F (step C s p)
  unfolding step bound ranged
  step_inv =
      record {
        lined = sorted_lined C F p op (stay C s p ++ enter C s p) act act_in once;
        good = second_look.good;
        known = second_look.known;
      }

  pub step_listed : (step C s p).marks.listed ≡ s.marks.listed ++ pairs_at C p
  unfolding step
  step_listed = second_look.same_list ∙ first_look.same_list ∙ reported_listed C s p F I hp
