-- After a step the lanes stand beside the active pieces again.
use mathlib.Core.Path.{◌≡◌, sym, ap, subst, ◌∙◌}
use mathlib.Core.Logic.{◌⊎◌, inl, inr, ⊎_elim}
use mathlib.Core.Bool.{true, false, cond}
use mathlib.Core.Option.{some}
use mathlib.Core.List.{List, ◌++◌}
use Prim.Native.Nat.{ℕ, ◌+◌, ◌-◌, ◌≤◌, ◌<◌}
use native.Mathlib.Omega.{arith}
use borrow.Author.Tests.{ltb-true, ltb-false}
use lib.Dec.{ltb}
use lib.IntN.{ℤ}
use lib.ListN.{length, get_or, take, replicate}
use lib.Seq.{slice, length-take-le}
use Rattle.fractions.specs.Point.{point_order}
use Rattle.fractions.specs.declared.Point.{Point}
use Rattle.sweep.specs.Lists.{Pair}
use Rattle.sweep.specs.Chart.{Chart, at}
use Rattle.sweep.specs.Queue.{beyond}
use Rattle.sweep.specs.Geometry.{Geometry}
use Rattle.sweep.proofs.Tests.{ask}
use Rattle.sweep.proofs.Ranked.{ranked}
use Rattle.sweep.proofs.Between.{Lined}
use Rattle.sweep_geometry.specs.Demand.{AllProper}
use Rattle.ported_pieces.specs.Table.{piece_in}
use Rattle.full_steps.specs.Steps.{State, next}
use Rattle.full_steps.specs.InPlace.{Sides, InPlaceFacts, below, block, above, renewed, lane}
use Rattle.full_steps.proofs.Step.{Inv}
use Rattle.full_steps.proofs.Sides.{parts}
use Rattle.full_steps.proofs.Placed.{whole_length}
use Rattle.full_order.specs.Finer.{finer, sides_of}
use Rattle.full_lanes.specs.Lanes.{no_key, keyed, pair_at, steeper, lane_by_slope, examined}
use Rattle.full_lanes.specs.Demand.{Beside}
use Rattle.full_lanes.proofs.Laning.{lane_any, examined_two, examined_last}
use Rattle.full_lanes.proofs.Steeper.{slope_enough}
use Rattle.full_step.specs.Whole.{outer_examined}
use Rattle.full_step.proofs.Relaned.{at_below, at_lower, at_inside, at_upper, at_above}
use Rattle.full_step.proofs.Staying.{pair_front, pair_left, pair_right, stays_below, none_inside, stays_above}

order_of : (x y : ℕ) → (x < y) ⊎ ((x ≡ y) ⊎ (y < x))
order_of x y =
    ⊎_elim
    (λ (t : ltb x y ≡ true). inl (ltb-true x y t))
    (λ (t : ltb x y ≡ false).
    let h = ltb-false x y t in
    ⊎_elim (λ (u : ltb y x ≡ true). inr (inr (ltb-true y x u))) (λ (u : ltb y x ≡ false). inr (inl (let g = ltb-false y x u in omega arith))) (ask (ltb y x)))
    (ask (ltb x y))

module _ (n : ℕ) (table : List ℤ) (ok : AllProper n (piece_in table)) where
  abbrev C : Chart
  C = finer n (piece_in table)

  abbrev S : Sides C
  S = sides_of n (piece_in table)

  -- a lane beyond a point is one beyond its lowest terms
  rough_lane : (p rough : Point) → ((c : Point) → point_order rough c ≡ point_order p c) → (q : Pair) → lane C (some rough) q ≡ lane C (some p) q
  unfolding lane beyond
  rough_lane p rough same q = rw (same (at C q))

  module _ (G : Geometry C) (A : InPlaceFacts C S G) (s : State C) (I : Inv C (ranked C G) s) (p : Point) (hp : next C s ≡ some p) where
    abbrev b : List ℕ
    b = below C S s.active p

    abbrev k : List ℕ
    k = block C S s.active p

    abbrev a : List ℕ
    a = above C S s.active p

    abbrev r : List ℕ
    r = renewed C S s.active p

    abbrev lo : ℕ
    lo = length b

    abbrev hi : ℕ
    hi = length b + length k

    abbrev m : ℕ
    m = length r

    module _ (active lanes : List ℕ) (live : ℕ) (holds : take live active ≡ s.active) (B : Beside n table s.last active lanes live)
        (rough : Point) (same : (c : Point) → point_order rough c ≡ point_order p c)
        (active' lanes' : List ℕ) (count : ℕ) (fits : count ≤ length active') (fits_too : count ≤ length lanes') (count_is : count ≡ lo + m + (live - hi))
        (holds' : take count active' ≡ b ++ (r ++ a)) (lined : Lined C (ranked C G) (take count active') (some p))
        (is : take count lanes' ≡ outer_examined table active' count lo m rough (take lo lanes ++ (replicate m no_key ++ slice hi live lanes))) where
      lived : live ≡ hi + length a
      lived = sym (length-take-le live active B.places) ∙ ap length holds ∙ whole_length C S G A s I p hp

      counted : count ≡ lo + (m + length a)
      counted = omega (arith, lived)

      -- what is to be shown of a place
      abbrev Right : ℕ → Type 0
      Right i = get_or lanes' i 0 ≡ keyed (lane C (some p) (pair_at active' i))

      old_pair : (i : ℕ) → i + 1 < live → pair_at active i ≡ pair_at (b ++ (k ++ a)) i
      old_pair i h = sym (pair_front live active i h) ∙ ap (λ (l : List ℕ). pair_at l i) (holds ∙ parts C S G A s I p hp)

      new_pair : (i : ℕ) → i + 1 < count → pair_at active' i ≡ pair_at (b ++ (r ++ a)) i
      new_pair i h = sym (pair_front count active' i h) ∙ ap (λ (l : List ℕ). pair_at l i) holds'

      right_below : (i : ℕ) → i + 1 < lo → Right i
      right_below i h =
          at_below table active' lanes lanes' live lo hi m count rough (omega arith) (omega (arith, lived)) B.room count_is is i h
          ∙ B.lanes_are i (omega (arith, lived))
          ∙ ap keyed
          (ap (lane C s.last) (old_pair i (omega (arith, lived)) ∙ pair_left b (k ++ a) i h)
          ∙ sym (stays_below C S G A s I p hp i h)
          ∙ ap (lane C (some p)) (sym (new_pair i (omega (arith, counted)) ∙ pair_left b (r ++ a) i h)))

      right_inside : (j : ℕ) → j + 1 < m → Right (lo + j)
      right_inside j h =
          at_inside table active' lanes lanes' live lo hi m count rough (omega arith) (omega (arith, lived)) B.room count_is is j h
          ∙ ap keyed
          (sym (none_inside C S G A s I p hp j h)
          ∙ ap (lane C (some p)) (sym (new_pair (lo + j) (omega (arith, counted)) ∙ pair_right b (r ++ a) j ∙ pair_left r a j h)))

      right_above : (j : ℕ) → j + 1 < length a → Right (lo + (m + j))
      right_above j h =
          let e : hi + j ≡ lo + (length k + j) = omega arith in
          at_above table active' lanes lanes' live lo hi m count rough (omega arith) (omega (arith, lived)) B.room count_is is j (omega (arith, lived))
          ∙ B.lanes_are (hi + j) (omega (arith, lived))
          ∙ ap keyed
          (ap (lane C s.last)
          (old_pair (hi + j) (omega (arith, lived)) ∙ ap (pair_at (b ++ (k ++ a))) e ∙ pair_right b (k ++ a) (length k + j) ∙ pair_right k a j)
          ∙ sym (stays_above C S G A s I p hp j h)
          ∙ ap (lane C (some p)) (sym (new_pair (lo + (m + j)) (omega (arith, counted)) ∙ pair_right b (r ++ a) (m + j) ∙ pair_right r a j)))

      -- a place that is examined
      right_examined : (i : ℕ) → i + 1 < count → get_or lanes' i 0 ≡ examined table active' count i rough → Right i
      unfolding pair_at lane_by_slope
      right_examined i h e =
          e ∙ sym (examined_two table active' count i rough h)
          ∙ ap (λ (v : ℕ). cond (steeper table (get_or active' i 0) (get_or active' (i + 1) 0)) v no_key) (ap keyed (lane_any n table rough _ ∙ rough_lane p rough same _))
          ∙ slope_enough n table ok G active' count fits p lined i h

      right : (i : ℕ) → i + 1 < count → Right i
      right i h =
          ⊎_elim
          (λ (g : i + 1 < lo). right_below i g)
          (⊎_elim
          (λ (g : i + 1 ≡ lo).
          right_examined i h (at_lower table active' lanes lanes' live lo hi m count rough (omega arith) (omega (arith, lived)) B.room count_is is i g))
          (λ (g : lo < i + 1).
          ⊎_elim
          (λ (f : i + 1 < lo + m). let e : lo + (i - lo) ≡ i = omega arith in subst Right e (right_inside (i - lo) (omega arith)))
          (⊎_elim
          (λ (f : i + 1 ≡ lo + m).
          right_examined i h (at_upper table active' lanes lanes' live lo hi m count rough (omega arith) (omega (arith, lived)) B.room count_is is i (omega arith) f))
          (λ (f : lo + m < i + 1). let e : lo + (m + (i - lo - m)) ≡ i = omega arith in subst Right e (right_above (i - lo - m) (omega (arith, counted)))))
          (order_of (i + 1) (lo + m))))
          (order_of (i + 1) lo)

      last_above : (i : ℕ) → i + 1 ≡ count → lo + m < i + 1 → get_or lanes' i 0 ≡ no_key
      last_above i h f =
          let e : lo + (m + (i - lo - m)) ≡ i = omega arith in
          ap (λ (z : ℕ). get_or lanes' z 0) (sym e)
          ∙ at_above table active' lanes lanes' live lo hi m count rough (omega arith) (omega (arith, lived)) B.room count_is is (i - lo - m) (omega (arith, lived, counted))
          ∙ B.end (hi + (i - lo - m)) (omega (arith, lived, counted))

      last_none : (i : ℕ) → i + 1 ≡ count → get_or lanes' i 0 ≡ no_key
      last_none i h =
          ⊎_elim
          (λ (g : i + 1 < lo). absurd (omega (arith, counted)))
          (⊎_elim
          (λ (g : i + 1 ≡ lo).
          at_lower table active' lanes lanes' live lo hi m count rough (omega arith) (omega (arith, lived)) B.room count_is is i g
          ∙ sym (examined_last table active' count i rough (omega arith)))
          (λ (g : lo < i + 1).
          ⊎_elim
          (λ (f : i + 1 < lo + m). absurd (omega (arith, counted)))
          (⊎_elim
          (λ (f : i + 1 ≡ lo + m).
          at_upper table active' lanes lanes' live lo hi m count rough (omega arith) (omega (arith, lived)) B.room count_is is i (omega arith) f
          ∙ sym (examined_last table active' count i rough (omega arith)))
          (λ (f : lo + m < i + 1). last_above i h f))
          (order_of (i + 1) (lo + m))))
          (order_of (i + 1) lo)

      pub beside_again : Beside n table (some p) active' lanes' count
      beside_again = record { room = fits_too; places = fits; lanes_are = right; end = last_none }
