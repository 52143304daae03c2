-- A walk that takes the least point that is left, and lists the pairs that meet first there, visits the points in order
-- and lists point by point: the strong statement, of whichever mode.
use mathlib.Core.Path.{◌≡◌, refl, sym, ap, ◌∙◌}
use mathlib.Core.Logic.{⊎_elim}
use mathlib.Core.Option.{none, some}
use mathlib.Core.List.{List, [], ◌∷◌, ◌++◌, append_assoc, append-nil}
use Prim.Native.Nat.{ℕ, zero, suc, ◌<◌}
use native.Mathlib.Omega.{arith}
use lib.ListN.{length, take, length-append, length-take}
use lib.Seq.{take_all}
use Rattle.sweep.specs.Lists.{Pair}
use Rattle.sweep.specs.Chart.{Chart}
use Rattle.sweep.specs.Sought.{points, pairs_at, pairs_along}
use Rattle.sweep.specs.Geometry.{Occurs}
use Rattle.sweep.proofs.Tests.{ltb_no}
use Rattle.sweep.proofs.Lists.{keep_none}
use Rattle.sweep.proofs.Ranked.{Ranked}
use Rattle.sweep.proofs.Between.{which, bound, bound_none, bound_some, Soonest}
use Rattle.sweep.proofs.Walks.{Walk, visited_none, visited_some}
use Rattle.sweep.proofs.Ascending.{points_in, points_out, points_up, below, below_take, below_more, below_all}

module _ (C : Chart) where
  open C use {Point}

  pub along_append : (l m : List Point) → pairs_along C (l ++ m) ≡ pairs_along C l ++ pairs_along C m
  unfolding pairs_along
  along_append [] m = refl
  along_append (q ∷ l) m = rw (along_append l m) (sym (append_assoc (pairs_at C q) (pairs_along C l) (pairs_along C m)))

  along_snoc : (l : List Point) (p : Point) → pairs_along C (l ++ (p ∷ [])) ≡ pairs_along C l ++ pairs_at C p
  unfolding pairs_along
  along_snoc l p = along_append l (p ∷ []) ∙ ap (λ (z : List Pair). pairs_along C l ++ z) (append-nil (pairs_at C p))

  module _ (F : Ranked C) where
    open F.keyed use {key}

    -- what a mode keeps between steps, and what this says of the next one
    pub record Keeps {S : Type 0} (W : Walk C S) : Type 1 where
      pub Inv : S → Type 0
      pub at_start : Inv (W.run 0)
      pub after_step : (s : S) → Inv s → (p : Point) → W.next s ≡ some p → Inv (W.step s p)
      pub soonest : (s : S) → Inv s → (p : Point) → W.next s ≡ some p → Soonest C F (W.last s) p
      pub nothing_left : (s : S) → Inv s → W.next s ≡ none → (x : Point) → Occurs C x → key x < bound key (W.last s)
      pub lists_there : (s : S) → Inv s → (p : Point) → W.next s ≡ some p → W.listed (W.step s p) ≡ W.listed s ++ pairs_at C p

    module _ {S : Type 0} (W : Walk C S) (K : Keeps W) where
      open W use {run, visited, next, step, last, listed}

      -- v being the points that it has visited
      record Kept (s : S) (v : List Point) : Type 0 where
        inv : K.Inv s
        visited_is : v ≡ below C F (bound key (last s)) (points C)
        listed_is : listed s ≡ pairs_along C v

      kept_start : Kept (run 0) (visited 0)
      unfolding pairs_along
      kept_start =
          record {
            inv = K.at_start;
            visited_is =
                W.visited_start
                ∙ sym (keep_none _ (points C) (λ x m. ltb_no (key x) (bound key (last (run 0))) (omega (arith, ap (bound key) W.last_start, bound_none key))));
            listed_is = W.listed_start ∙ ap (pairs_along C) (sym W.visited_start);
          }

      -- a step takes the least point that is left
      kept_step : (s : S) (v : List Point) → Kept s v → (p : Point) → next s ≡ some p → Kept (step s p) (v ++ (p ∷ []))
      kept_step s v k p hp =
          let N = K.soonest s k.inv p hp in
          record {
            inv = K.after_step s k.inv p hp;
            visited_is =
                rw (k.visited_is, ap (bound key) (W.step_last s p) ∙ bound_some key p)
                (sym (below_more C F (bound key (last s)) p (points C) (points_up C F) (points_in C F N.occurs) N.new (λ x m b. N.least x (points_out C F m) b)));
            listed_is = K.lists_there s k.inv p hp ∙ rw k.listed_is (sym (along_snoc v p));
          }

      -- where the queue is empty, all points are visited
      kept_end : (s : S) (v : List Point) → Kept s v → next s ≡ none → v ≡ points C
      kept_end s v k e = k.visited_is ∙ below_all C F (bound key (last s)) (points C) (λ x m. K.nothing_left s k.inv e x (points_out C F m))

      kept_take : (s : S) (v : List Point) → Kept s v → v ≡ take (length v) (points C)
      kept_take s v k =
          k.visited_is ∙ below_take C F (bound key (last s)) (points C) (points_up C F) ∙ ap (λ (z : ℕ). take z (points C)) (sym (ap length k.visited_is))

      kept_run : (m : ℕ) → Kept (run m) (visited m)
      kept_run zero = kept_start
      kept_run (suc m) =
          ⊎_elim
          (λ (e : next (run m) ≡ none). rw (W.run_none m e, visited_none C W m e) (kept_run m))
          (λ (e : (p : Point) × (next (run m) ≡ some p)).
          rw (W.run_some m e.0 e.1, visited_some C W m e.0 e.1) (kept_step (run m) (visited m) (kept_run m) e.0 e.1))
          (which (next (run m)))

      pub walk_inv : (m : ℕ) → K.Inv (run m)
      walk_inv m = (kept_run m).inv

      pub walk_visits : (m : ℕ) → visited m ≡ take m (points C)
      walk_visits zero = W.visited_start
      walk_visits (suc m) =
          let h = walk_visits m in
          ⊎_elim
          (λ (e : next (run m) ≡ none).
          let d : visited m ≡ points C = kept_end (run m) (visited m) (kept_run m) e in
          visited_none C W m e ∙ d ∙ sym (take_all (suc m) (points C) (omega (arith, ap length h, ap length d, length-take m (points C)))))
          (λ (e : (p : Point) × (next (run m) ≡ some p)).
          let t = kept_take (run (suc m)) (visited (suc m)) (kept_run (suc m)) in
          let a = ap length (visited_some C W m e.0 e.1) ∙ length-append (visited m) (e.0 ∷ []) in
          let l : length (visited (suc m)) ≡ suc m = omega (arith, ap length h, ap length t, length-take m (points C), length-take (length (visited (suc m))) (points C)) in
          t ∙ ap (λ (z : ℕ). take z (points C)) l)
          (which (next (run m)))

      pub walk_lists : (m : ℕ) → listed (run m) ≡ pairs_along C (take m (points C))
      walk_lists m = (kept_run m).listed_is ∙ ap (pairs_along C) (walk_visits m)
