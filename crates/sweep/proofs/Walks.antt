-- A walk, of whichever mode: step by step to the next point, as long as there is one. Its counts tell of the points visited.
use mathlib.Core.Path.{◌≡◌, refl, sym, ap, ◌∙◌}
use mathlib.Core.Logic.{⊎_elim, ◌↔◌}
use mathlib.Core.Bool.{true}
use mathlib.Core.Option.{Option, none, some}
use mathlib.Core.List.{List, [], ◌∷◌, ◌++◌, append-nil}
use Prim.Native.Nat.{ℕ, zero, suc}
use native.Mathlib.Omega.{arith}
use lib.ListN.{length, length-append}
use Rattle.sweep.specs.Lists.{Pair, last_of}
use Rattle.sweep.specs.Chart.{Chart}
use Rattle.sweep.specs.Run.{taken, is_none}
use Rattle.sweep.proofs.Tests.{clash}
use Rattle.sweep.proofs.Between.{which}

last_snoc : {A : Type 0} (l : List A) (p : A) → last_of (l ++ (p ∷ [])) ≡ some p
unfolding last_of
last_snoc [] p = refl
last_snoc (x ∷ []) p = refl
last_snoc (x ∷ y ∷ l) p = last_snoc (y ∷ l) p

module _ (C : Chart) where
  open C use {Point}

  pub is_none_true : (o : Option Point) → is_none C o ≡ true → o ≡ none
  unfolding is_none
  is_none_true none e = refl
  is_none_true (some p) e = clash e refl

  pub record Walk (S : Type 0) : Type 0 where
    pub run : ℕ → S
    pub visited : ℕ → List Point
    pub next : S → Option Point
    pub step : S → Point → S
    pub last : S → Option Point
    pub listed : S → List Pair
    pub steps : S → ℕ
    pub last_start : last (run 0) ≡ none
    pub listed_start : listed (run 0) ≡ []
    pub steps_start : steps (run 0) ≡ 0
    pub visited_start : visited 0 ≡ []
    pub run_none : (m : ℕ) → next (run m) ≡ none → run (suc m) ≡ run m
    pub run_some : (m : ℕ) (p : Point) → next (run m) ≡ some p → run (suc m) ≡ step (run m) p
    pub visited_more : (m : ℕ) → visited (suc m) ≡ visited m ++ taken C (next (run m))
    pub step_last : (s : S) (p : Point) → last (step s p) ≡ some p
    pub step_steps : (s : S) (p : Point) → steps (step s p) ≡ suc (steps s)

  module _ {S : Type 0} (W : Walk S) where
    open W use {run, visited, next, step, last, steps}

    pub visited_none : (m : ℕ) → next (run m) ≡ none → visited (suc m) ≡ visited m
    unfolding taken
    visited_none m e = W.visited_more m ∙ ap (λ (o : Option Point). visited m ++ taken C o) e ∙ append-nil (visited m)

    pub visited_some : (m : ℕ) (p : Point) → next (run m) ≡ some p → visited (suc m) ≡ visited m ++ (p ∷ [])
    unfolding taken
    visited_some m p e = W.visited_more m ∙ ap (λ (o : Option Point). visited m ++ taken C o) e

    -- steps are counted as points are visited
    pub walk_steps : (m : ℕ) → steps (run m) ≡ length (visited m)
    walk_steps zero = W.steps_start ∙ ap length (sym W.visited_start)
    walk_steps (suc m) =
        ⊎_elim
        (λ (e : next (run m) ≡ none). ap steps (W.run_none m e) ∙ walk_steps m ∙ ap length (sym (visited_none m e)))
        (λ (e : (p : Point) × (next (run m) ≡ some p)).
        let p : Point = e.0 in
        omega (
          arith,
          ap steps (W.run_some m p e.1) ∙ W.step_steps (run m) p,
          walk_steps m,
          ap length (visited_some m p e.1) ∙ length-append (visited m) (p ∷ []),
        ))
        (which (next (run m)))

    pub walk_last : (m : ℕ) → last (run m) ≡ last_of (visited m)
    unfolding last_of
    walk_last zero = W.last_start ∙ ap last_of (sym W.visited_start)
    walk_last (suc m) =
        ⊎_elim
        (λ (e : next (run m) ≡ none). ap last (W.run_none m e) ∙ walk_last m ∙ ap last_of (sym (visited_none m e)))
        (λ (e : (p : Point) × (next (run m) ≡ some p)).
        let p : Point = e.0 in
        ap last (W.run_some m p e.1) ∙ W.step_last (run m) p ∙ sym (ap last_of (visited_some m p e.1) ∙ last_snoc (visited m) p))
        (which (next (run m)))

    -- the queue is empty exactly where another step visits no more
    pub walk_ends : (m : ℕ) → (is_none C (next (run m)) ≡ true) ↔ (visited (suc m) ≡ visited m)
    walk_ends m = (
      λ h. visited_none m (is_none_true (next (run m)) h),
      λ h.
          ⊎_elim
          (λ (e : next (run m) ≡ none). unfold is_none in rw e)
          (λ (e : (p : Point) × (next (run m) ≡ some p)).
          absurd (omega (arith, ap length (sym h ∙ visited_some m e.0 e.1), length-append (visited m) (e.0 ∷ []))))
          (which (next (run m))),
    )
