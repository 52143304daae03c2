-- What holds of the arrays while a run of the new mode goes on: they are as after so many steps.
use mathlib.Core.Path.{◌≡◌, refl, sym, ap, subst, ◌∙◌}
use mathlib.Core.Logic.{◌⊎◌, inl, inr, ⊎_elim}
use mathlib.Core.Bool.{Bool, true, false, cond}
use mathlib.Core.List.Memᴰ
use mathlib.Core.List.{List, ◌++◌}
use mathlib.Core.Option as maybe
use mathlib.Core.Option.{none, some}
use Prim.Native.Nat.{ℕ, zero, suc, ◌+◌, ◌-◌, ◌*◌, ◌≤◌, ◌<◌}
use native.Mathlib.Nat.{suc-add, zero-add}
use native.Mathlib.Numerals.{add-one}
use native.Mathlib.Omega.{arith}
use borrow.Author.Tests.{ne_eqb, leb-true, leb-false}
use lib.Dec.{eqb, leb}
use lib.IntN.{ℤ}
use lib.ListN.{length}
use lib.Seq.{sets}
use Rattle.std.specs.Prelude.{Option, None, Some}
use Rattle.fractions.specs.Point.{lowest_of}
use Rattle.fractions.specs.declared.Point.{Point}
use Rattle.sweep.specs.Chart.{Chart}
use Rattle.sweep.specs.Queue.{beyond}
use Rattle.sweep.specs.Run.{is_none}
use Rattle.sweep.proofs.Tests.{ask}
use Rattle.sweep.proofs.Between.{which}
use Rattle.sweep.proofs.Least.{least_none}
use Rattle.ported_arrays.specs.Agreement.{flat}
use Rattle.full_steps.specs.Steps.{State, start, next, step, move, move_to, run, answer, answer_of}
use Rattle.full_ends.specs.Demand.{Split}
use Rattle.full_visit.specs.Carried.{chart}
use Rattle.full_visit.proofs.Carrying.{start_carried}
use Rattle.full_visit.proofs.Promises.{none_comes}
use Rattle.full_visit.proofs.Queue.{next_least, left, taken, end_next, end_next_in}
use Rattle.full_visit.specs.declared.Visited.{Visited}
use Rattle.full_visit.specs.Visit.{After, Visiting}
use Rattle.full_visit.proofs.Choosing.{known, count}
use Rattle.ported_run.specs.Last.{as_last}
use Rattle.full_run.specs.Running.{last_at, Begun, Stopped}

-- ---- a queue that is empty stays so
module _ (C : Chart) (m : ℕ) where
  idle : next C (run C m) ≡ none → (k : ℕ) → run C (k + m) ≡ run C m
  unfolding run move move_to
  idle e zero = rw (zero-add m)
  idle e (suc k) = rw (suc-add k m, idle e k, e)

  pub idle_to : next C (run C m) ≡ none → (k : ℕ) → m ≤ k → run C k ≡ run C m
  idle_to e k h = let f : k ≡ (k - m) + m = omega arith in ap (run C) f ∙ idle e (k - m)

  counts_one : (p : C.Point) → next C (run C m) ≡ some p → (run C (suc m)).steps ≡ suc (run C m).steps
  unfolding run move move_to step
  counts_one p e = rw e

-- ---- the queue is empty where all ends are passed, and only there
module _ {n : ℕ} {table : List ℤ} {lent : List ℕ} {m : ℕ} {ends : List ℕ} {passed : ℕ} {active lanes : List ℕ} {live : ℕ} {bytes : List ℕ} {end : ℕ}
    (a : After n table lent m ends passed active lanes live bytes end) where
  abbrev C : Chart
  C = chart n table

  pub none_left : length ends ≤ passed → next C (run C m) ≡ none
  none_left h =
      let e : passed ≡ 2 * n = omega (arith, count a, a.within) in
      none_comes n table m active lanes live (known a) (subst (λ (k : ℕ). Split n table (run C m).last k) e a.split)

  pub some_left : passed < length ends → (p : Point) × (next C (run C m) ≡ some p)
  some_left h = go (which (next C (run C m)))
    where
      g : passed < 2 * n
      g = omega (arith, count a)

      go : (next C (run C m) ≡ none) ⊎ ((p : Point) × (next C (run C m) ≡ some p)) → (p : Point) × (next C (run C m) ≡ some p)
      go (inl e) =
          absurd (least_none C (left (known a) ++ taken (known a)) (sym (next_least (known a)) ∙ e) (end_next (known a) a.split g)
          (Memᴰ.append_left (taken (known a)) (end_next_in (known a) a.split g)))
      go (inr r) = r

  pub ended_is : leb (length ends) passed ≡ is_none C (next C (run C m))
  unfolding is_none
  ended_is =
      ⊎_elim
      (λ (t : leb (length ends) passed ≡ true). rw (t, none_left (leb-true (length ends) passed t)))
      (λ (t : leb (length ends) passed ≡ false). rw (t, (some_left (leb-false (length ends) passed t)).1))
      (ask (leb (length ends) passed))

-- ---- the loop
abbrev pub last_of : ℕ → Point → maybe.Option Point
last_of steps p = cond (eqb steps 0) none (some (lowest_of p.x p.y p.d))

as_last_lem : (steps : ℕ) (p : Point) → last_at steps p ≡ as_last (last_of steps p)
as_last_lem steps p = go (eqb steps 0) (lowest_of p.x p.y p.d)
  where
    go : (b : Bool) (q : Point) → cond b None (Some q) ≡ as_last (cond b none (some q))
    go true q = refl
    go false q = refl

-- so many steps are done, and this is the last point
pub record Reached (n : ℕ) (table : List ℤ) (lent ends : List ℕ) (active lanes bytes : List ℕ) (passed live end steps : ℕ) (last : Point) : Type 0 where
  pub after : After n table lent steps ends passed active lanes live bytes end
  pub counts : (run (chart n table) steps).steps ≡ steps
  pub last_is : (run (chart n table) steps).last ≡ last_of steps last

pub record Going (table : List ℤ) (ends active₀ lanes₀ bytes₀ : List ℕ) (budget : ℕ) (active lanes bytes : List ℕ) (passed live end steps : ℕ) (last : Point) : Type 0 where
  pub spent : steps ≤ budget
  pub active_long : length active ≡ length active₀
  pub lanes_long : length lanes ≡ length lanes₀
  pub bytes_long : length bytes ≡ length bytes₀
  pub held : (n : ℕ) → Begun n table ends active₀ lanes₀ bytes₀ → Reached n table bytes₀ ends active lanes bytes passed live end steps last

pub begins : (table : List ℤ) (ends active lanes bytes : List ℕ) (budget : ℕ) (last : Point) → Going table ends active lanes bytes budget active lanes bytes 0 0 0 0 last
unfolding run start beyond
begins table ends active lanes bytes budget last =
    record {
      spent = omega arith;
      active_long = refl;
      lanes_long = refl;
      bytes_long = refl;
      held = λ n B.
          record {
            after =
                record {
                  given = B.given;
                  in_order = B.in_order;
                  within = omega arith;
                  split = record { behind = λ i h. absurd (omega arith); ahead = λ i h g. refl };
                  carried = start_carried n table active lanes bytes (omega (arith, B.given.few, B.actives)) (B.beside ∙ sym B.actives);
                };
            counts = refl;
            last_is = refl;
          };
    }

module _ {table : List ℤ} {ends active₀ lanes₀ bytes₀ : List ℕ} {budget : ℕ} {active lanes bytes : List ℕ} {passed live end steps : ℕ} {last : Point}
    (G : Going table ends active₀ lanes₀ bytes₀ budget active lanes bytes passed live end steps last) where
  -- a visit
  pub advances : steps < budget → passed < length ends → {active' lanes' bytes' : List ℕ} {r : Visited}
      → length active' ≡ length active → length lanes' ≡ length lanes → length bytes' ≡ length bytes
      → Visiting table ends passed active lanes live bytes end active' lanes' bytes' r
      → Going table ends active₀ lanes₀ bytes₀ budget active' lanes' bytes' r.passed r.live r.end (steps + 1) r.point
  advances h g {active'} {lanes'} {bytes'} {r} d e f does =
      record {
        spent = omega arith;
        active_long = d ∙ G.active_long;
        lanes_long = e ∙ G.lanes_long;
        bytes_long = f ∙ G.bytes_long;
        held = λ n B. rw (add-one steps) (on n (G.held n B));
      }
    where
      on : (n : ℕ) → Reached n table bytes₀ ends active lanes bytes passed live end steps last
          → Reached n table bytes₀ ends active' lanes' bytes' r.passed r.live r.end (suc steps) r.point
      on n R =
          let v = does n bytes₀ steps R.after in
          let p = some_left R.after g in
          record {
            after = v.0;
            counts = counts_one (chart n table) steps p.0 p.1 ∙ ap suc R.counts;
            last_is = rw (ne_eqb (suc steps) 0 (λ q. absurd (omega (arith, q)))) v.1;
          }

  -- where it stops
  pub stopped : (n : ℕ) → Begun n table ends active₀ lanes₀ bytes₀ → (budget ≤ steps) ⊎ (length ends ≤ passed)
      → {e : Bool} → e ≡ leb (length ends) passed → {l : Option Point} → l ≡ last_at steps last
      → Stopped n table budget bytes₀ (record { end = end; steps = steps; ended = e; last = l }) bytes
  unfolding answer answer_of
  stopped n B h {e} f {l} g =
      record {
        end_is = R.after.carried.end_is ∙ ap (λ (s : State (chart n table)). length (flat s.listed)) there;
        steps_are = sym R.counts ∙ ap (λ (s : State (chart n table)). s.steps) there;
        ended_is = f ∙ ended_is R.after ∙ ap (λ (s : State (chart n table)). is_none (chart n table) (next (chart n table) s)) there;
        last_is = g ∙ as_last_lem steps last ∙ ap as_last (sym R.last_is) ∙ ap (λ (s : State (chart n table)). as_last s.last) there;
        bytes_are = R.after.carried.bytes_are ∙ ap (λ (s : State (chart n table)). sets bytes₀ 0 (flat s.listed)) there;
      }
    where
      R : Reached n table bytes₀ ends active lanes bytes passed live end steps last
      R = G.held n B

      there : run (chart n table) steps ≡ run (chart n table) budget
      there =
          ⊎_elim
          (λ (u : budget ≤ steps). let q : steps ≡ budget = omega (arith, G.spent) in ap (run (chart n table)) q)
          (λ (u : length ends ≤ passed). sym (idle_to (chart n table) steps (none_left R.after u) budget G.spent))
          h
