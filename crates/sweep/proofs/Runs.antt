-- What holds of every run, whatever the geometry: runs add up, a step only adds to the list, and counts itself.
use mathlib.Core.Path.{◌≡◌, refl, sym, ap, ◌∙◌}
use mathlib.Core.Bool.{Bool, true, false, cond, ◌&&◌, ◌||◌, not}
use mathlib.Core.Option.{Option, none, some}
use mathlib.Core.List.{List, [], ◌∷◌, ◌++◌, append_assoc, append-nil}
use Prim.Native.Nat.{ℕ, zero, suc, ◌+◌, ◌-◌}
use native.Mathlib.Omega.{arith}
use native.Mathlib.Nat.{add-zero, add-suc}
use lib.ListN.{length}
use Rattle.sweep.specs.Lists.{Pair, among}
use Rattle.sweep.specs.Chart.{Kind, nothing, crosses, overlaps, Chart, meets, kind, at}
use Rattle.sweep.specs.State.{Marks, State, start}
use Rattle.sweep.specs.Queue.{next}
use Rattle.sweep.specs.Step.{list, wait, each, report, drop, reported, examine_free, examine, examined, step}
use Rattle.sweep.specs.Run.{move_to, move, onwards, run, visited, answer_of, answer}
use Rattle.sweep.specs.Demand.{ported_run, RunsOn, ListsOn, Tells}
use Rattle.sweep.proofs.Walks.{Walk, walk_steps, walk_last, walk_ends}

-- the second list begins with the first
record Begins (l m : List Pair) : Type 0 where
  more : List Pair
  is : m ≡ l ++ more

begins_same : (l : List Pair) → Begins l l
begins_same l = record { more = []; is = sym (append-nil l) }

begins_trans : {a b c : List Pair} → Begins a b → Begins b c → Begins a c
begins_trans {a} x y =
    record { more = x.more ++ y.more; is = y.is ∙ ap (λ (z : List Pair). z ++ y.more) x.is ∙ append_assoc a x.more y.more }

-- marks that only add to the list
abbrev Adds : Marks → Marks → Type 0
Adds m e = Begins m.listed e.listed

list_adds : (q : Pair) (m : Marks) → Adds m (list q m)
unfolding list
list_adds q m = record { more = q ∷ []; is = refl }

cond_adds : (b : Bool) (m d e : Marks) → Adds m d → Adds m e → Adds m (cond b d e)
cond_adds true m d e x y = x
cond_adds false m d e x y = y

each_adds : (f : Pair → Marks → Marks) → ((q : Pair) (m : Marks) → Adds m (f q m)) → (l : List Pair) (m : Marks) → Adds m (each f l m)
unfolding each
each_adds f h [] m = begins_same m.listed
each_adds f h (q ∷ l) m = begins_trans (h q m) (each_adds f h l (f q m))

module _ (C : Chart) where
  open C use {Point, less}

  report_adds : (q : Pair) (m : Marks) → Adds m (report C q m)
  unfolding report
  report_adds q m = cond_adds (not (among q m.listed) && meets (kind C q)) m (list q m) m (list_adds q m) (begins_same m.listed)

  wait_adds : (q : Pair) (m : Marks) → Adds m (wait C q m)
  unfolding wait
  wait_adds q m = begins_same m.listed

  free_adds : (p : Point) (k : Kind) (q : Pair) (m : Marks) → Adds m (examine_free C p k q m)
  unfolding examine_free
  free_adds p nothing q m = begins_same m.listed
  free_adds p overlaps q m = list_adds q m
  free_adds p crosses q m = cond_adds (less p (at C q)) m (wait C q m) (list q m) (wait_adds q m) (list_adds q m)

  examine_adds : (p : Point) (q : Pair) (m : Marks) → Adds m (examine C p q m)
  unfolding examine
  examine_adds p q m =
      cond_adds (among q m.listed || among q m.waiting) m m (examine_free C p (kind C q) q m) (begins_same m.listed) (free_adds p (kind C q) q m)

  step_adds : (s : State C) (p : Point) → Adds s.marks (step C s p).marks
  unfolding step examined reported drop
  step_adds s p =
      begins_trans (each_adds (report C) report_adds _ s.marks)
      (begins_trans (each_adds (examine C p) (examine_adds p) _ (reported C s p))
      (each_adds (examine C p) (examine_adds p) _ _))

  move_adds : (s : State C) (o : Option Point) → Adds s.marks (move_to C s o).marks
  unfolding move_to
  move_adds s none = begins_same s.marks.listed
  move_adds s (some p) = step_adds s p

  pub runs_on : RunsOn C
  unfolding run onwards
  runs_on a zero = rw (add-zero a)
  runs_on a (suc b) = rw (add-suc a b) (ap (move C) (runs_on a b))

  onwards_adds : (s : State C) (b : ℕ) → Adds s.marks (onwards C b s).marks
  unfolding onwards move
  onwards_adds s zero = begins_same s.marks.listed
  onwards_adds s (suc b) = begins_trans (onwards_adds s b) (move_adds (onwards C b s) (next C (onwards C b s)))

  pub lists_on : ListsOn C (ported_run C)
  unfolding answer answer_of
  lists_on a b h =
      let c : ℕ = b - a in
      let e : b ≡ a + c = omega arith in
      let r = onwards_adds (run C a) c in
      (r.more, ap (λ (z : State C). z.marks.listed) (ap (run C) e ∙ runs_on a c) ∙ r.is)

  -- the ported mode's run is a walk
  unfoldable pub walk : Walk C (State C)
  unfolding run onwards move move_to visited start step
  walk =
      record {
        run = run C;
        visited = visited C;
        next = next C;
        step = step C;
        last = λ s. s.last;
        listed = λ s. s.marks.listed;
        steps = λ s. s.steps;
        last_start = refl;
        listed_start = refl;
        steps_start = refl;
        visited_start = refl;
        run_none = λ m e. ap (move_to C (run C m)) e;
        run_some = λ m p e. ap (move_to C (run C m)) e;
        visited_more = λ m. refl;
        step_last = λ s p. refl;
        step_steps = λ s p. refl;
      }

  pub steps_visited : (m : ℕ) → (run C m).steps ≡ length (visited C m)
  unfolding walk run visited
  steps_visited m = walk_steps C walk m

  pub tells : Tells C (ported_run C)
  unfolding answer answer_of walk run visited
  tells = record { last_visited = walk_last C walk; counts_visited = walk_steps C walk; ends_visited = walk_ends C walk }
