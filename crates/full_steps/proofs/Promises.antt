-- The promises of specs/Demand, from crate sweep's theorem for any walk.
use mathlib.Core.Path.{◌≡◌, refl, ap, ◌∙◌}
use mathlib.Core.Option.{none}
use mathlib.Core.List.Memᴰ
use mathlib.Core.List.{List, [], ◌∷◌, ◌++◌}
use mathlib.Core.List.Memᴰ.{head as here}
use mathlib.Core.List.{Memᴰ as In}
use Prim.Native.Nat.{ℕ}
use Rattle.sweep.specs.Chart.{Chart}
use Rattle.sweep.specs.Lists.{upto, keep, adjacent}
use Rattle.sweep.specs.Queue.{ends, beyond, least}
use Rattle.sweep.specs.Run.{answer as ported_answer, answer_of as ported_answer_of}
use Rattle.sweep.specs.Demand.{Tells, SweepsAlways, ported_run, reordered}
use Rattle.sweep.proofs.Lists.{keep_in, keep_append}
use Rattle.sweep.proofs.Occurring.{max_in, max_occurs}
use Rattle.sweep.proofs.Least.{least_none}
use Rattle.sweep.proofs.Ranked.{Ranked, ranked}
use Rattle.sweep.proofs.Soonest.{beyond_yes}
use Rattle.sweep.proofs.Runs.{tells as ported_tells}
use Rattle.sweep.proofs.Alike.{same_answers}
use Rattle.sweep.proofs.Walks.{Walk, walk_steps, walk_last, walk_ends}
use Rattle.sweep.proofs.Theorem.{Keeps, walk_visits, walk_lists, walk_inv}
use Rattle.sweep.proofs.Promises.{sweeps as ported_sweeps, run_promises}
use Rattle.full_steps.specs.Steps.{State, start, crossings, queue, next, step, move_to, move, run, visited, answer_of, answer}
use Rattle.full_steps.specs.Demand.{full_run, Promised, SaysComplete, Agree, EndsDecide}
use Rattle.full_steps.proofs.Step.{Inv, inv_start, next_none, next_soonest, step_inv, step_listed}

module _ (C : Chart) where
  unfoldable pub walk : Walk C (State C)
  unfolding run move move_to visited start step
  walk =
      record {
        run = run C;
        visited = visited C;
        next = next C;
        step = step C;
        last = λ s. s.last;
        listed = λ s. s.listed;
        steps = λ s. s.steps;
        last_start = refl;
        listed_start = refl;
        steps_start = refl;
        visited_start = refl;
        run_none = λ m e. ap (move_to C (run C m)) e;
        run_some = λ m p e. ap (move_to C (run C m)) e;
        visited_more = λ m. refl;
        step_last = λ s p. refl;
        step_steps = λ s p. refl;
      }

  keeps : (F : Ranked C) → Keeps C F walk
  unfolding walk run
  keeps F =
      record {
        Inv = Inv C F;
        at_start = inv_start C F;
        after_step = λ s I p hp. step_inv C F s I p hp;
        soonest = λ s I p hp. next_soonest C F s I p hp;
        nothing_left = λ s I e. next_none C F s I e;
        lists_there = λ s I p hp. step_listed C F s I p hp;
      }

  -- what holds between steps holds of every run
  pub run_inv : (F : Ranked C) (m : ℕ) → Inv C F (run C m)
  unfolding walk keeps
  run_inv F m = walk_inv C F walk (keeps F) m

  pub tells : Tells C (full_run C)
  unfolding answer answer_of walk run visited
  tells = record { last_visited = walk_last C walk; counts_visited = walk_steps C walk; ends_visited = walk_ends C walk }

  pub sweeps : Ranked C → SweepsAlways C (full_run C)
  unfolding answer answer_of walk run visited
  sweeps F m = record { visits = walk_visits C F walk (keeps F) m; lists = walk_lists C F walk (keeps F) m }

pub promises : Promised
promises C G = let F = ranked C G in run_promises C F (full_run C) (tells C) (sweeps C F)

pub says_complete : SaysComplete
unfolding answer answer_of
says_complete C m = refl

pub agree : Agree
unfolding answer answer_of ported_answer ported_answer_of
agree C before G H =
    record {
      same_answers = same_answers C before (ported_run C) (full_run (reordered C before)) (ported_tells C) (tells (reordered C before))
          (ported_sweeps C (ranked C G)) (sweeps (reordered C before) (ranked (reordered C before) H));
      same_complete = λ e m. rw e;
    }

none_in : {A : Type 0} {l : List A} {x : A} → l ≡ [] → ¬ In x l
none_in e h = elim (rw e at h) [ ]

all_gone : {A : Type 0} (l : List A) → ((x : A) → ¬ In x l) → l ≡ []
all_gone [] f = refl
all_gone (x ∷ l) f = absurd (f x (here refl))

module _ (C : Chart) (s : State C) where
  abbrev left : List C.Point
  left = keep (beyond C s.last) (ends C (upto C.n))

  queue_is : queue C s ≡ left ++ keep (beyond C s.last) (crossings C s.active)
  unfolding queue
  queue_is = keep_append (beyond C s.last) (ends C (upto C.n)) (crossings C s.active)

  queue_gone : left ≡ [] → s.active ≡ [] → queue C s ≡ []
  unfolding crossings adjacent keep
  queue_gone e a = queue_is ∙ rw (e, a)

  none_left : next C s ≡ none → left ≡ []
  unfolding next
  none_left e = all_gone left (λ x h. least_none C (queue C s) e x (rw queue_is (Memᴰ.append_left _ h)))

  left_none : (F : Ranked C) → Inv C F s → left ≡ [] → next C s ≡ none
  unfolding next least
  left_none F I e =
      rw (queue_gone e (all_gone s.active (λ i h.
      let o = I.lined.active_out i h in
      none_in e (keep_in (beyond C s.last) (max_in C i o.0) (beyond_yes C F s.active s.last I.lined (C.max i) (max_occurs C i o.0) o.2)))))

pub ends_decide : EndsDecide
ends_decide C G m = (none_left C (run C m), left_none C (run C m) (ranked C G) (run_inv C (ranked C G) m))
