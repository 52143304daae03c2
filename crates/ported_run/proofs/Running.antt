-- What holds of the arrays while a run goes on: they are the sheet after so many steps.
use mathlib.Core.Path.{◌≡◌, refl, sym, ap, ◌∙◌, subst}
use mathlib.Core.Bool.{Bool, true, false, cond, not}
use mathlib.Core.List.Memᴰ
use mathlib.Core.List.{List, []}
use mathlib.Core.List.{Memᴰ as In}
use mathlib.Core.Option as maybe
use mathlib.Core.Option.{none, some}
use Prim.Native.Nat.{ℕ, zero, suc, ◌+◌, ◌-◌, ◌*◌, ◌≤◌, ◌<◌}
use native.Mathlib.Nat.{suc-add, zero-add, le_refl}
use native.Mathlib.Numerals.{add-one}
use native.Mathlib.Omega.{arith}
use borrow.Author.Tests.{ne_eqb}
use lib.Dec.{eqb}
use lib.IntN.{ℤ}
use lib.ListN.{length, drop, drop_of_length-le}
use Rattle.std.specs.Prelude.{Option, None, Some, is_some}
use Rattle.fractions.specs.declared.Point.{Point}
use Rattle.charts.specs.Chart.{most}
use Rattle.sweep.specs.Chart.{Chart}
use Rattle.sweep.specs.State.{start as begin}
use Rattle.sweep.specs.Run.{is_none}
use Rattle.sweep.specs.Run.{onwards as going}
use Rattle.ported_arrays.specs.Numbers.{cell}
use Rattle.ported_arrays.specs.Event.{Sheet}
use Rattle.ported_arrays.specs.Event.{step as step_on}
use Rattle.ported_arrays.specs.Run.{next_by', next, move_to, onwards, start}
use Rattle.ported_arrays.specs.Agreement.{Agrees}
use Rattle.ported_arrays.proofs.Cells.{cell_small}
use Rattle.ported_pieces.specs.Table.{piece_in, chart_in}
use Rattle.ported_pieces.proofs.Ordering.{ordered}
use Rattle.ported_gather.specs.Joined.{AllBelow}
use Rattle.ported_queue.specs.Next.{as_next, next_by}
use Rattle.ported_ledger.specs.Views.{ledger}
use Rattle.ported_step.specs.Views.{sheet}
use Rattle.examinations.specs.Examined.{examined}
use Rattle.ported_run.specs.declared.Stop.{Stop}
use Rattle.ported_run.specs.Last.{as_last}
use Rattle.ported_run.specs.Running.{places, last_at, Begun, came, Stopped}
use Rattle.ported_run.proofs.Agreeing.{agrees}
use Rattle.ported_run.proofs.Counting.{none_more}

-- ---- the next point
abbrev pub back : Option Point → maybe.Option Point
back None = none
back (Some p) = some p

back_is : (o : maybe.Option Point) → back (as_next o) ≡ o
back_is none = refl
back_is (some p) = refl

pub told : (n : ℕ) (table : List ℤ) (ends waiting : List ℕ) {r : Option Point} → r ≡ next_by n table ends waiting → next_by' (chart_in n table) ends waiting ≡ back r
unfolding next_by
told n table ends waiting e = sym (back_is (next_by' (chart_in n table) ends waiting)) ∙ ap back (sym e)

-- whether there is none, as `Option::is_none` tells it
pub emptied : (n : ℕ) (table : List ℤ) (ends waiting : List ℕ) {r : Option Point} {b : Bool} → r ≡ next_by n table ends waiting → is_some r ≡ not b
    → b ≡ is_none (chart_in n table) (next_by' (chart_in n table) ends waiting)
unfolding is_none
emptied n table ends waiting {r} {b} e h = go r b h ∙ ap (is_none (chart_in n table)) (sym (told n table ends waiting e))
  where
    go : (r : Option Point) (b : Bool) → is_some r ≡ not b → b ≡ is_none (chart_in n table) (back r)
    go None true h = refl
    go None false h = cc
    go (Some p) true h = cc
    go (Some p) false h = refl

onwards_to : (C : Chart) (s : Sheet C) (m : ℕ) (p : C.Point) → next C (onwards C m s) ≡ some p → onwards C (suc m) s ≡ step_on C (onwards C m s) p
unfolding onwards move_to
onwards_to C s m p e = rw e

-- ---- a queue that is empty stays so
module _ (C : Chart) (s : Sheet C) (m : ℕ) (e : next C (onwards C m s) ≡ none) where
  idle : (k : ℕ) → onwards C (k + m) s ≡ onwards C m s
  unfolding onwards move_to
  idle zero = rw (zero-add m)
  idle (suc k) = rw (suc-add k m, idle k, e)

  pub idle_to : (k : ℕ) → m ≤ k → onwards C k s ≡ onwards C m s
  idle_to k h = let f : k ≡ (k - m) + m = omega arith in ap (λ (j : ℕ). onwards C j s) f ∙ idle (k - m)

-- ---- numbers in the arrays
module _ {n : ℕ} {table : List ℤ} {ends active marks waiting bytes : List ℕ} (B : Begun n table ends active marks waiting bytes) where
  abbrev C : Chart
  C = chart_in n table

  agrees_at : (m : ℕ) → Agrees C (ordered n (piece_in table) B.long) places bytes (onwards C m (start C places bytes)) (going C m (begin C))
  agrees_at m = agrees n table bytes B.few B.long B.lists m

  pub ends_small : (m : ℕ) → AllBelow (2 * most) (onwards C m (start C places bytes)).ends
  ends_small m e h = omega (arith, ((agrees_at m).ends_out e h).0, B.few)

  pub waiting_small : (m : ℕ) → AllBelow (most * most) (onwards C m (start C places bytes)).ledger.waiting
  waiting_small m c h =
      let H = (agrees_at m).holds in
      let w = Memᴰ.of_map cell (going C m (begin C)).marks.waiting (subst (λ (l : List ℕ). In c l) H.waiting_is h) in
      let v = H.waiting_once.pieces w.0 w.1 in
      rw (← w.2) (cell_small w.0 v.0 (omega (arith, v.1, B.few)))

-- ---- a run that stopped early has stopped so at every larger budget
stays_stopped : (n : ℕ) (table : List ℤ) (lent : List ℕ) {a b : ℕ} → came n table b lent ≡ came n table a lent → examined (chart_in n table) b ≡ examined (chart_in n table) a
    → {stop : Stop} {bytes : List ℕ} → Stopped n table a lent stop bytes → Stopped n table b lent stop bytes
stays_stopped n table lent e f S =
    let C = chart_in n table in
    record {
      end_is = S.end_is ∙ ap (λ (s : Sheet C). s.ledger.end) (sym e);
      steps_are = S.steps_are ∙ ap (λ (s : Sheet C). s.steps) (sym e);
      ended_is = S.ended_is ∙ ap (λ (s : Sheet C). is_none C (next C s)) (sym e);
      last_is = S.last_is ∙ ap (λ (s : Sheet C). as_last s.last) (sym e);
      examined_are = S.examined_are ∙ sym f;
      bytes_are = S.bytes_are ∙ ap (λ (s : Sheet C). s.ledger.bytes) (sym e);
    }

-- ---- the loop
abbrev pub last_of : ℕ → Point → maybe.Option Point
last_of steps p = cond (eqb steps 0) none (some p)

as_last_lem : (steps : ℕ) (p : Point) → last_at steps p ≡ as_last (last_of steps p)
as_last_lem steps p = go (eqb steps 0)
  where
    go : (b : Bool) → cond b None (Some p) ≡ as_last (cond b none (some p))
    go true = refl
    go false = refl

-- the arrays are the sheet after so many steps
pub record Going (table : List ℤ) (ends active₀ marks₀ waiting₀ bytes₀ : List ℕ) (budget : ℕ)
    (active marks waiting bytes : List ℕ) (passed live head end steps : ℕ) (last : Point) : Type 0 where
  pub spent : steps ≤ budget
  pub within : passed ≤ length ends
  pub lives : live ≤ length active
  pub active_long : length active ≡ length active₀
  pub held : (n : ℕ) → Begun n table ends active₀ marks₀ waiting₀ bytes₀
      → sheet n table ends passed active live (ledger marks waiting head bytes end) (last_of steps last) steps
      ≡ onwards (chart_in n table) steps (start (chart_in n table) places bytes₀)

at_start : (n : ℕ) (table : List ℤ) (ends active marks waiting bytes : List ℕ) (last : Point) → Begun n table ends active marks waiting bytes
    → sheet n table ends 0 active 0 (ledger marks waiting (length waiting) bytes 0) (last_of 0 last) 0
    ≡ onwards (chart_in n table) 0 (start (chart_in n table) places bytes)
unfolding onwards start
at_start n table ends active marks waiting bytes last B k =
    record {
      ends = B.in_order k;
      active = [];
      ledger = record { marks = B.free k; waiting = drop_of_length-le waiting (le_refl (length waiting)) k; spare = B.waits k; bytes = bytes; end = 0 };
      last = none;
      steps = 0;
    }

pub begins : (table : List ℤ) (ends active marks waiting bytes : List ℕ) (budget : ℕ) (last : Point) {head end : ℕ} → head ≡ length waiting → end ≡ 0
    → Going table ends active marks waiting bytes budget active marks waiting bytes 0 0 head end 0 last
begins table ends active marks waiting bytes budget last h e =
    record {
      spent = omega arith;
      within = omega arith;
      lives = omega arith;
      active_long = refl;
      held = λ n B. rw (h, e) (at_start n table ends active marks waiting bytes last B);
    }

module _ {table : List ℤ} {ends active₀ marks₀ waiting₀ bytes₀ : List ℕ} {budget : ℕ}
    {active marks waiting bytes : List ℕ} {passed live head end steps : ℕ} {last : Point}
    (G : Going table ends active₀ marks₀ waiting₀ bytes₀ budget active marks waiting bytes passed live head end steps last)
  where
    -- what the arrays hold, and the sheet that it is
    abbrev held_sheet : (n : ℕ) → Sheet (chart_in n table)
    held_sheet n = sheet n table ends passed active live (ledger marks waiting head bytes end) (last_of steps last) steps

    abbrev sheet_at : (n m : ℕ) → Sheet (chart_in n table)
    sheet_at n m = onwards (chart_in n table) m (start (chart_in n table) places bytes₀)

    module _ (n : ℕ) (B : Begun n table ends active₀ marks₀ waiting₀ bytes₀) where
      pub ends_left : AllBelow (2 * most) (drop passed ends)
      ends_left = rw (ap (λ (s : Sheet (chart_in n table)). s.ends) (G.held n B)) (ends_small B steps)

      pub waiting_left : AllBelow (most * most) (drop head waiting)
      waiting_left = rw (ap (λ (s : Sheet (chart_in n table)). s.ledger.waiting) (G.held n B)) (waiting_small B steps)

      pub next_is : next_by' (chart_in n table) (drop passed ends) (drop head waiting) ≡ next (chart_in n table) (sheet_at n steps)
      unfolding next
      next_is = ap (next (chart_in n table)) (G.held n B)

      stopped_at : {e : Bool} {l : Option Point} {t : ℕ} → e ≡ is_none (chart_in n table) (next (chart_in n table) (sheet_at n steps)) → l ≡ last_at steps last
          → t ≡ examined (chart_in n table) steps
          → Stopped n table steps bytes₀ (record { end = end; steps = steps; ended = e; last = l; examined = t }) bytes
      stopped_at f g x =
          record {
            end_is = ap (λ (s : Sheet (chart_in n table)). s.ledger.end) (G.held n B);
            steps_are = ap (λ (s : Sheet (chart_in n table)). s.steps) (G.held n B);
            ended_is = f;
            last_is = g ∙ as_last_lem steps last ∙ ap (λ (s : Sheet (chart_in n table)). as_last s.last) (G.held n B);
            examined_are = x;
            bytes_are = ap (λ (s : Sheet (chart_in n table)). s.ledger.bytes) (G.held n B);
          }

      -- the budget is spent
      pub spent_all : budget ≤ steps → {e : Bool} {l : Option Point} {t : ℕ} → e ≡ is_none (chart_in n table) (next_by' (chart_in n table) (drop passed ends) (drop head waiting)) → l ≡ last_at steps last
          → t ≡ examined (chart_in n table) steps
          → Stopped n table budget bytes₀ (record { end = end; steps = steps; ended = e; last = l; examined = t }) bytes
      spent_all h {e} {l} {t} f g x =
          let q : steps ≡ budget = omega (arith, h, G.spent) in
          subst (λ (m : ℕ). Stopped n table m bytes₀ (record { end = end; steps = steps; ended = e; last = l; examined = t }) bytes) q (stopped_at (f ∙ ap (is_none (chart_in n table)) next_is) g x)

      -- the queue is empty
      pub ran_out : {r : Option Point} → r ≡ next_by n table (drop passed ends) (drop head waiting) → r ≡ None → {l : Option Point} {t : ℕ} → l ≡ last_at steps last
          → t ≡ examined (chart_in n table) steps
          → Stopped n table budget bytes₀ (record { end = end; steps = steps; ended = true; last = l; examined = t }) bytes
      unfolding is_none
      ran_out f h {l} {t} g x =
          let none_left : next (chart_in n table) (sheet_at n steps) ≡ none = sym next_is ∙ told n table (drop passed ends) (drop head waiting) f ∙ ap back h in
          stays_stopped n table bytes₀ (idle_to (chart_in n table) (start (chart_in n table) places bytes₀) steps none_left budget G.spent)
          (none_more n table bytes₀ B.few B.long B.lists steps none_left budget G.spent)
          (stopped_at {e = true} (rw none_left refl) g x)

    -- a step is done
    module _ {p : Point} {active' marks' waiting' bytes' : List ℕ} {passed' live' head' end' : ℕ} where
      pub advances : steps < budget → passed' ≤ length ends → live' ≤ length active → length active' ≡ length active
          → {r : Option Point} → ((n : ℕ) → r ≡ next_by n table (drop passed ends) (drop head waiting)) → r ≡ Some p
          → ((n : ℕ) (l : maybe.Option Point) (m : ℕ)
          → sheet n table ends passed' active' live' (ledger marks' waiting' head' bytes' end') (some p) (suc m)
          ≡ step_on (chart_in n table) (sheet n table ends passed active live (ledger marks waiting head bytes end) l m) p)
          → Going table ends active₀ marks₀ waiting₀ bytes₀ budget active' marks' waiting' bytes' passed' live' head' end' (steps + 1) p
      advances h a b d at is does =
          record {
            spent = omega arith;
            within = a;
            lives = omega (arith, b, d);
            active_long = d ∙ G.active_long;
            held = λ n B. rw (add-one steps, ne_eqb (suc steps) 0 (λ q. absurd (omega (arith, q)))) (does n (last_of steps last) steps ∙ ap (λ (s : Sheet (chart_in n table)). step_on (chart_in n table) s p) (G.held n B) ∙ sym (one_on n B (at n) is));
          }
        where
          one_on : (n : ℕ) → Begun n table ends active₀ marks₀ waiting₀ bytes₀ → {r : Option Point} → r ≡ next_by n table (drop passed ends) (drop head waiting) → r ≡ Some p
              → sheet_at n (suc steps) ≡ step_on (chart_in n table) (sheet_at n steps) p
          one_on n B f h = onwards_to (chart_in n table) (start (chart_in n table) places bytes₀) steps p (sym (next_is n B) ∙ told n table (drop passed ends) (drop head waiting) f ∙ ap back h)
