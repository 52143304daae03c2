-- A run on arrays is a run of the sweep: after any number of steps the arrays agree with the state.
use mathlib.Core.Path.{◌≡◌, refl, subst}
use mathlib.Core.Logic.{⊎_elim}
use mathlib.Core.Option.{Option, none, some}
use mathlib.Core.List.{List}
use mathlib.Core.List.{Memᴰ as In}
use Prim.Native.Nat.{ℕ, zero, suc, ◌+◌, ◌*◌, ◌<◌}
use native.Mathlib.Omega.{arith}
use lib.ListN.{length, get_or, length-replicate, get_or-replicate}
use Rattle.charts.specs.Chart.{most}
use Rattle.sweep.specs.Lists.{upto, any, among, sort}
use Rattle.sweep.specs.Chart.{Chart}
use Rattle.sweep.specs.State.{State}
use Rattle.sweep.specs.State.{start as begin}
use Rattle.sweep.specs.Queue.{beyond, next}
use Rattle.sweep.specs.Run.{move}
use Rattle.sweep.specs.Run.{move_to as go_to, onwards as going}
use Rattle.sweep.proofs.Pairs.{upto_in, upto_out}
use Rattle.sweep.proofs.Sorting.{sort_in, sort_out}
use Rattle.ported_arrays.specs.Numbers.{cell, end_of, end_before}
use Rattle.ported_arrays.specs.Ledger.{mark}
use Rattle.ported_arrays.specs.Event.{Sheet}
use Rattle.ported_arrays.specs.Run.{blank, start, move_to, onwards}
use Rattle.ported_arrays.specs.Run.{next as next_on}
use Rattle.ported_arrays.specs.Agreement.{flat, mark_of, Ordered, Room, Holds, Agrees}
use Rattle.ported_arrays.proofs.Cells.{cell_small}
use Rattle.ported_arrays.proofs.Least.{end_min, end_max, end_cases}
use Rattle.ported_arrays.proofs.Resorting.{settled, settled_up}
use Rattle.ported_arrays.proofs.Nexts.{next_agrees}
use Rattle.ported_arrays.proofs.Stepping.{step_agrees}

blank_long : length blank ≡ most * most
unfolding blank
blank_long = length-replicate {A = ℕ} (most * most) 0

blank_at : (i : ℕ) → i < most * most → ◌≡◌ {A = ℕ} (get_or blank i 0) 0
unfolding blank
blank_at i h = get_or-replicate {A = ℕ} (most * most) i 0 0 h

module _ (C : Chart) (O : Ordered C) (places : ℕ) (lent : List ℕ) (R : Room C places lent) where
  open C use {Point, less, n}

  end_fits : (e : ℕ) → e < 2 * n → O.Fit (end_of C e)
  end_fits e h =
      ⊎_elim
      (λ (w : (i : ℕ) × (e ≡ 2 * i)). rw (w.1, end_min C w.0) (O.fit_min w.0 (omega (arith, w.1))))
      (λ (w : (i : ℕ) × (e ≡ 2 * i + 1)). rw (w.1, end_max C w.0) (O.fit_max w.0 (omega (arith, w.1))))
      (end_cases C e)

  listed_fit : (e : ℕ) → In e (upto (2 * n)) → O.Fit (end_of C e)
  listed_fit e m = end_fits e (upto_out (2 * n) m)

  ends_are : (start C places lent).ends ≡ sort (end_before C) (upto (2 * n))
  unfolding start end_before
  ends_are = settled C O (end_of C) (upto (2 * n)) listed_fit

  start_holds : Holds C places lent (start C places lent).ledger (begin C).marks
  unfolding start begin flat mark mark_of among any
  start_holds =
      record {
        waiting_is = refl;
        spare_is = omega arith;
        bytes_are = refl;
        end_is = refl;
        marks_long = blank_long;
        marks_are = λ q v. blank_at (cell q) (cell_small q v.0 (omega (arith, v.1, R.few)));
        waiting_once = record { pieces = λ q m. elim m [ ]; once = tt };
        waiting_cross = λ q m. elim m [ ];
        waiting_up = tt;
        listed_once = record { pieces = λ q m. elim m [ ]; once = tt };
      }

  pub start_agrees : Agrees C O places lent (start C places lent) (begin C)
  unfolding begin beyond
  start_agrees =
      record {
        active_is = unfold start in refl;
        active_below = λ i m. elim m [ ];
        active_once = tt;
        active_begun = λ i m. elim m [ ];
        ends_in = λ e h b. rw ends_are (sort_in (end_before C) (upto_in (2 * n) e h));
        ends_out = λ e m. (upto_out (2 * n) (sort_out (end_before C) (upto (2 * n)) (subst (λ (l : List ℕ). In e l) ends_are m)), refl);
        ends_up = rw ends_are (unfold end_before in settled_up C O (end_of C) (upto (2 * n)) listed_fit);
        holds = start_holds;
        waiting_beyond = λ q m. elim m [ ];
        waiting_begun = λ q m. elim m [ ];
        last_is = unfold start in refl;
        last_fit = λ p e. let z : ◌≡◌ {A = ℕ} 0 1 = cc in absurd (omega arith);
        steps_are = unfold start in refl;
      }

  one_move : (a : Sheet C) (s : State C) → Agrees C O places lent a s → (o : Option Point) → next C s ≡ o → Agrees C O places lent (move_to C a o) (go_to C s o)
  unfolding move_to go_to
  one_move a s G none e = G
  one_move a s G (some p) e = step_agrees C O places lent R a s G p e

  move_agrees : (a : Sheet C) (s : State C) → Agrees C O places lent a s → Agrees C O places lent (move_to C a (next_on C a)) (move C s)
  unfolding move
  move_agrees a s G = rw (next_agrees C O places lent R a s G) (one_move a s G (next C s) refl)

  pub run_agrees : (m : ℕ) → Agrees C O places lent (onwards C m (start C places lent)) (going C m (begin C))
  unfolding onwards going
  run_agrees zero = start_agrees
  run_agrees (suc m) = move_agrees (onwards C m (start C places lent)) (going C m (begin C)) (run_agrees m)
