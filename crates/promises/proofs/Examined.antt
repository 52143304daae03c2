-- The promises of the pairs examined, kept. Assumes nothing.
use mathlib.Core.Path.{◌≡◌, ap}
use mathlib.Core.List.{List}
use Prim.Native.Nat.{ℕ, suc, ◌+◌, ◌-◌, ◌*◌, ◌≤◌, ◌<◌, ◌^◌}
use native.Mathlib.Nat.{le_trans, mul-le-mul_right}
use native.Mathlib.Omega.{arith}
use lib.IntN.{ℤ}
use lib.ListN.{length}
use Rattle.line_segment.specs.Piece.{HasLength}
use Rattle.charts.specs.Answer.{listing_of}
use Rattle.charts.specs.Chart.{most, verdict_of}
use Rattle.charts.specs.Piece.{piece_at}
use Rattle.charts.specs.Verdict.{Accepted}
use Rattle.charts.proofs.Accepted.{accepted_most, pieces_have_length}
use Rattle.charts.proofs.Listing.{listing_goes, listing_refuses_exactly}
use Rattle.sweep.specs.Run.{run, answer_of, answer}
use Rattle.sweep.specs.Ported.{ported}
use Rattle.examinations.specs.Examined.{examined_in, examined}
use Rattle.examinations.specs.Demand.{a_step}
use Rattle.examinations.proofs.Few.{examines_few}
use Rattle.bentley_ottmann.specs.declared.Swept.{Swept}
use Rattle.promises.specs.Chart.{Accepts}
use Rattle.promises.specs.Sweep.{Ported}
use Rattle.promises.specs.Examined.{ExaminedPromises}
use Rattle.promises.proofs.Ported.{done, ported_promises}

module _ (list : List ℤ) (n budget : ℕ) (lent : List ℕ) (c : Accepts list lent n) where
  given : listing_of list (length lent) ≡ Accepted n
  given = (listing_refuses_exactly list (length lent) (Accepted n)).1 c

  accepted : verdict_of list ≡ Accepted n
  accepted = (listing_goes list (length lent) n given).0

  few : n ≤ most
  few = accepted_most list n accepted

  long : (i : ℕ) → i < n → HasLength (piece_at list i)
  long i h = pieces_have_length list n i accepted h

  step_few : examined_in (ported n (piece_at list)) budget ≤ a_step n
  step_few = examines_few.a_step' n (piece_at list) few long budget

  module _ (r : Swept) (after : List ℕ) (o : Ported list budget lent r after) where
    counts : r.examined ≡ examined (ported n (piece_at list)) budget
    counts = ap (λ (s : Swept). s.examined) (done list n budget lent r after given o).0

    steps_are : r.steps ≡ (run (ported n (piece_at list)) budget).steps
    unfolding answer answer_of
    steps_are = ap (λ (s : Swept). s.steps) (done list n budget lent r after given o).0

    of_steps : r.examined ≤ r.steps * a_step n
    of_steps = rw (counts, steps_are) (examines_few.in_all n (piece_at list) few long budget)

    within : (k : ℕ) → r.steps ≤ k → r.examined ≤ k * a_step n
    within k h = le_trans of_steps (mul-le-mul_right (a_step n) h)

    fits : budget < 2 ^ 32 → r.examined < 2 ^ 32 * a_step most
    fits h =
        let s = (ported_promises.counts_steps list n budget lent r after c o).0 in
        let t = within (2 ^ 32 - 1) (omega (arith, h, s)) in
        omega (arith, t, few)

pub examined_promises : ExaminedPromises
examined_promises =
    record {
      counts = λ list n budget lent r after c o. counts list n budget lent c r after o;
      a_step' = λ list n budget lent r s after beyond c o p.
          let x = counts list n budget lent c r after o in
          let y : s.examined ≡ examined (ported n (piece_at list)) budget + examined_in (ported n (piece_at list)) budget = unfold examined in counts list n (suc budget) lent c s beyond p in
          let z = step_few list n budget lent c in
          (omega (arith, x, y), omega (arith, x, y, z));
      of_steps = λ list n budget lent r after c o. of_steps list n budget lent c r after o;
      none_of_none = λ list n budget lent r after c o e.
          let z : a_step n ≡ 0 = omega (arith, e) in
          let h : r.examined ≤ r.steps * 0 = rw (← z) (of_steps list n budget lent c r after o) in
          omega (arith, h);
      in_all = λ list n budget lent r after c o other a all d q. within list n budget lent c r after o _ (ported_promises.steps_bounded list n budget lent r after c o other a all d q);
      full_run = λ list n budget lent r after c o w e. within list n budget lent c r after o _ (ported_promises.full_sweep_bounded list n budget lent r after c o w e);
      fits = λ list n budget lent r after c o. fits list n budget lent c r after o;
    }
