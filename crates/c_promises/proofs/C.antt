-- The calls for C: the promises of what they call hold of what a C caller has.
-- Assumes nothing.
use mathlib.Core.Path.{◌≡◌, refl, sym, ap, ◌∙◌, subst}
use mathlib.Core.List.{List}
use Prim.Native.Nat.{ℕ}
use lib.IntN.{ℤ}
use Rattle.std.specs.Prelude.{Option, None, Some}
use Rattle.fractions.specs.declared.Point.{Point}
use Rattle.bentley_ottmann.specs.declared.Swept.{Swept}
use Rattle.c_records.specs.Sweeps.{swept_as, swept_fields}
use Rattle.chart_c.proofs.mirtalughe_all_pairs.Reads as all_pairs_c
use Rattle.chart_c.proofs.mirtalughe_sweep.Reads as sweep_c
use Rattle.promises.specs.Chart.{NoneUpright}
use Rattle.promises.specs.AllPairs.{Allowed}
use Rattle.promises.specs.Sweep.{Outcome, Ported, SweepPromises}
use Rattle.c_promises.specs.C.{swept_read, InFields}
use Rattle.promises.proofs.Ported.{ported_promises}

-- ---- what holds of every outcome of a call holds of every outcome of one that allows no more
module _ {A B : Outcome} {Whole : List ℤ → ℕ → Type 0} (within : (list : List ℤ) (budget : ℕ) (lent : List ℕ) (r : Swept) (after : List ℕ) → A list budget lent r after → B list budget lent r after) where
  pub fewer : SweepPromises B Whole → SweepPromises A Whole
  fewer P =
      record {
        lists_only = λ list n budget lent r after c o. P.lists_only list n budget lent r after c (within _ _ _ _ _ o);
        lists_once = λ list n budget lent r after c o. P.lists_once list n budget lent r after c (within _ _ _ _ _ o);
        lists_on = λ list n a b lent r s after beyond c o p. P.lists_on list n a b lent r s after beyond c (within _ _ _ _ _ o) (within _ _ _ _ _ p);
        moves_forward = λ list n budget lent r after c o. P.moves_forward list n budget lent r after c (within _ _ _ _ _ o);
        counts_steps = λ list n budget lent r after c o. P.counts_steps list n budget lent r after c (within _ _ _ _ _ o);
        steps_bounded = λ list n budget lent r after c o. P.steps_bounded list n budget lent r after c (within _ _ _ _ _ o);
        ends_in_time = λ list n budget lent r after c o. P.ends_in_time list n budget lent r after c (within _ _ _ _ _ o);
        keeps_the_rest = λ list n budget lent r after c o. P.keeps_the_rest list n budget lent r after c (within _ _ _ _ _ o);
        refusals = λ budget.
            let R = P.refusals budget in
            record {
              refuses_exactly = λ i o a. R.refuses_exactly i o (within _ _ _ _ _ a);
              refuses_whole = λ i o a. R.refuses_whole i o (within _ _ _ _ _ a);
              done_exactly = λ i o a. R.done_exactly i o (within _ _ _ _ _ a);
            };
        lists_exactly = λ list n budget lent r after c o. P.lists_exactly list n budget lent r after c (within _ _ _ _ _ o);
        lists_in_order = λ list n budget lent r after c o. P.lists_in_order list n budget lent r after c (within _ _ _ _ _ o);
        visits_in_order = λ list n budget lent r after c o. P.visits_in_order list n budget lent r after c (within _ _ _ _ _ o);
        lists_meetings = λ list n budget lent r after c o. P.lists_meetings list n budget lent r after c (within _ _ _ _ _ o);
        lists_all_pairs = λ list n budget lent r after c o. P.lists_all_pairs list n budget lent r after c (within _ _ _ _ _ o);
        full_sweep_bounded = λ list n budget lent r after c o. P.full_sweep_bounded list n budget lent r after c (within _ _ _ _ _ o);
        says_complete = λ list n budget lent r after c o. P.says_complete list n budget lent r after c (within _ _ _ _ _ o);
      }

-- ---- all pairs
pub allows_pairs_c : (κ : _) (a : _) (r : _) (s : _) → all_pairs_c.Post κ a r s → Allowed a.0.now a.1.0.now r s.1.0.now
allows_pairs_c κ a r s h = record { returned = h.0; left = h.1 }

-- ---- the sweep
pub allows_sweep_c : (κ : _) (a : _) (r : _) (s : _) → sweep_c.Post κ a r s
    → InFields Ported a.0.now a.1.0 a.1.1.0.now (swept_read r) s.1.1.0.now
allows_sweep_c κ a r s h = record { swept = _; allowed = record { returned = refl; left = h.1 }; fields = r; returned = h.0; read = refl }

-- what is read is what was put into the fields
read_fields : (s : Swept) → swept_read (swept_fields s) ≡ s
unfolding swept_fields
read_fields s = go s.last refl
  where
    go : (l : Option Point) → s.last ≡ l → swept_read (swept_as s s.last) ≡ s
    go None e = ap (λ (l : Option Point). swept_read (swept_as s l)) e ∙ λ i. record { number = s.number; place = s.place; pairs = s.pairs; steps = s.steps; ended = s.ended; complete = s.complete; last = sym e i; examined = s.examined }
    go (Some p) e = ap (λ (l : Option Point). swept_read (swept_as s l)) e ∙ λ i. record { number = s.number; place = s.place; pairs = s.pairs; steps = s.steps; ended = s.ended; complete = s.complete; last = sym e i; examined = s.examined }

-- so its call for C allows no other outcome, and has all its promises
pub within_fields : (A : Outcome) (list : List ℤ) (budget : ℕ) (lent : List ℕ) (r : Swept) (after : List ℕ) → InFields A list budget lent r after → A list budget lent r after
within_fields A list budget lent r after o =
    subst (λ (s : Swept). A list budget lent s after) (sym (o.read ∙ ap swept_read o.returned ∙ read_fields o.swept)) o.allowed

pub in_fields : (A : Outcome) (Whole : List ℤ → ℕ → Type 0) → SweepPromises A Whole → SweepPromises (InFields A) Whole
in_fields A Whole = fewer {A = InFields A} {B = A} {Whole = Whole} (within_fields A)

pub c_sweep_promises : SweepPromises (InFields Ported) NoneUpright
c_sweep_promises = in_fields Ported NoneUpright ported_promises
