-- What a call of the batch answers and leaves, by the number of its refusal; and what no refusal says of the room.
-- Assumes nothing.
use mathlib.Core.Path.{◌≡◌, refl, ap, ◌∙◌}
use mathlib.Core.Bool.{Bool, true, false}
use mathlib.Core.List.{List}
use Prim.Native.Nat.{ℕ, zero, suc, ◌*◌, ◌<◌}
use native.Mathlib.Decide.{dec_lt}
use native.Mathlib.Omega.{arith}
use lib.IntN.{ℤ}
use lib.ListN.{length}
use Rattle.charts.specs.Answer.{done_with, refused_with}
use Rattle.charts.specs.declared.Answer.{Answer}
use Rattle.batch.specs.Charts.{fits, each, lefts, results}
use Rattle.batch.specs.Batch.{refusal_of, answer_by, left_by, Batches, Roomy, Writes}
use Rattle.batch.proofs.Fitting.{fits_sum, fits_room, refused_ten, refused_eleven, refused_eight}

module _ (list : List ℤ) (ks lent numbers : List ℕ) where
  abbrev number : ℕ
  number = refusal_of (length list) ks (length lent) (length numbers)

  -- ---- refused
  pub refused_batch : (r : Answer) (k : ℕ) → k ≡ number → ¬ (k ≡ 0) → r ≡ refused_with k 0 → Batches list ks lent numbers r lent numbers
  refused_batch r k e h a =
      record {
        answer = a ∙ answered k h ∙ ap (answer_by (length ks)) e;
        bytes = kept (lefts (each ks list lent)) lent k h ∙ ap (left_by (lefts (each ks list lent)) lent) e;
        told_is = kept (results (each ks list lent)) numbers k h ∙ ap (left_by (results (each ks list lent)) numbers) e;
      }
    where
      answered : (k : ℕ) → ¬ (k ≡ 0) → refused_with k 0 ≡ answer_by (length ks) k
      answered zero h = absurd (h refl)
      answered (suc k) h = refl

      kept : (written l : List ℕ) (k : ℕ) → ¬ (k ≡ 0) → l ≡ left_by written l k
      kept written l zero h = absurd (h refl)
      kept written l (suc k) h = refl

  -- ---- done
  module _ (e : number ≡ 0) where
    few : ¬ (16 < length ks)
    few h = omega (arith, e, refused_ten (length list) ks (length lent) (length numbers) h)

    fitting : fits ks (length list) (length lent) ≡ true
    fitting = go (fits ks (length list) (length lent)) refl
      where
        go : (b : Bool) → fits ks (length list) (length lent) ≡ b → fits ks (length list) (length lent) ≡ true
        go true q = q
        go false q = absurd (omega (arith, few, e, refused_eleven (length list) ks (length lent) (length numbers) (omega (arith, few)) q))

    pub roomy : Roomy list ks lent numbers
    roomy =
        record {
          adds_up = fits_sum ks (length list) (length lent) fitting;
          bytes = fits_room ks (length list) (length lent) fitting;
          results = elim (dec_lt (length numbers) (10 * length ks)) [
            | yes l ↦ absurd (omega (arith, e, refused_eight (length list) ks (length lent) (length numbers) (omega (arith, few)) fitting l))
            | no g ↦ omega arith
          ];
        }

    pub done_batch : (r : Answer) (after told : List ℕ) → r ≡ done_with (length ks) → Writes list ks lent numbers after told → Batches list ks lent numbers r after told
    done_batch r after told a w = record { answer = rw e a; bytes = rw e w.bytes; told_is = rw e w.told_is }
