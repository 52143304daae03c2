-- The statements of specs/Demand, kept.
-- Assumes nothing.
use mathlib.Core.Path.{◌≡◌, refl, sym, ap, ◌∙◌, subst}
use mathlib.Core.Bool.{Bool, true, false}
use mathlib.Core.List.{List}
use Prim.Native.Nat.{ℕ, zero, suc, ◌*◌, ◌/◌, ◌%◌, ◌≤◌, ◌<◌}
use native.Mathlib.Decide.{dec_lt}
use native.Mathlib.Omega.{arith}
use borrow.Author.Tests.{eqb-true, eqb-false}
use lib.Dec.{eqb}
use lib.IntN.{ℤ}
use lib.ListN.{length}
use lib.Seq.{take_all}
use Rattle.charts.specs.Chart.{most}
use Rattle.charts.specs.Answer.{room, refused_with}
use Rattle.charts.specs.declared.Answer.{Answer}
use Rattle.naive.specs.Pairs.{over}
use Rattle.batch.specs.Single.{swept_alone}
use Rattle.batch.specs.Charts.{need, needs, fits, each, lefts, results}
use Rattle.batch.specs.Batch.{refusal_of, answer_by, left_by, Batches}
use Rattle.batch.specs.Demand.{Needed, a_chart, too_many, no_multiple, NeedsExactly, Due, ten, eleven_sum, eleven_room, eight, none, RefusesExactly, RefusesWhole, DoneExactly, numbers_at, part_at, EachAlone, KeepsTheRest, swept_in, ReadsAlone}
use Rattle.batch.proofs.Fitting.{need_odd, need_many, need_room, fits_yes, fits_not_sum, fits_not_room, fits_sum, fits_room, refused_ten, refused_eleven, refused_eight, refused_none}
use Rattle.batch.proofs.Laying.{results_length}
use Rattle.batch.proofs.Answering.{roomy}
use Rattle.batch.proofs.Reading.{numbers_read}
use Rattle.batch.proofs.Single.{fits_last, none_examined}
use Rattle.batch.proofs.Each.{part_alone, parts_length, result_alone, beyond}

-- ---- what is needed
needed : (k : ℕ) → Needed k (need k)
needed k = go (eqb (k % 5) 0) refl
  where
    go : (b : Bool) → eqb (k % 5) 0 ≡ b → Needed k (need k)
    go true e =
        let m = eqb-true _ _ e in
        elim (dec_lt most (k / 5)) [
          | yes l ↦ subst (Needed k) (sym (need_many k m l)) (too_many (k / 5) (omega arith) l)
          | no g ↦ subst (Needed k) (sym (need_room k m (omega arith))) (a_chart (k / 5) (omega arith) (omega arith))
        ]
    go false e = let m = eqb-false _ _ e in subst (Needed k) (sym (need_odd k m)) (no_multiple (λ n p. m (omega arith)))

pub needs_exactly : NeedsExactly
needs_exactly k bytes = (λ e. subst (Needed k) e (needed k), back bytes)
  where
    back : (bytes : ℕ) → Needed k bytes → need k ≡ bytes
    back bytes (a_chart n p l) = let q : k / 5 ≡ n = omega arith in need_room k (omega arith) (omega arith) ∙ ap room q
    back bytes (too_many n p l) = need_many k (omega arith) (omega arith)
    back bytes (no_multiple h) = need_odd k (λ e. h (k / 5) (omega arith))

-- ---- refusals
number_is : (charts k : ℕ) → (answer_by charts k).number ≡ k
number_is charts zero = refl
number_is charts (suc k) = refl

module _ (list : List ℤ) (ks lent numbers : List ℕ) where
  abbrev number : ℕ
  number = refusal_of (length list) ks (length lent) (length numbers)

  is_due : Due list ks lent numbers number
  is_due = elim (dec_lt 16 (length ks)) [
    | yes l ↦ subst (Due list ks lent numbers) (sym (refused_ten _ ks _ _ l)) (ten l)
    | no g ↦ fitting (fits ks (length list) (length lent)) refl (omega arith)
  ]
    where
      clash : fits ks (length list) (length lent) ≡ true → fits ks (length list) (length lent) ≡ false → ⊥
      clash t f = let z : ◌≡◌ {A = ℕ} 0 1 = cc in omega arith

      fitting : (b : Bool) → fits ks (length list) (length lent) ≡ b → length ks ≤ 16 → Due list ks lent numbers number
      fitting true e few =
          let s = fits_sum ks (length list) (length lent) e in
          let r = fits_room ks (length list) (length lent) e in
          elim (dec_lt (length numbers) (10 * length ks)) [
            | yes l ↦ subst (Due list ks lent numbers) (sym (refused_eight (length list) ks (length lent) (length numbers) few e l)) (eight few s r l)
            | no g ↦ subst (Due list ks lent numbers) (sym (refused_none (length list) ks (length lent) (length numbers) few e (omega arith))) (none few s r (omega arith))
          ]
      fitting false e few =
          let n = sym (refused_eleven (length list) ks (length lent) (length numbers) few e) in
          elim (dec_lt (length lent) (needs ks)) [
            | yes l ↦ subst (Due list ks lent numbers) n (eleven_room few l)
            | no g ↦ subst (Due list ks lent numbers) n (eleven_sum few (λ s. clash (fits_yes ks (length list) (length lent) s (omega arith)) e))
          ]

  due_is : (k : ℕ) → Due list ks lent numbers k → number ≡ k
  due_is k (ten l) = refused_ten _ ks _ _ l
  due_is k (eleven_sum few h) = refused_eleven _ ks _ _ few (fits_not_sum ks _ _ h)
  due_is k (eleven_room few h) = refused_eleven _ ks _ _ few (fits_not_room ks _ _ h)
  due_is k (eight few s r l) = refused_eight _ ks _ _ few (fits_yes ks _ _ s r) l
  due_is k (none few s r l) = refused_none _ ks _ _ few (fits_yes ks _ _ s r) l

pub refuses_exactly : RefusesExactly
refuses_exactly list ks lent numbers r after told b k =
    let is = ap (λ (a : Answer). a.number) b.answer ∙ number_is (length ks) (number list ks lent numbers) in
    (λ e. subst (Due list ks lent numbers) (sym is ∙ e) (is_due list ks lent numbers), λ d. is ∙ due_is list ks lent numbers k d)

pub refuses_whole : RefusesWhole
refuses_whole list ks lent numbers r after told b k h d = go k h (due_is list ks lent numbers k d)
  where
    go : (k : ℕ) → 0 < k → number list ks lent numbers ≡ k → (r ≡ refused_with k 0) × (after ≡ lent) × (told ≡ numbers)
    go zero h e = absurd (omega arith)
    go (suc k) h e = (
      b.answer ∙ ap (answer_by (length ks)) e,
      b.bytes ∙ ap (left_by (lefts (each ks list lent)) lent) e,
      b.told_is ∙ ap (left_by (results (each ks list lent)) numbers) e,
    )

pub done_exactly : DoneExactly
done_exactly list ks lent numbers r after told b d = b.answer ∙ ap (answer_by (length ks)) (due_is list ks lent numbers 0 d)

-- ---- chart by chart
module _ (list : List ℤ) (ks lent numbers : List ℕ) (r : Answer) (after told : List ℕ) (b : Batches list ks lent numbers r after told) (e : r.number ≡ 0) where
  no_number : number list ks lent numbers ≡ 0
  no_number = sym (ap (λ (a : Answer). a.number) b.answer ∙ number_is (length ks) (number list ks lent numbers)) ∙ e

  bytes_are : after ≡ over (lefts (each ks list lent)) lent
  bytes_are = b.bytes ∙ ap (left_by (lefts (each ks list lent)) lent) no_number

  told_are : told ≡ over (results (each ks list lent)) numbers
  told_are = b.told_is ∙ ap (left_by (results (each ks list lent)) numbers) no_number

pub each_alone : EachAlone
each_alone list ks lent numbers r after told b e i h =
    let n = no_number list ks lent numbers r after told b e in
    rw (told_are list ks lent numbers r after told b e, bytes_are list ks lent numbers r after told b e)
    (result_alone ks list lent numbers i h, part_alone ks list lent i h (roomy list ks lent numbers n).bytes)

pub keeps_the_rest : KeepsTheRest
keeps_the_rest list ks lent numbers r after told b e =
    let n = no_number list ks lent numbers r after told b e in
    let all = ap (λ (l : List ℕ). length (results (each l list lent))) (take_all (length ks) ks (omega arith)) in
    rw (told_are list ks lent numbers r after told b e, bytes_are list ks lent numbers r after told b e) (
      beyond (lefts (each ks list lent)) lent (needs ks) (parts_length ks list lent (roomy list ks lent numbers n).bytes),
      beyond (results (each ks list lent)) numbers (10 * length ks) (sym all ∙ results_length ks list lent (length ks) (omega arith)),
    )

pub reads_alone : ReadsAlone
reads_alone list ks lent numbers r after told b e i h =
    ap swept_in (each_alone list ks lent numbers r after told b e i h).0
    ∙ numbers_read (swept_alone (numbers_at ks list i) (part_at ks lent i)) (fits_last (numbers_at ks list i) (part_at ks lent i)) (none_examined (numbers_at ks list i) (part_at ks lent i))
