-- The verdict on two pieces: ten numbers, then that of the list.
-- Assumes nothing.
use mathlib.Core.Path.{◌≡◌, refl, sym, ◌∙◌, subst}
use mathlib.Core.Bool.{Bool, true, false}
use mathlib.Core.List.{List}
use borrow.Author.Tests.{eq-eqb, ne_eqb, eqb-true, eqb-false}
use lib.Dec.{eqb}
use lib.IntN.{ℤ}
use lib.ListN.{length}
use Rattle.charts.specs.Chart.{verdict_of}
use Rattle.charts.specs.Pair.{pair_verdict_of}
use Rattle.charts.specs.Demand.{PairDue, not_ten, ten, PairRefusesExactly}
use Rattle.charts.specs.Verdict.{Verdict}
use Rattle.charts.specs.Verdict.{Refused}
use Rattle.charts.proofs.Exactly.{refuses_exactly}

module _ (list : List ℤ) where
  pub pair_nine : ¬ (length list ≡ 10) → pair_verdict_of list ≡ Refused 9 0
  unfolding pair_verdict_of
  pair_nine d = rw (ne_eqb _ _ d)

  pub pair_list : length list ≡ 10 → pair_verdict_of list ≡ verdict_of list
  unfolding pair_verdict_of
  pair_list e = rw (eq-eqb _ _ e)

  given : (v : Verdict) → PairDue list v → pair_verdict_of list ≡ v
  given v (not_ten d) = pair_nine d
  given v (ten e w d) = pair_list e ∙ (refuses_exactly list w).1 d

  due : PairDue list (pair_verdict_of list)
  due = go (eqb (length list) 10) refl
    where
      go : (t : Bool) → eqb (length list) 10 ≡ t → PairDue list (pair_verdict_of list)
      go true e =
          let q = eqb-true _ _ e in
          subst (PairDue list) (sym (pair_list q)) (ten q (verdict_of list) ((refuses_exactly list (verdict_of list)).0 refl))
      go false e = let d = eqb-false _ _ e in subst (PairDue list) (sym (pair_nine d)) (not_ten d)

pub pair_refuses_exactly : PairRefusesExactly
pair_refuses_exactly list v = (λ e. subst (PairDue list) e (due list), given list v)
