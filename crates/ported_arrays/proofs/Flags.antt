-- Numbers flagged in an array of zeros are those of a list.
use mathlib.Core.Path.{◌≡◌, refl, ap, ◌∙◌, subst}
use mathlib.Core.Logic.{⊎_elim}
use mathlib.Core.Bool.{Bool, true, false, ◌||◌}
use mathlib.Core.List.{List, [], ◌∷◌}
use Prim.Native.Nat.{ℕ, ◌<◌}
use lib.Dec.{eqb}
use lib.ListN.{length, get_or, set, replicate, length-set, length-replicate, get_or-replicate}
use lib.Seq.{get_or-set_same, get_or-set_other}
use borrow.Author.Tests.{eqb-true, eqb-false}
use Rattle.charts.specs.Chart.{most}
use Rattle.sweep.specs.Lists.{any}
use Rattle.sweep.proofs.Tests.{ask}
use Rattle.ported_arrays.specs.Event.{flag, flagged}

flagged_set : (l : List ℕ) (x i : ℕ) → i < length l → flagged (set l x 1) i ≡ (eqb i x || flagged l i)
unfolding flagged
flagged_set l x i h =
    ⊎_elim
    (λ (e : eqb i x ≡ true).
    rw e (ap (λ (z : ℕ). eqb z 1) (subst (λ (z : ℕ). get_or (set l z 1) i 0 ≡ 1) (eqb-true i x e) (get_or-set_same l i 1 0 h))))
    (λ (e : eqb i x ≡ false). rw e (ap (λ (z : ℕ). eqb z 1) (get_or-set_other l x i 1 0 (eqb-false i x e))))
    (ask (eqb i x))

or_swap : (a b c : Bool) → (a || (b || c)) ≡ ((b || a) || c)
or_swap true true c = refl
or_swap true false c = refl
or_swap false b c = go b
  where
    go : (b : Bool) → (b || c) ≡ ((b || false) || c)
    go true = refl
    go false = refl

flagged_all : (xs l : List ℕ) (i : ℕ) → i < length l → flagged (flag xs l) i ≡ (any (eqb i) xs || flagged l i)
unfolding flag any
flagged_all [] l i h = refl
flagged_all (x ∷ xs) l i h =
    flagged_all xs (set l x 1) i (rw (length-set l x 1) h)
    ∙ ap (λ (b : Bool). any (eqb i) xs || b) (flagged_set l x i h)
    ∙ or_swap (any (eqb i) xs) (eqb i x) (flagged l i)

flagged_none : (i : ℕ) → i < most → flagged (replicate most 0) i ≡ false
unfolding flagged
flagged_none i h = ap (λ (z : ℕ). eqb z 1) (get_or-replicate {A = ℕ} most i 0 0 h)

pub flagged_is : (xs : List ℕ) (i : ℕ) → i < most → flagged (flag xs (replicate most 0)) i ≡ any (eqb i) xs
flagged_is xs i h =
    flagged_all xs (replicate most 0) i (rw (length-replicate {A = ℕ} most 0) h)
    ∙ ap (λ (b : Bool). any (eqb i) xs || b) (flagged_none i h)
    ∙ or_false (any (eqb i) xs)
  where
    or_false : (b : Bool) → (b || false) ≡ b
    or_false true = refl
    or_false false = refl
