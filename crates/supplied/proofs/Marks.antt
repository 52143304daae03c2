-- One mark more names one entry's pair more.
-- Assumes nothing.
use mathlib.Core.Path.{◌≡◌, refl, sym, ap, ◌∙◌}
use mathlib.Core.Bool.{Bool, true, false, ◌&&◌, ◌||◌}
use mathlib.Core.List.{List}
use Prim.Native.Nat.{ℕ, suc, ◌*◌, ◌<◌}
use native.Mathlib.Omega.{arith}
use borrow.Author.Tests.{eq-eqb, ne_eqb, eqb-true, eqb-false}
use lib.Dec.{eqb}
use lib.ListN.{get_or, set, length-set, replicate, length-replicate, get_or-replicate}
use lib.Seq.{get_or-set_same, get_or-set_other}
use Rattle.charts.specs.Chart.{most}
use Rattle.charts.specs.PairList.{cell}
use Rattle.supplied.specs.Entries.{top, low, named}
use Rattle.supplied.specs.Marks.{mark_of, Marked}

-- ---- or, and
or_true : (t : Bool) → (t || true) ≡ true
or_true true = refl
or_true false = refl

or_false : (t : Bool) → (t || false) ≡ t
or_false true = refl
or_false false = refl

and_false : (t : Bool) → (t && false) ≡ false
and_false true = refl
and_false false = refl

-- before the first entry nothing is marked
pub none_marked : (bytes : List ℕ) (k : ℕ) → k ≡ most * most → Marked (replicate k false) bytes 0
unfolding named cell
none_marked bytes k e = record { size = length-replicate k false ∙ e; says = λ a b g l. get_or-replicate k (cell (a, b)) false false (omega arith) }

module _ (bytes : List ℕ) (i : ℕ) where
  pub named_here : named bytes (suc i) (top bytes i) (low bytes i) ≡ true
  unfolding named
  named_here = rw (eq-eqb (top bytes i) (top bytes i) refl, eq-eqb (low bytes i) (low bytes i) refl) (or_true (named bytes i (top bytes i) (low bytes i)))

  pub named_top : (a b : ℕ) → ¬ (top bytes i ≡ a) → named bytes (suc i) a b ≡ named bytes i a b
  unfolding named
  named_top a b d = rw (ne_eqb (top bytes i) a d) (or_false (named bytes i a b))

  pub named_low : (a b : ℕ) → ¬ (low bytes i ≡ b) → named bytes (suc i) a b ≡ named bytes i a b
  unfolding named
  named_low a b d = rw (ne_eqb (low bytes i) b d, and_false (eqb (top bytes i) a)) (or_false (named bytes i a b))

  pub marked_more : (marks : List Bool) → Marked marks bytes i → low bytes i < top bytes i → top bytes i < most
      → Marked (set marks (cell (top bytes i, low bytes i)) true) bytes (suc i)
  unfolding cell
  marked_more marks m h l = record {
    size = length-set marks _ true ∙ m.size;
    says = λ a b g k. go a b g k (eqb (top bytes i) a) refl (eqb (low bytes i) b) refl;
  }
    where
      at : ℕ
      at = cell (top bytes i, low bytes i)

      elsewhere : (a b : ℕ) → b < a → a < most → ¬ (cell (a, b) ≡ at) → named bytes (suc i) a b ≡ named bytes i a b → mark_of (set marks at true) a b ≡ named bytes (suc i) a b
      elsewhere a b g k d e = get_or-set_other marks at (cell (a, b)) true false d ∙ m.says a b g k ∙ sym e

      go : (a b : ℕ) → b < a → a < most → (s : Bool) → eqb (top bytes i) a ≡ s → (t : Bool) → eqb (low bytes i) b ≡ t → mark_of (set marks at true) a b ≡ named bytes (suc i) a b
      go a b g k true e true f =
          let p : top bytes i ≡ a = eqb-true _ _ e in
          let q : low bytes i ≡ b = eqb-true _ _ f in
          let j : cell (a, b) ≡ at = omega arith in
          ap (λ (z : ℕ). get_or (set marks at true) z false) j ∙ get_or-set_same marks at true false (omega (arith, m.size)) ∙ sym (rw (← p, ← q) named_here)
      go a b g k false e t f = let d = eqb-false _ _ e in elsewhere a b g k (λ q. d (omega (arith, q))) (named_top a b d)
      go a b g k true e false f = let d = eqb-false _ _ f in elsewhere a b g k (λ q. d (omega (arith, q))) (named_low a b d)
