-- What an examination of one pair comes to, and a pass over adjacent pairs, one more at a time.
use mathlib.Core.Path.{◌≡◌, refl, sym, ap}
use mathlib.Core.List.{List, [], ◌∷◌}
use Prim.Native.Nat.{ℕ, ◌≤◌, ◌<◌}
use native.Mathlib.Omega.{arith}
use lib.ListN.{length, get_or, take, drop}
use borrow.Author.Tests.{eq-eqb, ne_eqb, lt-ltb, le-ltb}
use Rattle.sweep.specs.Lists.{Pair, lesser_first, adjacent_from, adjacent}
use Rattle.sweep.specs.Chart.{Kind, Chart, kind}
use Rattle.sweep.specs.Step.{each}
use Rattle.ported_arrays.specs.Ledger.{Ledger, mark, examine_free, examine}

module _ (C : Chart) (p : C.Point) (q : Pair) (s : Ledger) where
  pub examine_marked : (mark s q ≡ 0 → ⊥) → s ≡ examine C p q s
  unfolding examine
  examine_marked d = rw (ne_eqb (mark s q) 0 d) refl

  pub examine_by : mark s q ≡ 0 → (k : Kind) → kind C q ≡ k → examine_free C p k q s ≡ examine C p q s
  unfolding examine
  examine_by e k f = rw (eq-eqb (mark s q) 0 e, f) refl

  pub free_by : {k : Kind} → kind C q ≡ k → examine_free C p k q s ≡ examine_free C p (kind C q) q s
  free_by f = ap (λ (k : Kind). examine_free C p k q s) (sym f)

pub lesser_yes : (a b : ℕ) → a < b → lesser_first a b ≡ (a, b)
unfolding lesser_first
lesser_yes a b h = rw (lt-ltb a b h) refl

pub lesser_no : (a b : ℕ) → b ≤ a → lesser_first a b ≡ (b, a)
unfolding lesser_first
lesser_no a b h = rw (le-ltb a b h) refl

-- w is the first two of l, and m is l without its first
pub adjacent_step : {S : Type 0} (f : Pair → S → S) (l w m : List ℕ) (k : ℕ) (s : S) → k ≡ 2 → k ≤ length l → w ≡ take k l → m ≡ drop 1 l
    → each f (adjacent l) s ≡ each f (adjacent m) (f (lesser_first (get_or w 0 0) (get_or w 1 0)) s)
unfolding each adjacent adjacent_from
adjacent_step f [] w m k s e h a b = absurd (omega arith)
adjacent_step f (x ∷ []) w m k s e h a b = absurd (omega arith)
adjacent_step f (x ∷ y ∷ l) w m k s e h a b = rw (a, b, e) refl

pub adjacent_end : {S : Type 0} (f : Pair → S → S) (l : List ℕ) (s : S) → length l < 2 → each f (adjacent l) s ≡ s
unfolding each adjacent adjacent_from
adjacent_end f [] s h = refl
adjacent_end f (x ∷ []) s h = refl
adjacent_end f (x ∷ y ∷ l) s h = absurd (omega arith)
