-- What stands at the places after a change: the numbers given at one, and the old ones at every other.
-- Assumes nothing.
use mathlib.Core.Path.{◌≡◌, refl, sym, ap, ◌∙◌}
use mathlib.Core.List.{List}
use mathlib.Core.Logic.{◌≢◌}
use Prim.Native.Nat.{ℕ, zero, suc, ◌+◌, ◌*◌, ◌<◌, ◌≤◌}
use native.Mathlib.Nat.{add-zero}
use native.Mathlib.Omega.{arith}
use lib.IntN.{ℤ, pos}
use lib.ListN.{length, get_or, set, length-set}
use lib.Seq.{get_or-set_same, get_or-set_other}
use Rattle.charts.specs.Chart.{number_at, fault_at}
use Rattle.charts.specs.Piece.{piece_at}
use Rattle.open_chart.specs.Memory.{five, is_used, written}
use Rattle.open_chart.specs.Model.{content_at}
use Rattle.open_chart.proofs.Puts.{five_written}

-- what stands at a place is decided by its five numbers
pub same_content : (chart other : List ℤ) (i j : ℕ) → ((k : ℕ) → k < 5 → number_at chart i k ≡ number_at other j k) → content_at chart i ≡ content_at other j
unfolding is_used fault_at piece_at
same_content chart other i j e = rw (e 0 (omega arith), e 1 (omega arith), e 2 (omega arith), e 3 (omega arith), e 4 (omega arith))

pub same_used : (chart other : List ℤ) (i j : ℕ) → ((k : ℕ) → k < 5 → number_at chart i k ≡ number_at other j k) → is_used chart i ≡ is_used other j
unfolding is_used fault_at
same_used chart other i j e = rw (e 0 (omega arith), e 1 (omega arith), e 2 (omega arith), e 3 (omega arith), e 4 (omega arith))

module _ (chart : List ℤ) (i : ℕ) (a b c d e : ℤ) (h : 5 * i + 5 ≤ length chart) where
  -- one store after the other
  abbrev s1 : List ℤ
  s1 = set chart (5 * i) a

  abbrev s2 : List ℤ
  s2 = set s1 (5 * i + 1) b

  abbrev s3 : List ℤ
  s3 = set s2 (5 * i + 2) c

  abbrev s4 : List ℤ
  s4 = set s3 (5 * i + 3) d

  abbrev s5 : List ℤ
  s5 = set s4 (5 * i + 4) e

  -- ---- every other number
  pub numbers_other : (j k : ℕ) → j ≢ i → k < 5 → number_at (written chart i (five a b c d e)) j k ≡ number_at chart j k
  unfolding number_at
  numbers_other j k n l =
      ap (λ (m : List ℤ). get_or m (5 * j + k) (pos 0)) (sym (five_written chart i a b c d e h))
      ∙ get_or-set_other s4 (5 * i + 4) (5 * j + k) e (pos 0) (λ q. n (omega arith))
      ∙ get_or-set_other s3 (5 * i + 3) (5 * j + k) d (pos 0) (λ q. n (omega arith))
      ∙ get_or-set_other s2 (5 * i + 2) (5 * j + k) c (pos 0) (λ q. n (omega arith))
      ∙ get_or-set_other s1 (5 * i + 1) (5 * j + k) b (pos 0) (λ q. n (omega arith))
      ∙ get_or-set_other chart (5 * i) (5 * j + k) a (pos 0) (λ q. n (omega arith))

  -- ---- the five of the place
  number0 : get_or s5 (5 * i) (pos 0) ≡ a
  number0 =
      get_or-set_other s4 (5 * i + 4) (5 * i) e (pos 0) (λ q. omega arith)
      ∙ get_or-set_other s3 (5 * i + 3) (5 * i) d (pos 0) (λ q. omega arith)
      ∙ get_or-set_other s2 (5 * i + 2) (5 * i) c (pos 0) (λ q. omega arith)
      ∙ get_or-set_other s1 (5 * i + 1) (5 * i) b (pos 0) (λ q. omega arith)
      ∙ get_or-set_same chart (5 * i) a (pos 0) (omega arith)

  number1 : get_or s5 (5 * i + 1) (pos 0) ≡ b
  number1 =
      get_or-set_other s4 (5 * i + 4) (5 * i + 1) e (pos 0) (λ q. omega arith)
      ∙ get_or-set_other s3 (5 * i + 3) (5 * i + 1) d (pos 0) (λ q. omega arith)
      ∙ get_or-set_other s2 (5 * i + 2) (5 * i + 1) c (pos 0) (λ q. omega arith)
      ∙ get_or-set_same s1 (5 * i + 1) b (pos 0) (simp length-set (omega arith))

  number2 : get_or s5 (5 * i + 2) (pos 0) ≡ c
  number2 =
      get_or-set_other s4 (5 * i + 4) (5 * i + 2) e (pos 0) (λ q. omega arith)
      ∙ get_or-set_other s3 (5 * i + 3) (5 * i + 2) d (pos 0) (λ q. omega arith)
      ∙ get_or-set_same s2 (5 * i + 2) c (pos 0) (simp length-set (omega arith))

  number3 : get_or s5 (5 * i + 3) (pos 0) ≡ d
  number3 =
      get_or-set_other s4 (5 * i + 4) (5 * i + 3) e (pos 0) (λ q. omega arith)
      ∙ get_or-set_same s3 (5 * i + 3) d (pos 0) (simp length-set (omega arith))

  number4 : get_or s5 (5 * i + 4) (pos 0) ≡ e
  number4 =
      get_or-set_same s4 (5 * i + 4) e (pos 0) (simp length-set (omega arith))

  pub numbers_here : (k : ℕ) → k < 5 → number_at (written chart i (five a b c d e)) i k ≡ number_at (five a b c d e) 0 k
  unfolding number_at
  numbers_here k l = ap (λ (m : List ℤ). get_or m (5 * i + k) (pos 0)) (sym (five_written chart i a b c d e h)) ∙ at k l
    where
      at : (k : ℕ) → k < 5 → get_or s5 (5 * i + k) (pos 0) ≡ get_or (five a b c d e) (5 * 0 + k) (pos 0)
      at zero l = ap (λ (m : ℕ). get_or s5 m (pos 0)) (add-zero (5 * i)) ∙ number0
      at (suc zero) l = number1
      at (suc (suc zero)) l = number2
      at (suc (suc (suc zero))) l = number3
      at (suc (suc (suc (suc zero)))) l = number4
      at (suc (suc (suc (suc (suc k))))) l = absurd (omega arith)

  pub content_here : content_at (written chart i (five a b c d e)) i ≡ content_at (five a b c d e) 0
  content_here = same_content (written chart i (five a b c d e)) (five a b c d e) i 0 numbers_here

  pub content_other : (j : ℕ) → j ≢ i → content_at (written chart i (five a b c d e)) j ≡ content_at chart j
  content_other j n = same_content (written chart i (five a b c d e)) chart j j (λ k l. numbers_other j k n l)

  pub written_length : length (written chart i (five a b c d e)) ≡ length chart
  written_length = ap length (sym (five_written chart i a b c d e h)) ∙ simp length-set refl
