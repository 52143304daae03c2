-- A point X / d, Y / d on the way from one end, x1, y1, to the other, x2, y2, is nowhere beyond m where neither end is.
-- Stated over whole numbers; `Y-≤` and `Y-≥` are of a piece that is not upright. Assumes nothing.
use mathlib.Core.Path.{◌≡◌, sym, ap}
use mathlib.Core.List.{[], ◌∷◌}
use lib.IntN.{ℤ, pos, neg_ℤ, ◌-ℤ◌, ◌*ℤ◌}
use lib.Signed.{◌≤ℤ◌, ◌<ℤ◌}
use Rattle.integers.proofs.Identity.{terms}
use Rattle.integers.proofs.Signs.{≤_diff, diff-≤, n+n, n*n}
use Rattle.integers.proofs.Factors.{n/p}
use Rattle.integers.proofs.Order.{≤_cert, ≡→≤}

module _ (x1 y1 x2 y2 X Y d m : ℤ)
    (run : pos 0 <ℤ (x2 -ℤ x1))
    (line : (x2 -ℤ x1) *ℤ (Y -ℤ y1 *ℤ d) -ℤ (y2 -ℤ y1) *ℤ (X -ℤ x1 *ℤ d) ≡ pos 0)
    (from : (x1 *ℤ d) ≤ℤ X) (upto : X ≤ℤ (x2 *ℤ d)) where
  -- Y is the mean of the ends' heights: times the run, y1 (x2 d - X) + y2 (X - x1 d)
  pub Y-≤ : y1 ≤ℤ m → y2 ≤ℤ m → Y ≤ℤ (m *ℤ d)
  Y-≤ h k =
      let s = n+n (n+n (n*n (≤_diff h) (≤_diff upto)) (n*n (≤_diff k) (≤_diff from))) (≡→≤ (sym (ap (λ (z : ℤ). neg_ℤ z) line))) in
      diff-≤ (n/p (m *ℤ d -ℤ Y) run (≤_cert (x1 ∷ y1 ∷ x2 ∷ y2 ∷ X ∷ Y ∷ d ∷ m ∷ []) s (search terms depth 60 fits 20000) tt))

  pub Y-≥ : m ≤ℤ y1 → m ≤ℤ y2 → (m *ℤ d) ≤ℤ Y
  Y-≥ h k =
      let s = n+n (n+n (n*n (≤_diff h) (≤_diff upto)) (n*n (≤_diff k) (≤_diff from))) (≡→≤ (sym line)) in
      diff-≤ (n/p (Y -ℤ m *ℤ d) run (≤_cert (x1 ∷ y1 ∷ x2 ∷ y2 ∷ X ∷ Y ∷ d ∷ m ∷ []) s (search terms depth 60 fits 20000) tt))
