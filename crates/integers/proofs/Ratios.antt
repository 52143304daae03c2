-- The order of fractions, cross-multiplied: a/b < c/d is (a *ℤ d) <ℤ (c *ℤ b), with b and d above 0. Irreflexive by `<ℤ_irrefl`, total by `tri` of the products.
-- `ratio-<_trans a b c d e f pb pd pf h k : (a *ℤ f) <ℤ (e *ℤ b)`, through c/d; with ≤ in one place or both, and with ≡.
-- `half_two_thirds` below is the example. Assumes nothing.
use mathlib.Core.Path.{◌≡◌, sym}
use mathlib.Core.List.{[], ◌∷◌}
use lib.IntN.{ℤ, pos, ◌*ℤ◌}
use lib.Signed.{◌≤ℤ◌, ◌<ℤ◌, lt_z_yes}
use Rattle.integers.proofs.Identity.{terms}
use Rattle.integers.proofs.Signs.{≤_diff, <_diff, <→≤, n+n, n+p, p+n, p+p, n*n, p*p}
use Rattle.integers.proofs.Order.{≤_cert, <_cert, ≡→≤, ≤_antisym}
use Rattle.integers.proofs.Factors.{*_cancel-<, *_cancel-≤}

module _ (a b c d e f : ℤ) (pb : pos 0 <ℤ b) (pd : pos 0 <ℤ d) (pf : pos 0 <ℤ f) where
  pub ratio-<_trans : (a *ℤ d) <ℤ (c *ℤ b) → (c *ℤ f) <ℤ (e *ℤ d) → (a *ℤ f) <ℤ (e *ℤ b)
  ratio-<_trans h k =
      *_cancel-< (a *ℤ f) (e *ℤ b) d (<→≤ pd)
      (<_cert (a ∷ b ∷ c ∷ d ∷ e ∷ f ∷ []) (p+p (p*p (<_diff h) pf) (p*p (<_diff k) pb)) (search terms depth 60 fits 20000) tt)

  pub ratio-≤-<_trans : (a *ℤ d) ≤ℤ (c *ℤ b) → (c *ℤ f) <ℤ (e *ℤ d) → (a *ℤ f) <ℤ (e *ℤ b)
  ratio-≤-<_trans h k =
      *_cancel-< (a *ℤ f) (e *ℤ b) d (<→≤ pd)
      (<_cert (a ∷ b ∷ c ∷ d ∷ e ∷ f ∷ []) (n+p (n*n (≤_diff h) (<→≤ pf)) (p*p (<_diff k) pb)) (search terms depth 60 fits 20000) tt)

  pub ratio-<-≤_trans : (a *ℤ d) <ℤ (c *ℤ b) → (c *ℤ f) ≤ℤ (e *ℤ d) → (a *ℤ f) <ℤ (e *ℤ b)
  ratio-<-≤_trans h k =
      *_cancel-< (a *ℤ f) (e *ℤ b) d (<→≤ pd)
      (<_cert (a ∷ b ∷ c ∷ d ∷ e ∷ f ∷ []) (p+n (p*p (<_diff h) pf) (n*n (≤_diff k) (<→≤ pb))) (search terms depth 60 fits 20000) tt)

  pub ratio-≤_trans : (a *ℤ d) ≤ℤ (c *ℤ b) → (c *ℤ f) ≤ℤ (e *ℤ d) → (a *ℤ f) ≤ℤ (e *ℤ b)
  ratio-≤_trans h k =
      *_cancel-≤ (a *ℤ f) (e *ℤ b) d pd
      (≤_cert (a ∷ b ∷ c ∷ d ∷ e ∷ f ∷ []) (n+n (n*n (≤_diff h) (<→≤ pf)) (n*n (≤_diff k) (<→≤ pb))) (search terms depth 60 fits 20000) tt)

  pub ratio-≡_trans : a *ℤ d ≡ c *ℤ b → c *ℤ f ≡ e *ℤ d → a *ℤ f ≡ e *ℤ b
  ratio-≡_trans h k = ≤_antisym (ratio-≤_trans (≡→≤ h) (≡→≤ k)) (back (≡→≤ (sym h)) (≡→≤ (sym k)))
    where
      back : (c *ℤ b) ≤ℤ (a *ℤ d) → (e *ℤ d) ≤ℤ (c *ℤ f) → (e *ℤ b) ≤ℤ (a *ℤ f)
      back h k =
          *_cancel-≤ (e *ℤ b) (a *ℤ f) d pd
          (≤_cert (a ∷ b ∷ c ∷ d ∷ e ∷ f ∷ []) (n+n (n*n (≤_diff h) (<→≤ pf)) (n*n (≤_diff k) (<→≤ pb))) (search terms depth 60 fits 20000) tt)

half_two_thirds : (e f : ℤ) → pos 0 <ℤ f → (pos 2 *ℤ f) <ℤ (e *ℤ pos 3) → (pos 1 *ℤ f) <ℤ (e *ℤ pos 2)
half_two_thirds e f p h = ratio-<_trans (pos 1) (pos 2) (pos 2) (pos 3) e f (lt_z_yes tt) (lt_z_yes tt) p (lt_z_yes tt) h
