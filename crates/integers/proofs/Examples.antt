-- The tools at work on plane geometry, a line each: orientation turned, swapped and shifted; Cramer's point on both lines; the order of two
-- crossings on a third line, of degree 5 in 12 variables; the order of fractions; the zero of a linear function. Cited nowhere.
-- Assumes nothing.
use mathlib.Core.Path.{◌≡◌}
use mathlib.Core.List.{[], ◌∷◌}
use lib.IntN.{ℤ, pos, neg_ℤ, ◌+ℤ◌, ◌-ℤ◌, ◌*ℤ◌}
use lib.Signed.{◌<ℤ◌}
use Rattle.integers.proofs.Identity.{by_ring, terms}
use Rattle.integers.proofs.Ratios.{ratio-<_trans}
use Rattle.integers.proofs.Lines.{at, Between, root_up}

-- twice the signed area of the triangle a b c
abbrev orient : ℤ → ℤ → ℤ → ℤ → ℤ → ℤ → ℤ
orient ax ay bx by cx cy = (bx -ℤ ax) *ℤ (cy -ℤ ay) -ℤ (by -ℤ ay) *ℤ (cx -ℤ ax)

module _ (ax ay bx by cx cy dx dy : ℤ) where
  turned : orient ax ay bx by cx cy ≡ orient bx by cx cy ax ay
  turned = by_ring (ax ∷ ay ∷ bx ∷ by ∷ cx ∷ cy ∷ []) (search terms depth 60 fits 20000) tt

  swapped : orient ax ay bx by cx cy ≡ neg_ℤ (orient bx by ax ay cx cy)
  swapped = by_ring (ax ∷ ay ∷ bx ∷ by ∷ cx ∷ cy ∷ []) (search terms depth 60 fits 20000) tt

  shifted : orient (ax +ℤ dx) (ay +ℤ dy) (bx +ℤ dx) (by +ℤ dy) (cx +ℤ dx) (cy +ℤ dy) ≡ orient ax ay bx by cx cy
  shifted = by_ring (ax ∷ ay ∷ bx ∷ by ∷ cx ∷ cy ∷ dx ∷ dy ∷ []) (search terms depth 60 fits 20000) tt

-- Cramer's rule: the lines through a b and through c d meet at (cramer_x / cramer_d, cramer_y / cramer_d)
abbrev cramer_d : ℤ → ℤ → ℤ → ℤ → ℤ → ℤ → ℤ → ℤ → ℤ
cramer_d ax ay bx by cx cy dx dy = (ax -ℤ bx) *ℤ (cy -ℤ dy) -ℤ (ay -ℤ by) *ℤ (cx -ℤ dx)

abbrev cramer_x : ℤ → ℤ → ℤ → ℤ → ℤ → ℤ → ℤ → ℤ → ℤ
cramer_x ax ay bx by cx cy dx dy = (ax *ℤ by -ℤ ay *ℤ bx) *ℤ (cx -ℤ dx) -ℤ (ax -ℤ bx) *ℤ (cx *ℤ dy -ℤ cy *ℤ dx)

abbrev cramer_y : ℤ → ℤ → ℤ → ℤ → ℤ → ℤ → ℤ → ℤ → ℤ
cramer_y ax ay bx by cx cy dx dy = (ax *ℤ by -ℤ ay *ℤ bx) *ℤ (cy -ℤ dy) -ℤ (ay -ℤ by) *ℤ (cx *ℤ dy -ℤ cy *ℤ dx)

module _ (ax ay bx by cx cy dx dy : ℤ) where
  abbrev D : ℤ
  D = cramer_d ax ay bx by cx cy dx dy

  abbrev X : ℤ
  X = cramer_x ax ay bx by cx cy dx dy

  abbrev Y : ℤ
  Y = cramer_y ax ay bx by cx cy dx dy

  on_first : (bx -ℤ ax) *ℤ (Y -ℤ ay *ℤ D) -ℤ (by -ℤ ay) *ℤ (X -ℤ ax *ℤ D) ≡ pos 0
  on_first = by_ring (ax ∷ ay ∷ bx ∷ by ∷ cx ∷ cy ∷ dx ∷ dy ∷ []) (search terms depth 60 fits 20000) tt

  on_second : (dx -ℤ cx) *ℤ (Y -ℤ cy *ℤ D) -ℤ (dy -ℤ cy) *ℤ (X -ℤ cx *ℤ D) ≡ pos 0
  on_second = by_ring (ax ∷ ay ∷ bx ∷ by ∷ cx ∷ cy ∷ dx ∷ dy ∷ []) (search terms depth 60 fits 20000) tt

-- the crossings of a b with c d and with e f, by x: their difference has a factor ax - bx
two_crossings : (ax ay bx by cx cy dx dy ex ey fx fy : ℤ)
    → cramer_x ax ay bx by cx cy dx dy *ℤ cramer_d ax ay bx by ex ey fx fy -ℤ cramer_x ax ay bx by ex ey fx fy *ℤ cramer_d ax ay bx by cx cy dx dy
    ≡ (ax -ℤ bx)
    *ℤ ((ax *ℤ by -ℤ ay *ℤ bx) *ℤ cramer_d cx cy dx dy ex ey fx fy
    -ℤ (cx *ℤ dy -ℤ cy *ℤ dx) *ℤ cramer_d ax ay bx by ex ey fx fy
    +ℤ (ex *ℤ fy -ℤ ey *ℤ fx) *ℤ cramer_d ax ay bx by cx cy dx dy)
two_crossings ax ay bx by cx cy dx dy ex ey fx fy =
    by_ring (ax ∷ ay ∷ bx ∷ by ∷ cx ∷ cy ∷ dx ∷ dy ∷ ex ∷ ey ∷ fx ∷ fy ∷ []) (search terms depth 60 fits 20000) tt

-- a/b < c/d and c/d < e/f give a/b < e/f
less_less : (a b c d e f : ℤ) → pos 0 <ℤ b → pos 0 <ℤ d → pos 0 <ℤ f → (a *ℤ d) <ℤ (c *ℤ b) → (c *ℤ f) <ℤ (e *ℤ d) → (a *ℤ f) <ℤ (e *ℤ b)
less_less = ratio-<_trans

-- u + v x below 0 at n/m and above 0 at a later k/l: its zero, -u/v, lies strictly between
zero_between : (u v n m k l : ℤ) → pos 0 <ℤ m → pos 0 <ℤ l → (n *ℤ l) <ℤ (k *ℤ m) → at u v n m <ℤ pos 0 → pos 0 <ℤ at u v k l → Between (neg_ℤ u) v n m k l
zero_between = root_up
