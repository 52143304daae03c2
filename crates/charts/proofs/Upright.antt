-- The test for upright pieces, one piece more at a time.
-- Assumes nothing.
use mathlib.Core.Path.{◌≡◌, refl}
use mathlib.Core.Bool.{Bool, true, false, ◌&&◌}
use mathlib.Core.List.{List}
use mathlib.Core.Logic.{⊎_elim}
use Prim.Native.Nat.{ℕ, zero, suc, ◌<◌}
use native.Mathlib.Nat.{eq-or-lt_of_le}
use native.Mathlib.Omega.{arith}
use lib.IntN.{ℤ}
use Rattle.charts.specs.Piece.{piece_at, is_upright, no_upright}

false_right : (a : Bool) → (a && false) ≡ false
false_right true = refl
false_right false = refl

module _ (list : List ℤ) where
  pub upright_none : no_upright list 0 ≡ true
  unfolding no_upright
  upright_none = refl

  pub upright_not : (i : ℕ) → no_upright list i ≡ true → is_upright (piece_at list i) ≡ false → no_upright list (suc i) ≡ true
  unfolding no_upright
  upright_not i h e = rw (h, e)

  pub upright_found : (i n : ℕ) → i < n → is_upright (piece_at list i) ≡ true → no_upright list n ≡ false
  unfolding no_upright
  upright_found i zero h e = absurd (omega arith)
  upright_found i (suc n) h e =
      ⊎_elim
      (λ (q : i ≡ n). rw (rw q at e) (false_right (no_upright list n)))
      (λ (l : i < n). rw (upright_found i n l e))
      (eq-or-lt_of_le {n = i} {m = n} (omega arith))
