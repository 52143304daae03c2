-- A linear function u + v x at a fraction n/m: its sign there is that of `at u v n m`, for m above 0.
-- Signs at two places, the lesser first, give the sign of v (`rises`, `falls`) or a zero strictly between (`root_up`, `root_down`); `stays_above` goes on.
-- `one_third` below is the example. Assumes nothing.
use mathlib.Core.List.{[], ◌∷◌}
use lib.IntN.{ℤ, pos, negsuc, neg_ℤ, ◌+ℤ◌, ◌*ℤ◌}
use lib.Signed.{◌≤ℤ◌, ◌<ℤ◌, lt_z_yes}
use Rattle.integers.proofs.Identity.{terms}
use Rattle.integers.proofs.Signs.{≤_diff, <_diff, <→≤, n+p, n*n, p*p}
use Rattle.integers.proofs.Order.{<_cert}
use Rattle.integers.proofs.Factors.{p/p, m/p}

-- m times the function's value at n/m
abbrev pub at : ℤ → ℤ → ℤ → ℤ → ℤ
at u v n m = u *ℤ m +ℤ v *ℤ n

-- r/s lies strictly between n1/m1 and n2/m2
pub record Between (r s n1 m1 n2 m2 : ℤ) : Type 0 where
  pub under : pos 0 <ℤ s
  pub left : (n1 *ℤ s) <ℤ (r *ℤ m1)
  pub right : (r *ℤ m2) <ℤ (n2 *ℤ s)

module _ (u v n1 m1 n2 m2 : ℤ) (p1 : pos 0 <ℤ m1) (p2 : pos 0 <ℤ m2) (x : (n1 *ℤ m2) <ℤ (n2 *ℤ m1)) where
  -- ---- the sign of v
  pub rises : at u v n1 m1 ≤ℤ pos 0 → pos 0 <ℤ at u v n2 m2 → pos 0 <ℤ v
  rises h k =
      p/p v (<_diff x)
      (<_cert (u ∷ v ∷ n1 ∷ m1 ∷ n2 ∷ m2 ∷ []) (n+p (n*n (≤_diff h) (<→≤ p2)) (p*p k p1)) (search terms depth 60 fits 20000) tt)

  pub falls : pos 0 ≤ℤ at u v n1 m1 → at u v n2 m2 <ℤ pos 0 → v <ℤ pos 0
  falls h k =
      m/p v (<_diff x)
      (<_cert (u ∷ v ∷ n1 ∷ m1 ∷ n2 ∷ m2 ∷ []) (n+p (n*n h (<→≤ p2)) (p*p (<_diff k) p1)) (search terms depth 60 fits 20000) tt)

  -- ---- the sign at the second place
  pub stays_above : pos 0 ≤ℤ at u v n1 m1 → pos 0 <ℤ v → pos 0 <ℤ at u v n2 m2
  stays_above h k =
      p/p (at u v n2 m2) p1
      (<_cert (u ∷ v ∷ n1 ∷ m1 ∷ n2 ∷ m2 ∷ []) (n+p (n*n h (<→≤ p2)) (p*p k (<_diff x))) (search terms depth 60 fits 20000) tt)

  pub stays_below : at u v n1 m1 ≤ℤ pos 0 → v <ℤ pos 0 → at u v n2 m2 <ℤ pos 0
  stays_below h k =
      m/p (at u v n2 m2) p1
      (<_cert (u ∷ v ∷ n1 ∷ m1 ∷ n2 ∷ m2 ∷ []) (n+p (n*n (≤_diff h) (<→≤ p2)) (p*p (<_diff k) (<_diff x))) (search terms depth 60 fits 20000) tt)

  -- ---- the zero
  pub root_up : at u v n1 m1 <ℤ pos 0 → pos 0 <ℤ at u v n2 m2 → Between (neg_ℤ u) v n1 m1 n2 m2
  root_up h k = record {
    under = rises (<→≤ h) k;
    left = <_cert (u ∷ v ∷ n1 ∷ m1 ∷ []) (<_diff h) (search terms depth 60 fits 20000) tt;
    right = <_cert (u ∷ v ∷ n2 ∷ m2 ∷ []) k (search terms depth 60 fits 20000) tt;
  }

  pub root_down : pos 0 <ℤ at u v n1 m1 → at u v n2 m2 <ℤ pos 0 → Between u (neg_ℤ v) n1 m1 n2 m2
  root_down h k = record {
    under = <_cert (v ∷ []) (<_diff (falls (<→≤ h) k)) (search terms depth 60 fits 20000) tt;
    left = <_cert (u ∷ v ∷ n1 ∷ m1 ∷ []) h (search terms depth 60 fits 20000) tt;
    right = <_cert (u ∷ v ∷ n2 ∷ m2 ∷ []) (<_diff k) (search terms depth 60 fits 20000) tt;
  }

-- 3 x - 1 is below 0 at 0 and above 0 at 1/2, so 1/3 lies between
one_third : Between (pos 1) (pos 3) (pos 0) (pos 1) (pos 1) (pos 2)
one_third = root_up (negsuc 0) (pos 3) (pos 0) (pos 1) (pos 1) (pos 2) (lt_z_yes tt) (lt_z_yes tt) (lt_z_yes tt) (lt_z_yes tt) (lt_z_yes tt)
