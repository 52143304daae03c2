-- Places in a list by a test on its members, found by bisection; and what place these tell.
use mathlib.Core.Path.{◌≡◌}
use mathlib.Core.Logic.{⊎_elim}
use mathlib.Core.Bool.{Bool, true, false}
use mathlib.Core.List.{List}
use Prim.Native.Nat.{ℕ, ◌+◌, ◌-◌, ◌≤◌, ◌<◌}
use native.Mathlib.Omega.{arith}
use borrow.Author.Tests.{ltb-true, ltb-false}
use lib.Dec.{ltb}
use lib.ListN.{get_or}
use Rattle.sweep.proofs.Tests.{ask, clash}
use Rattle.full_active.specs.Parts.{Edge, Down, Up}

module _ (f : ℕ → Bool) (l : List ℕ) where
  -- the edge is at lo, at hi or between them
  pub record Between (live lo hi : ℕ) : Type 0 where
    pub last_in : 0 < lo → f (get_or l (lo - 1) 0) ≡ true
    pub first_out : hi < live → f (get_or l hi 0) ≡ false

  pub all_of_it : (live : ℕ) → Between live 0 live
  all_of_it live = record { last_in = λ h. absurd (omega arith); first_out = λ h. absurd (omega arith) }

  pub above_half : (live lo hi mid : ℕ) → Between live lo hi → f (get_or l mid 0) ≡ true → Between live (mid + 1) hi
  above_half live lo hi mid B e = let p : mid + 1 - 1 ≡ mid = omega arith in record { last_in = λ h. rw p e; first_out = B.first_out }

  pub below_half : (live lo hi mid : ℕ) → Between live lo hi → f (get_or l mid 0) ≡ false → Between live lo mid
  below_half live lo hi mid B e = record { last_in = B.last_in; first_out = λ h. e }

  pub edge : (live lo : ℕ) → lo ≤ live → Between live lo lo → Edge f l live lo
  edge live lo h B = record { within = h; last_in = B.last_in; first_out = B.first_out }

  -- ---- the place that these tell, where a list is known to pass from lo up to hi, or up to lo, and nowhere else

  pub edge_is : (live lo r : ℕ) → lo ≤ live → ((i : ℕ) → i < lo → f (get_or l i 0) ≡ true) → ((i : ℕ) → lo ≤ i → i < live → f (get_or l i 0) ≡ false) → Edge f l live r → r ≡ lo
  edge_is live lo r h front back E =
      ⊎_elim
      (λ (t : ltb r lo ≡ true). clash (front r (ltb-true r lo t)) (E.first_out (omega (arith, ltb-true r lo t))))
      (λ (t : ltb r lo ≡ false).
      ⊎_elim
      (λ (u : ltb lo r ≡ true). let g = ltb-true lo r u in clash (E.last_in (omega arith)) (back (r - 1) (omega arith) (omega (arith, E.within))))
      (λ (u : ltb lo r ≡ false). omega (arith, ltb-false r lo t, ltb-false lo r u))
      (ask (ltb lo r)))
      (ask (ltb r lo))

  module _ (live lo hi from : ℕ) (begun : lo ≤ from) (ended : from ≤ hi) (through : (i : ℕ) → lo ≤ i → i < hi → f (get_or l i 0) ≡ true) where
    pub down_is : ((i : ℕ) → i < lo → f (get_or l i 0) ≡ false) → (r : ℕ) → Down f l from r → r ≡ lo
    down_is front r D =
        ⊎_elim
        (λ (t : ltb r lo ≡ true). let g = ltb-true r lo t in clash (D.all_in r (omega arith) (omega arith)) (front r g))
        (λ (t : ltb r lo ≡ false).
        ⊎_elim
        (λ (u : ltb lo r ≡ true). let g = ltb-true lo r u in clash (through (r - 1) (omega arith) (omega (arith, D.within))) (D.last_out (omega arith)))
        (λ (u : ltb lo r ≡ false). omega (arith, ltb-false r lo t, ltb-false lo r u))
        (ask (ltb lo r)))
        (ask (ltb r lo))

    pub up_is : hi ≤ live → ((i : ℕ) → hi ≤ i → i < live → f (get_or l i 0) ≡ false) → (r : ℕ) → Up f l live from r → r ≡ hi
    up_is fits back r U =
        ⊎_elim
        (λ (t : ltb hi r ≡ true). let g = ltb-true hi r t in clash (U.all_in hi ended g) (back hi (omega arith) (omega (arith, U.within))))
        (λ (t : ltb hi r ≡ false).
        ⊎_elim
        (λ (u : ltb r hi ≡ true). let g = ltb-true r hi u in clash (through r (omega (arith, U.begun)) g) (U.first_out (omega arith)))
        (λ (u : ltb r hi ≡ false). omega (arith, ltb-false hi r t, ltb-false r hi u))
        (ask (ltb r hi)))
        (ask (ltb hi r))
