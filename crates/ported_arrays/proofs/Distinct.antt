-- Distinct members of a list are no more than the list has: the room that they take.
use mathlib.Core.Path.{◌≡◌, refl, sym, ◌∙◌}
use mathlib.Core.Logic.{◌≢◌}
use mathlib.Core.List.{List, [], ◌∷◌}
use mathlib.Core.List.Memᴰ.{head as here}
use mathlib.Core.List.Memᴰ.{tail as there}
use mathlib.Core.List.{Memᴰ as In}
use Prim.Native.Nat.{suc, ◌≤◌}
use native.Mathlib.Omega.{arith}
use lib.ListN.{length}
use Rattle.sweep.specs.Lists.{Pairwise}

module _ {A : Type 0} where
  -- the list without one member
  without : {x : A} (l : List A) → In x l → List A
  without l (here {xs = xs} e) = xs
  without l (there {x = y} {xs = xs} m) = y ∷ without xs m

  without_length : {x : A} (l : List A) (m : In x l) → length l ≡ suc (length (without l m))
  unfolding without
  without_length l (here e) = omega arith
  without_length l (there {xs = xs} m) = omega (arith, without_length xs m)

  others : {x y : A} (l : List A) (m : In x l) → In y l → y ≢ x → In y (without l m)
  unfolding without
  others l (here e) (here f) n = absurd (n (f ∙ sym e))
  others l (here e) (there k) n = k
  others l (there m) (here f) n = here f
  others l (there {xs = xs} m) (there k) n = there (others xs m k n)

  pub distinct_fit : (l m : List A) → Pairwise (λ x y. x ≢ y) l → ((x : A) → In x l → In x m) → length l ≤ length m
  distinct_fit [] m d h = omega arith
  distinct_fit (x ∷ l) m d h =
      let k = h x (here refl) in
      omega (arith, without_length m k, distinct_fit l (without m k) d.1 (λ y i. others m k (h y (there i)) (λ e. d.0 y i (sym e))))
