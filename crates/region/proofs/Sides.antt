-- What is known of the sides where none is a yes, and before the first. Assumes nothing.
use mathlib.Core.Path.{◌≡◌, refl, sym}
use mathlib.Core.Bool.{Bool, false}
use Prim.Native.Nat.{ℕ}
use native.Mathlib.Omega.{arith}
use borrow.Author.Tests.{le-ltb}
use lib.Dec.{ltb}
use Rattle.outline.specs.Counting.{first, count}
use Rattle.outline.proofs.First.{None, none}

pub some_no : (f : ℕ → Bool) (n : ℕ) → None f n → false ≡ ltb (first f n) n
some_no f n b = sym (rw (none f n b) (le-ltb n n (omega arith)))

pub count_none : (f : ℕ → Bool) → 0 ≡ count f 0
unfolding count
count_none f = refl
