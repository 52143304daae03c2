-- What is put at the end of a text ends within the lent bytes.
-- Assumes nothing.
use mathlib.Core.Path.{◌≡◌, refl, sym, subst}
use mathlib.Core.Bool.{Bool, true, false}
use mathlib.Core.List.{List, [], ◌∷◌}
use Prim.Native.Nat.{ℕ, ◌≤◌, zero-le}
use native.Mathlib.Omega.{arith}
use lib.Dec.{ltb}
use lib.ListN.{length, length-set}
use borrow.Author.Tests.{ltb-true}
use Rattle.decimals.specs.Text.{Text, text, put_byte, put}

byte_within : (b : ℕ) (t : Text) → t.end ≤ length t.bytes → (put_byte b t).end ≤ length (put_byte b t).bytes
byte_within b t h = go (ltb t.end (length t.bytes)) refl
  where
    go : (c : Bool) → ltb t.end (length t.bytes) ≡ c → (put_byte b t).end ≤ length (put_byte b t).bytes
    go true e = rw e (omega (arith, ltb-true t.end (length t.bytes) e, length-set t.bytes t.end b))
    go false e = rw e h

put_within : (xs : List ℕ) (t : Text) → t.end ≤ length t.bytes → (put xs t).end ≤ length (put xs t).bytes
unfolding put
put_within [] t h = h
put_within (x ∷ xs) t h = put_within xs (put_byte x t) (byte_within x t h)

pub ends_within : (xs lent after : List ℕ) (end : ℕ) → text after end ≡ put xs (text lent 0) → end ≤ length after
ends_within xs lent after end e = subst (λ (t : Text). t.end ≤ length t.bytes) (sym e) (put_within xs (text lent 0) zero-le)
