-- Bytes put at the end of a text: one after another, and all of them where they fit.
-- Assumes nothing.
use mathlib.Core.Path.{◌≡◌, refl, sym, ap, ◌∙◌}
use mathlib.Core.List.{List, [], ◌∷◌, ◌++◌}
use Prim.Native.Nat.{ℕ, suc, ◌+◌, ◌-◌, ◌≤◌, ◌<◌}
use native.Mathlib.Nat.{zero-add}
use native.Mathlib.Numerals.{add-one}
use native.Mathlib.Omega.{arith}
use lib.ListN.{length, get_or, set, take, drop, length-set, drop_of_length-le}
use lib.Seq.{sets, sets-eq, take-length, drop-cons}
use borrow.Author.Tests.{lt-ltb, le-ltb}
use Rattle.decimals.specs.Text.{Text, text, put_byte, put}

pub put_append : (xs ys : List ℕ) (t : Text) → put (xs ++ ys) t ≡ put ys (put xs t)
unfolding put
put_append [] ys t = refl
put_append (x ∷ xs) ys t = put_append xs ys (put_byte x t)

-- one put after another
pub put_then : (xs ys : List ℕ) (t : Text) {u v : Text} → u ≡ put xs t → v ≡ put ys u → v ≡ put (xs ++ ys) t
put_then xs ys t p q = q ∙ ap (put ys) p ∙ sym (put_append xs ys t)

pub put_as : (xs ys : List ℕ) (t : Text) {u : Text} → u ≡ put xs t → xs ≡ ys → u ≡ put ys t
put_as xs ys t p e = p ∙ ap (λ (l : List ℕ). put l t) e

-- ---- one byte
pub put_one : (b : ℕ) (l : List ℕ) (e : ℕ) → e < length l → text (set l e b) (e + 1) ≡ put (b ∷ []) (text l e)
unfolding put
put_one b l e h = rw (lt-ltb e (length l) h, add-one)

pub put_none : (b : ℕ) (l : List ℕ) (e : ℕ) → length l ≤ e → text l e ≡ put (b ∷ []) (text l e)
unfolding put
put_none b l e h = rw (le-ltb e (length l) h)

-- the rest of a word, one byte farther
pub put_next : (w : List ℕ) (i : ℕ) (t : Text) {u : Text} → i < length w → u ≡ put (get_or w i 0 ∷ []) t → put (drop (i + 1) w) u ≡ put (drop i w) t
unfolding put
put_next w i t h e = rw (e, add-one, drop-cons w i 0 h)

pub put_end : (w : List ℕ) (i : ℕ) (t : Text) → length w ≤ i → put (drop i w) t ≡ t
unfolding put
put_end w i t h = rw (drop_of_length-le w h)

-- a word from a byte on, as in the wrong program of must-fail/, whose proof stands on this: all of it where that is its first
pub put_from : (w : List ℕ) (k : ℕ) (t : Text) → k ≡ 0 → put (take (length w - k) (drop k w)) t ≡ put w t
put_from w k t z = let e : length w - 0 ≡ length w = omega arith in rw (z, e, take-length w)

-- ---- where there is room
pub put_fits : (xs l : List ℕ) (e : ℕ) → e + length xs ≤ length l → put xs (text l e) ≡ text (sets l e xs) (e + length xs)
unfolding put
put_fits [] l e h = ap (text l) (omega arith)
put_fits (x ∷ xs) l e h =
    rw (lt-ltb e (length l) (omega arith))
    (put_fits xs (set l e x) (suc e) (omega (arith, length-set l e x))
    ∙ ap (text (sets (set l e x) (suc e) xs)) (omega arith))

-- over the front of lent bytes; those past the text keep their values
pub put_front : (xs l : List ℕ) → length xs ≤ length l → put xs (text l 0) ≡ text (xs ++ drop (length xs) l) (length xs)
put_front xs l h =
    let e : 0 + length xs ≡ length xs = zero-add (length xs) in
    put_fits xs l 0 (rw e h) ∙ rw (sets-eq xs l 0 (rw e h), e)
