-- `put_pieces`: what has been put is the first j pieces.
use mathlib.Core.Path.{◌≡◌, refl, sym, ap, ◌∙◌}
use mathlib.Core.List.{List, ◌++◌}
use Prim.Native.Nat.{ℕ, ◌+◌, ◌*◌, ◌≤◌}
use native.Mathlib.Omega.{arith}
use borrow.Rule.Slice.PartMut.{put_mid}
use lib.IntN.{ℤ}
use lib.ListN.{length, take, drop}
use lib.Seq.{sets, sets-eq, take-length}
use Rattle.std.proofs.lemmas.Slice.{put_mid-paste}
use Rattle.folded_line.specs.Line.{five, fives}
use Rattle.folded_line.proofs.Stores.{five_length, put_fives}
use Rattle.line_pieces.proofs.put_pieces.Goals as goal

-- a part written is so many stores
stored : (l xs ys : List ℤ) (a k : ℕ) → ys ≡ xs → k ≡ length xs → a + k ≤ length l → put_mid a k l ys ≡ sets l a xs
stored l xs ys a k e n h =
    put_mid-paste a k l ys xs (length xs) e (sym n) refl
    ∙ ap (λ (t : List ℤ). take a l ++ t ++ drop (a + length xs) l) (take-length xs)
    ∙ sym (sets-eq xs l a (omega arith))

pub loop-j-init : goal.loop-j-init
unfolding fives
loop-j-init c = refl

pub loop-j-preserved : goal.loop-j-preserved
loop-j-preserved c =
    let a = c.args in
    let l = c.loop-j in
    let n = five_length a.m a.h a.s a.n l.j in
    put_fives a.m a.h a.s a.n a.out.now l.out _ l.j l.invariant
    (stored l.out (five a.m a.h a.s a.n l.j) _ (5 * l.j) _ (c.copy_from_slice.ensures.after ∙ c.five.ensures) (omega (arith, n)) (omega (arith, c.requires.1, c.requires.2, l.auto.out)))
