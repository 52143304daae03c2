-- `segment_holds::in_bounds` meets its contract: three tests, one after the other.
use borrow.Author.Rules.{rules}
use borrow.Author.Tests.{lt-ltb, le-ltb}
use mathlib.Core.Path.{◌≡◌, ap, ◌∙◌}
use mathlib.Core.Bool.{◌&&◌}
use Prim.Native.Nat.{ℕ, ◌^◌}
use lib.Dec.{ltb}
use lib.IntN.{nat_abs}
use mir.Syntax.{w64}
use mir.ValLaws.{to_z-of_z}
use Rattle.line_segment.proofs.Holding.{bounds_last, bounds_early}
use Rattle.segment_holds.proofs.in_bounds.Goals as goal
use Rattle.segment_holds.proofs.in_bounds.Goals.{then-p-lt-D_LIMIT, else-p-lt-D_LIMIT}

pub returns-then-size-lt-SIZE_LIMIT : goal.returns-then-size-lt-SIZE_LIMIT
returns-then-size-lt-SIZE_LIMIT c =
    let p = c.args.p in
    let v : c.if-p-lt-D_LIMIT.value ≡ (ltb p.d (2 ^ 33) && ltb (nat_abs p.x) (2 ^ 48)) =
    elim c.if-p-lt-D_LIMIT.branch [
      | then-p-lt-D_LIMIT w ↦ rw (lt-ltb _ _ w.if-p-lt-D_LIMIT.true) (w.value-is ∙ ap (λ (n : ℕ). ltb n (2 ^ 48)) (w.size.ensures ∙ ap nat_abs (to_z-of_z w64 p.x (search rules))))
      | else-p-lt-D_LIMIT w ↦ rw (le-ltb _ _ w.if-p-lt-D_LIMIT.false) (w.value-is ∙ le-ltb _ _ w.if-p-lt-D_LIMIT.false)
    ] in
    bounds_last p v c.if-size-lt-SIZE_LIMIT.true (c.size-then-size-lt-SIZE_LIMIT.ensures ∙ ap nat_abs (to_z-of_z w64 p.y (search rules)))

pub returns-else-size-lt-SIZE_LIMIT : goal.returns-else-size-lt-SIZE_LIMIT
returns-else-size-lt-SIZE_LIMIT c =
    let p = c.args.p in
    let v : c.if-p-lt-D_LIMIT.value ≡ (ltb p.d (2 ^ 33) && ltb (nat_abs p.x) (2 ^ 48)) =
    elim c.if-p-lt-D_LIMIT.branch [
      | then-p-lt-D_LIMIT w ↦ rw (lt-ltb _ _ w.if-p-lt-D_LIMIT.true) (w.value-is ∙ ap (λ (n : ℕ). ltb n (2 ^ 48)) (w.size.ensures ∙ ap nat_abs (to_z-of_z w64 p.x (search rules))))
      | else-p-lt-D_LIMIT w ↦ rw (le-ltb _ _ w.if-p-lt-D_LIMIT.false) (w.value-is ∙ le-ltb _ _ w.if-p-lt-D_LIMIT.false)
    ] in
    bounds_early p v c.if-size-lt-SIZE_LIMIT.false
