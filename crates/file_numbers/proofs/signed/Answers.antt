-- `signed` turns a stored number back: half of it, or one more than half below zero.
use borrow.Author.Tests.{eq-eqb, ne_eqb}
use mathlib.Core.Path.{◌≡◌, refl, ap, ◌∙◌}
use Prim.Native.Nat.{ℕ, zero, suc, ◌<◌, ◌/◌, ◌^◌}
use native.Mathlib.Omega.{arith}
use native.Mathlib.Nat.{zero-add}
use lib.IntN.{ℤ, pos, negsuc, ◌-ℤ◌}
use mir.Syntax.{w32}
use mir.Val.{SFits, to_z}
use mir.Facts.{to_z-of_z, to_z_pos}
use Rattle.chart_file.specs.Coordinate.{signed_of}
use Rattle.file_numbers.proofs.signed.Goals as goal

below : (h : ℕ) → negsuc 0 -ℤ pos h ≡ negsuc h
below zero = refl
below (suc h) = rw zero-add

half : (v : ℕ) → v < 2 ^ 32 → to_z w32 (v / 2) ≡ pos (v / 2)
half v h = to_z_pos w32 (omega arith)

fits : (v : ℕ) → v < 2 ^ 32 → SFits w32 (negsuc 0 -ℤ to_z w32 (v / 2))
fits v h = rw (half v h, below) (record { sfits = omega arith })

pub overflow_sub-result : goal.overflow_sub-result
overflow_sub-result c = fits c.args.v c.ranges.v.fits

pub returns-then-v-eq0 : goal.returns-then-v-eq0
unfolding signed_of
returns-then-v-eq0 c = rw (eq-eqb _ _ c.if-v-eq0.true) (half c.args.v c.ranges.v.fits)

pub returns-else-v-eq0 : goal.returns-else-v-eq0
unfolding signed_of
returns-else-v-eq0 c =
    let v = c.args.v in
    let h = c.ranges.v.fits in
    rw (ne_eqb _ _ c.if-v-eq0.false) (to_z-of_z {w = w32} (fits v h) ∙ ap (λ (z : ℤ). negsuc 0 -ℤ z) (half v h) ∙ below (v / 2))
