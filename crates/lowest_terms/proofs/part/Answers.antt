-- `lowest_terms::part` meets its contract: a half or less of an i64 has room, with either sign.
use mathlib.Core.Path.{◌≡◌, ap, ◌∙◌}
use Prim.Native.Nat.{ℕ, ◌+◌, ◌/◌, ◌^◌, ◌<◌}
use native.Mathlib.Omega.{arith}
use lib.IntN.{ℤ, pos, neg_ℤ, nat_abs, +ℤ_idl}
use lib.Signed.{nat_abs-le}
use mir.Syntax.{w64}
use mir.ValLaws.{to_z-of_z}
use Rattle.integers.proofs.Machine.{m_fits, m_eq}
use Rattle.integers.proofs.Tests.{ranged, m_yes, m_no}
use Rattle.integers.proofs.Unsigned.{m_under}
use Rattle.fractions.proofs.Quotient.{half, quot_below, quot_not_below}
use Rattle.lowest_terms.proofs.part.Goals as goal

-- the part n is that of |x|, and has room
module _ (c : goal.After-size) where
  abbrev x : ℤ
  x = c.args.x

  abbrev n : ℕ
  n = c.size.result / c.args.g

  is : n ≡ nat_abs x / c.args.g
  is = ap (λ (k : ℕ). k / c.args.g) (c.size.ensures ∙ ap nat_abs (to_z-of_z w64 x c.ranges.x))

  room : n < 2 ^ 62 + 1
  room = rw is (half (nat_abs x) c.args.g (nat_abs-le x c.ranges.x.sfits) c.requires)

pub overflow_cast-n : goal.overflow_cast-n
overflow_cast-n c = record { sfits = omega (arith, room c) }

pub overflow_sub-result : goal.overflow_sub-result
overflow_sub-result c = let h = room c.before in m_fits (search (ranged, m_under) depth 60 fits 20000) tt

pub returns-then-x-lt0 : goal.returns-then-x-lt0
returns-then-x-lt0 c =
    let h = room c.before in
    m_eq (search (ranged, m_under) depth 60 fits 20000) tt
    ∙ +ℤ_idl (neg_ℤ (pos (n c.before)))
    ∙ ap (λ (k : ℕ). neg_ℤ (pos k)) (is c.before)
    ∙ quot_below _ _ (m_yes c.if-x-lt0.true (search ranged depth 60 fits 20000) tt)

pub returns-else-x-lt0 : goal.returns-else-x-lt0
returns-else-x-lt0 c =
    let h = room c.before in
    m_eq (search (ranged, m_under) depth 60 fits 20000) tt
    ∙ ap pos (is c.before)
    ∙ quot_not_below _ _ (m_no c.if-x-lt0.false (search ranged depth 60 fits 20000) tt)
