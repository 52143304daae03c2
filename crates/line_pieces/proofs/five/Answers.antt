-- `five`: the kind, then the two ends, each from its joint.
use mathlib.Core.Path.{◌≡◌}
use Prim.Native.Nat.{ℕ, suc, ◌+◌, ◌*◌, ◌≤◌}
use native.Mathlib.Numerals.{add-one}
use native.Mathlib.Omega.{arith}
use lib.IntN.{pos}
use mir.Syntax.{w32}
use mir.Val.{of_z, to_z}
use mir.Facts.{to_z-of_z}
use Rattle.folded_line.specs.Folded.{folded}
use Rattle.folded_line.specs.Line.{kind_of, joint, five}
use Rattle.folded_line.specs.Drawing.{limit}
use Rattle.folded_line.proofs.Folding.{folded_below}
use Rattle.folded_line.proofs.Joints.{joint_most}
use Rattle.folded_line.proofs.Numbers.{kind_small}
use Rattle.line_pieces.proofs.five.Goals as goal

-- a number below 2^15 comes back from its bits
kept : (n : ℕ) → n ≤ limit → to_z w32 (of_z w32 (pos n)) ≡ pos n
kept n h = to_z-of_z {w = w32} {z = pos n} (record { sfits = omega arith })

pub end_at-requires : goal.end_at-requires
end_at-requires c = (c.requires.0, rw c.joint.ensures (joint_most _ _ _ _))

pub end_at-requires-2 : goal.end_at-requires-2
end_at-requires-2 c = (c.requires.0, rw c.joint-2.ensures (joint_most _ _ _ _))

pub returns : goal.returns
unfolding five
returns c =
    let l = c.args.line in
    let s = c.requires.0 in
    let a = joint l.m l.h l.s c.args.j in
    let b = joint l.m l.h l.s (suc c.args.j) in
    rw (
      c.kind_of-kind.ensures,
      c.end_at.ensures,
      c.end_at-2.ensures,
      c.joint.ensures,
      c.joint-2.ensures,
      add-one c.args.j,
      kept (kind_of c.args.n c.args.j) (omega (arith, kind_small c.args.n c.args.j)),
      kept a (omega (arith, joint_most l.m l.h l.s c.args.j, s.speed_most)),
      kept b (omega (arith, joint_most l.m l.h l.s (suc c.args.j), s.speed_most)),
      kept (folded l.h (l.m * a)) (omega (arith, folded_below l.h s.rate (l.m * a), s.rate_most)),
      kept (folded l.h (l.m * b)) (omega (arith, folded_below l.h s.rate (l.m * b), s.rate_most)),
    )
