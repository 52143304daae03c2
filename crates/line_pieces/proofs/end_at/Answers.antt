-- `end_at`: two numbers below 2^15.
use mathlib.Core.Path.{ap, ◌∙◌}
use mathlib.Core.List.{[], ◌∷◌}
use Prim.Native.Nat.{◌*◌, ◌≤◌}
use native.Mathlib.Omega.{arith}
use lib.IntN.{pos}
use mir.Syntax.{w32}
use mir.Facts.{to_z_pos}
use Rattle.folded_line.specs.Drawing.{limit}
use Rattle.folded_line.proofs.Folding.{folded_below}
use Rattle.line_pieces.proofs.end_at.Goals as goal
use Rattle.line_pieces.proofs.end_at.Goals.{After-folded}

-- the folded value is at most H
small : (c : After-folded) → c.folded.result ≤ limit
small c =
    let line = c.args.line in
    omega (arith, folded_below line.h c.requires.0.rate (line.m * c.args.x), c.folded.ensures)

pub overflow_cast-result-2 : goal.overflow_cast-result-2
overflow_cast-result-2 c = record { sfits = omega (arith, small c) }

pub returns : goal.returns
returns c =
    let ex = to_z_pos w32 {n = c.args.x} (omega arith) in
    let ey = to_z_pos w32 {n = c.folded.result} (omega (arith, small c)) ∙ ap pos c.folded.ensures in
    λ i. ex i ∷ ey i ∷ []
