-- `segment_holds::share` meets its contract: the sign and the size of a product.
use mathlib.Core.Path.{refl, ◌∙◌, ap}
use lib.IntN.{nat_abs}
use mir.Syntax.{w64}
use mir.ValLaws.{to_z-of_z}
use Rattle.line_segment.proofs.Holding.{share_is}
use Rattle.segment_holds.proofs.share.Goals as goal

pub returns : goal.returns
returns c =
    let p = to_z-of_z w64 _ c.ranges.p in
    (share_is _ _ _ (c.size.ensures ∙ ap nat_abs p) p (to_z-of_z w64 _ c.ranges.q), refl)
