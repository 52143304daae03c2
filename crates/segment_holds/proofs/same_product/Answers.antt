-- `segment_holds::same_product` meets its contract: the order of the two products, exactly.
use mathlib.Core.Path.{◌∙◌}
use lib.IntN.{◌*ℤ◌}
use mir.Syntax.{w64}
use mir.ValLaws.{to_z-of_z}
use Rattle.line_segment.proofs.Holding.{bits, product_order, same_order, equal_tells}
use Rattle.segment_holds.proofs.same_product.Goals as goal

pub returns : goal.returns
returns c =
    let a = c.args in
    let f = c.ranges in
    c.is_eq.ensures
    ∙ equal_tells (a.p *ℤ a.q) (a.u *ℤ a.v)
    (c.compare.ensures
    ∙ product_order (bits a.p) (bits a.q) (bits a.u) (bits a.v) _ _
    c.share.ensures.0 (c.share.ensures.1 ∙ c.size.ensures)
    c.share-2.ensures.0 (c.share-2.ensures.1 ∙ c.size-2.ensures)
    ∙ same_order (to_z-of_z w64 _ f.p) (to_z-of_z w64 _ f.q) (to_z-of_z w64 _ f.u) (to_z-of_z w64 _ f.v))
