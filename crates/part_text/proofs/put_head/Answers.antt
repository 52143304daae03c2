-- `put_head` meets its contract: two lines, or none.
use mathlib.Core.Path.{refl}
use mathlib.Core.List.{[]}
use Rattle.decimals.specs.Text.{ascii, put}
use Rattle.decimals.proofs.Puts.{put_then, put_as}
use Rattle.listing_parts.proofs.Cases.{head_first, head_later}
use Rattle.part_text.proofs.put_head.Goals as goal

pub returns-then-part-ne0 : goal.returns-then-part-ne0
unfolding put
returns-then-part-ne0 c = put_as [] _ _ refl (head_later _ _ _ c.if-part-ne0.true)

pub returns : goal.returns
unfolding ascii
returns c =
    put_as _ _ _ (put_then _ _ _ c.put_count-counted.ensures c.put_complete.ensures) (head_first _ _ _ c.if-part-ne0.false)
