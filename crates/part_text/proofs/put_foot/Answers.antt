-- `put_foot` meets its contract: one line, or none.
use mathlib.Core.Path.{refl}
use mathlib.Core.List.{[]}
use Rattle.decimals.specs.Text.{ascii, put}
use Rattle.decimals.proofs.Puts.{put_as}
use Rattle.listing_parts.proofs.Cases.{foot_last, foot_earlier}
use Rattle.part_text.proofs.put_foot.Goals as goal

pub returns-then-part-bytes : goal.returns-then-part-bytes
unfolding put
returns-then-part-bytes c = put_as [] _ _ refl (foot_earlier _ _ _ c.if-part-bytes.true)

pub returns : goal.returns
unfolding ascii
returns c = put_as _ _ _ c.put_count.ensures (foot_last _ _ _ c.if-part-bytes.false)
