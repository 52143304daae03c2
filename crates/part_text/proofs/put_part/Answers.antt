-- `put_part` meets its contract: a refusal's line, or the part's.
use Rattle.decimals.specs.Text.{ascii}
use Rattle.decimals.proofs.Puts.{put_then, put_as}
use Rattle.listing_parts.proofs.Cases.{part_refused, part_charted}
use Rattle.part_text.proofs.put_part.Goals as goal

pub returns-then-number-ne0 : goal.returns-then-number-ne0
unfolding ascii
returns-then-number-ne0 c =
    put_as _ _ _ c.put_count.ensures (part_refused _ _ _ _ _ c.if-number-ne0.true)

pub returns : goal.returns
returns c =
    put_as _ _ _ (put_then _ _ _ (put_then _ _ _ c.put_head-begun.ensures c.put_lines-listed.ensures) c.put_foot.ensures)
    (part_charted _ _ _ _ _ c.if-number-ne0.false)
