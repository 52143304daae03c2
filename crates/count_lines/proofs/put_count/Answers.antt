-- `put_count` meets its contract: the word, the number and the line's end, one after another.
use Rattle.decimals.specs.Text.{ascii}
use Rattle.decimals.proofs.Puts.{put_then}
use Rattle.listing_lines.specs.Lines.{count_line}
use Rattle.count_lines.proofs.put_count.Goals as goal

pub returns : goal.returns
unfolding count_line ascii
returns c =
    put_then _ _ _ (put_then _ _ _ c.put_word-named.ensures c.put_natural-counted.ensures) c.put_byte.ensures
