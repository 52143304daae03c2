-- `put_pair` meets its contract: the two numbers, and where their pieces meet.
use mathlib.Core.Path.{ap, ap₂, ◌∙◌}
use Rattle.decimals.specs.Text.{ascii}
use Rattle.decimals.proofs.Puts.{put_then, put_as}
use Rattle.place.specs.declared.Where.{Where}
use Rattle.place.specs.Place.{where_of}
use Rattle.listing_lines.specs.Lines.{pair_line}
use Rattle.pair_lines.proofs.put_pair.Goals as goal

pub returns : goal.returns
unfolding pair_line ascii
returns c =
    put_as _ _ _
    (put_then _ _ _
    (put_then _ _ _
    (put_then _ _ _
    (put_then _ _ _
    (put_then _ _ _ c.put_word-named.ensures c.put_natural-first.ensures)
    c.put_byte-spaced.ensures)
    c.put_natural-second.ensures)
    c.put_place-placed.ensures)
    c.put_byte.ensures)
    (ap (λ (w : Where). pair_line w c.args.a c.args.b) (c.exact-found.ensures ∙ ap₂ where_of c.piece_at.ensures c.piece_at-2.ensures))
