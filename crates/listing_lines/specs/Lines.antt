-- The lines of a listing, as docs/CHART.md prints them. A text is a list of ASCII codes.
-- Assumes nothing.
use Rattle.std.specs.Prelude.{Bool, true, false, List, [], ◌∷◌, ◌++◌, ℕ, ℤ}
use Rattle.fractions.specs.declared.Point.{Point}
use Rattle.charts.specs.Piece.{piece_at}
unfoldable pub use Rattle.charts.specs.PairList.{pairs_in}
use Rattle.place.specs.declared.Where.{Where}
use Rattle.place.specs.Place.{where_of}
use Rattle.sweep.specs.Lists.{Pair}
use Rattle.decimals.specs.Text.{ascii}
use Rattle.decimals.specs.Decimal.{decimal, signed_decimal}
use Rattle.units.specs.Units.{low_of, high_of}

-- a word and a number: "chart 2", "steps 5", "refused 1"
unfoldable pub count_line : List ℕ → ℕ → List ℕ
count_line word n = word ++ decimal n ++ ascii "\n"

-- "no upright piece"
unfoldable pub complete_line : Bool → List ℕ
complete_line true = ascii "complete yes\n"
complete_line false = ascii "complete no\n"

-- a space and a number
unfoldable pub number_text : ℤ → List ℕ
number_text z = ascii " " ++ signed_decimal z

-- "at xlow xhigh ylow yhigh": "the greatest whole unit not above the exact value and the least not below it"
unfoldable pub point_text : Point → List ℕ
point_text p =
    number_text (low_of p.x p.d) ++ number_text (high_of p.x p.d)
    ++ number_text (low_of p.y p.d) ++ number_text (high_of p.y p.d)

-- an overlap's end is whole, and so its own unit
unfoldable pub end_text : Point → List ℕ
end_text p = number_text (low_of p.x p.d) ++ number_text (low_of p.y p.d)

-- "An overlap reads `pair a b along x1 y1 x2 y2`"; one of a single point is At, as a crossing is
unfoldable pub place_text : Where → List ℕ
place_text Where.Nothing = []
place_text (Where.At p) = ascii " at" ++ point_text p
place_text (Where.Along p q) = ascii " along" ++ end_text p ++ end_text q

-- "the lesser and greater number": of a pair a, b whose pieces meet there
unfoldable pub pair_line : Where → ℕ → ℕ → List ℕ
pair_line w a b = ascii "pair " ++ decimal a ++ ascii " " ++ decimal b ++ place_text w ++ ascii "\n"

-- "per pair in sweep order": the pairs of a list's pieces, in the order given
unfoldable pub pair_lines : List ℤ → List Pair → List ℕ
pair_lines list [] = []
pair_lines list (p ∷ ps) = pair_line (where_of (piece_at list p.0) (piece_at list p.1)) p.0 p.1 ++ pair_lines list ps
