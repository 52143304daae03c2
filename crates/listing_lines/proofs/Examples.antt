-- Lines of docs/CHART.md, and of places on both sides of zero, computed.
-- Assumes nothing.
use mathlib.Core.Path.{◌≡◌, refl}
use mathlib.Core.Bool.{true, false}
use Prim.Native.Nat.{ℕ}
use lib.IntN.{ℤ, pos, negsuc}
use Rattle.fractions.specs.declared.Point.{Point}
use Rattle.fractions.specs.Order.{order}
use Rattle.fractions.specs.Fraction.{ratio_order}
use Rattle.fractions.specs.Point.{point_order}
use Rattle.line_segment.specs.declared.LineSegment.{LineSegment}
use Rattle.line_segment.specs.Piece.{point_of, end_order}
use Rattle.place.specs.declared.Where.{Where}
use Rattle.place.specs.Place.{along_by, along_of}
use Rattle.decimals.specs.Text.{ascii}
use Rattle.decimals.specs.Decimal.{digits, decimal, signed_decimal}
use Rattle.units.specs.Units.{low_of, high_of}
use Rattle.listing_lines.specs.Lines.{count_line, complete_line, number_text, point_text, end_text, place_text, pair_line}

abbrev point : ℤ → ℤ → ℕ → Point
point x y d = record { x = x; y = y; d = d }

-- the stretch from x to u at frequency 0
abbrev joined : ℤ → ℤ → LineSegment
joined x u = record { min = record { x = x; y = pos 0; included = true }; max = record { x = u; y = pos 0; included = true } }

record Table : Type 0 where
  count : count_line (ascii "chart ") 2 ≡ ascii "chart 2\n"
  complete : complete_line true ≡ ascii "complete yes\n"
  not_complete : complete_line false ≡ ascii "complete no\n"
  whole : pair_line (Where.At (point (pos 2) (pos 2) 1)) 0 1 ≡ ascii "pair 0 1 at 2 2 2 2\n"
  thirds : pair_line (Where.At (point (pos 2) (negsuc 1) 3)) 0 1 ≡ ascii "pair 0 1 at 0 1 -1 0\n"
  -- "A crossing at 1480.5"; "-3/2 gives -2 and -1"
  halves : pair_line (Where.At (point (pos 2961) (negsuc 2) 2)) 5 63 ≡ ascii "pair 5 63 at 1480 1481 -2 -1\n"
  stretch : pair_line (Where.Along (point (negsuc 4) (pos 0) 1) (point (pos 2) (pos 0) 1)) 10 11 ≡ ascii "pair 10 11 along -5 0 2 0\n"
  -- "(0,0)-(2,0) and (2,0)-(5,0), kind 3": one shared point, and what a stretch on from it reads
  one_point : pair_line (along_of (joined (pos 2) (pos 2))) 0 1 ≡ ascii "pair 0 1 at 2 2 0 0\n"
  forward : pair_line (along_of (joined (pos 2) (pos 3))) 0 1 ≡ ascii "pair 0 1 along 2 0 3 0\n"

table : Table
unfolding order ratio_order point_order point_of end_order along_by along_of count_line complete_line number_text point_text end_text place_text pair_line ascii digits decimal signed_decimal low_of high_of
table = record {
  count = refl;
  complete = refl;
  not_complete = refl;
  whole = refl;
  thirds = refl;
  halves = refl;
  stretch = refl;
  one_point = refl;
  forward = refl;
}
