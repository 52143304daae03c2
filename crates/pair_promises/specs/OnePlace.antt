-- Why points are not ordered by their places in binary64: here two pieces cross a third at two points, in order, that have
-- one place.
use Rattle.std.specs.Prelude.{◌≡◌, List, [], ◌∷◌, map, ℕ, pos, negsuc}
use Rattle.std.specs.Float.{binary64}
use Rattle.std.specs.Float.Ieee.{to_bits}
use Rattle.fractions.specs.Point.{point_order}
use Rattle.std.specs.declared.cmp.Ordering.TheVariants.{Less}
use Rattle.line_segment.specs.declared.LineSegment.{LineSegment}
use Rattle.line_segment.specs.Piece.{piece_of}
use Rattle.line_segment.specs.Segment.{crossing_of}
use Rattle.place.specs.Place.{place_of, values_of}

-- (-32767,-32761)-(32767,32765), (19998,-32594)-(19997,31223) and (19998,-30767)-(19997,30833)
abbrev pub third : LineSegment
third = piece_of 3 (negsuc 32766) (negsuc 32760) (pos 32767) (pos 32765)

abbrev pub sooner : LineSegment
sooner = piece_of 3 (pos 19998) (negsuc 30766) (pos 19997) (pos 30833)

abbrev pub later : LineSegment
later = piece_of 3 (pos 19998) (negsuc 32593) (pos 19997) (pos 31223)

-- the values of the place, by their bits
abbrev pub placed : LineSegment → List ℕ
placed s = map (to_bits binary64) (values_of (place_of third s))

pub record OnePlace : Type 0 where
  pub sooner_at : placed sooner ≡ 0x40d3_874b_422a_4331 ∷ 0x40d3_872f_0697_baba ∷ []
  pub later_at : placed later ≡ 0x40d3_874b_422a_4331 ∷ 0x40d3_872f_0697_baba ∷ []
  -- .. and yet
  pub two_points : point_order (crossing_of third sooner) (crossing_of third later) ≡ Less
