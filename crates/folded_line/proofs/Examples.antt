-- A line of two pieces, and the refusals at their limits, computed.
use mathlib.Core.Path.{◌≡◌, refl}
use mathlib.Core.List.{[], ◌∷◌}
use lib.IntN.{pos}
use Rattle.charts.specs.Verdict.{Accepted, Refused}
use Rattle.folded_line.specs.Folded.{folded}
use Rattle.folded_line.specs.Line.{count, joint, kind_of, five, fives, line}
use Rattle.folded_line.specs.Drawing.{off, off_range, uneven, line_verdict, drawing_of}

pub record Examples : Type 0 where
  -- 0, 12 and 24 are multiples of 12, 0 and 24 the even ones
  pub at_the_fold : folded 12 12 ≡ 12
  pub beyond_it : folded 12 20 ≡ 4
  pub at_zero : folded 12 24 ≡ 0
  -- four times x up to 5: the joint is at 3
  pub two_pieces : line 4 12 5
      ≡ pos 1 ∷ pos 0 ∷ pos 0 ∷ pos 3 ∷ pos 12 ∷ pos 3 ∷ pos 3 ∷ pos 12 ∷ pos 5 ∷ pos 4 ∷ []
  -- up to the joint there is one piece, which has it
  pub to_a_joint : line 4 12 3 ≡ pos 3 ∷ pos 0 ∷ pos 0 ∷ pos 3 ∷ pos 12 ∷ []
  pub two_hundred : drawing_of 1 1 200 1000 ≡ Accepted 200
  pub one_more : drawing_of 1 1 201 1005 ≡ Refused 14 0
  -- 13 comes before 14, 14 before 8
  pub uneven_first : drawing_of 2 1 201 0 ≡ Refused 13 0
  pub many_first : drawing_of 1 1 201 0 ≡ Refused 14 0
  pub no_room : drawing_of 4 12 5 9 ≡ Refused 8 0
  -- 2 does not divide 9, but up to 4 the line does not fold
  pub does_not_fold : drawing_of 2 9 4 5 ≡ Accepted 1
  pub out_of_range : drawing_of 61 1 1 5 ≡ Refused 12 0

pub examples : Examples
unfolding folded count joint kind_of five fives line off off_range uneven line_verdict drawing_of
examples =
    record {
      at_the_fold = refl;
      beyond_it = refl;
      at_zero = refl;
      two_pieces = refl;
      to_a_joint = refl;
      two_hundred = refl;
      one_more = refl;
      uneven_first = refl;
      many_first = refl;
      no_room = refl;
      does_not_fold = refl;
      out_of_range = refl;
    }
