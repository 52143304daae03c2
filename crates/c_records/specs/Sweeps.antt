-- What a sweep returns, in C's numbers: the last point by its three numbers, all zero where there is none.
use Rattle.std.specs.Prelude.{true, false, pos, Option, None, Some}
use Rattle.fractions.specs.declared.Point.{Point}
use Rattle.bentley_ottmann.specs.declared.Swept.{Swept}
use Rattle.c_records.specs.declared.SweptFields.{SweptFields}

-- "the last point, or none after zero steps"
abbrev pub swept_as : Swept → Option Point → SweptFields
swept_as s None =
    record {
      number = s.number;
      place = s.place;
      pairs = s.pairs;
      steps = s.steps;
      ended = s.ended;
      complete = s.complete;
      visited = false;
      x = pos 0;
      y = pos 0;
      d = 0;
      examined = s.examined;
    }
swept_as s (Some p) =
    record {
      number = s.number;
      place = s.place;
      pairs = s.pairs;
      steps = s.steps;
      ended = s.ended;
      complete = s.complete;
      visited = true;
      x = p.x;
      y = p.y;
      d = p.d;
      examined = s.examined;
    }

unfoldable pub swept_fields : Swept → SweptFields
swept_fields s = swept_as s s.last
