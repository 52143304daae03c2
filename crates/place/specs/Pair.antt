-- The pair call: the place of the meeting of two pieces that are given as ten numbers.
use Rattle.std.specs.Prelude.{List, ℤ}
use Rattle.charts.specs.Verdict.{Verdict}
use Rattle.charts.specs.Piece.{piece_at}
use Rattle.charts.specs.Pair.{pair_verdict_of}
use Rattle.place.specs.declared.Place.{Place}
use Rattle.place.specs.declared.PlaceAnswer.{PlaceAnswer}
use Rattle.place.specs.Place.{place_of}

-- "A refusal returns its number and a place, with every other field .. nothing"; "Done has place zero"
abbrev pub place_answer : Place → Verdict → PlaceAnswer
place_answer p (Verdict.Accepted n) = record { number = 0; place = 0; meeting = p }
place_answer p (Verdict.Refused k i) = record { number = k; place = i; meeting = Place.Nothing }

-- "The pair calls take ten numbers": the first piece asks the second
unfoldable pub place_answer_of : List ℤ → PlaceAnswer
place_answer_of list = place_answer (place_of (piece_at list 0) (piece_at list 1)) (pair_verdict_of list)
