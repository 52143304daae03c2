-- Verdicts computed from the definitions: the edges of each row, and the order in which rows are asked.
use mathlib.Core.Path.{◌≡◌, refl}
use mathlib.Core.List.{List, [], ◌∷◌, ◌++◌}
use Prim.Native.Nat.{ℕ}
use lib.IntN.{ℤ, pos, negsuc}
use lib.ListN.{replicate}
use Rattle.charts.specs.Fault.{outside, off_range, eq_z, same_ends, fault_of}
use Rattle.charts.specs.Chart.{number_at, fault_at, pieces, verdict_of}
use Rattle.charts.specs.Answer.{room, listing_of}
use Rattle.charts.specs.Pair.{pair_verdict_of}
use Rattle.charts.specs.Verdict.{Accepted, Refused}

abbrev pub five : ℕ → ℕ → ℕ → ℕ → ℕ → List ℤ
five kind x1 y1 x2 y2 = pos kind ∷ pos x1 ∷ pos y1 ∷ pos x2 ∷ pos y2 ∷ []

pub record Examples : Type 0 where
  pub empty : verdict_of [] ≡ Accepted 0
  -- "Counts 200 and 201": 1,000 numbers are judged piece by piece, 1,005 are not looked at
  pub count_200 : verdict_of (replicate 1000 (pos 1)) ≡ Refused 6 0
  pub count_201 : verdict_of (replicate 1005 (pos 9)) ≡ Refused 3 0
  pub no_multiple : verdict_of (replicate 327 (pos 9)) ≡ Refused 9 0
  -- "coordinates 32,767 and 32,768"
  pub in_range : verdict_of (five 3 32767 0 0 32767) ≡ Accepted 1
  pub off_range' : verdict_of (five 3 32767 0 0 32768) ≡ Refused 5 0
  pub least : fault_of (pos 0) (negsuc 32766) (pos 0) (pos 1) (pos 0) ≡ 0
  pub below_least : fault_of (pos 0) (negsuc 32767) (pos 0) (pos 1) (pos 0) ≡ 5
  -- 4 before 5, 5 before 6, the first piece before the second
  pub kind_first : verdict_of (five 4 40000 0 40000 0) ≡ Refused 4 0
  pub range_next : verdict_of (five 3 40000 0 40000 0) ≡ Refused 5 0
  pub ends_last : verdict_of (five 3 0 0 1 0 ++ five 0 2 2 2 2 ++ five 4 0 0 0 0) ≡ Refused 6 1
  pub upright : verdict_of (five 3 2 0 2 5) ≡ Accepted 1
  -- two pieces: 2 bytes of room; ten numbers
  pub room_for_two : listing_of (five 3 0 0 4 4 ++ five 3 0 4 4 0) 2 ≡ Accepted 2
  pub no_room : listing_of (five 3 0 0 4 4 ++ five 3 0 4 4 0) 1 ≡ Refused 8 0
  pub faults_first : listing_of (five 3 0 0 4 4 ++ five 7 0 4 4 0) 1 ≡ Refused 4 1
  pub not_ten : pair_verdict_of (five 9 0 0 4 4) ≡ Refused 9 0

pub examples : Examples
unfolding verdict_of pieces fault_at number_at fault_of outside off_range same_ends eq_z listing_of room pair_verdict_of
examples =
    record {
      empty = refl;
      count_200 = refl;
      count_201 = refl;
      no_multiple = refl;
      in_range = refl;
      off_range' = refl;
      least = refl;
      below_least = refl;
      kind_first = refl;
      range_next = refl;
      ends_last = refl;
      upright = refl;
      room_for_two = refl;
      no_room = refl;
      faults_first = refl;
      not_ten = refl;
    }
