-- What charts need, the refusals of the whole call in their order, and a number below zero, by the definitions.
use mathlib.Core.Path.{◌≡◌, refl}
use mathlib.Core.List.{[], ◌∷◌}
use Prim.Native.Nat.{suc, ◌+◌, ◌-◌, ◌*◌}
use lib.IntN.{pos, negsuc}
use lib.ListN.{replicate}
use Rattle.charts.specs.Answer.{room}
use Rattle.charts.specs.Chart.{most}
use Rattle.batch.specs.Numbers.{word}
use Rattle.batch.specs.Charts.{need, sum, fits}
use Rattle.batch.specs.Batch.{refusal_of}

pub record Examples : Type 0 where
  pub none : need 0 ≡ 0
  pub one_piece : need 5 ≡ 0
  pub two_pieces : need 10 ≡ 2
  pub no_multiple : need 11 ≡ 0
  pub largest : need (5 * most) ≡ most * (most - 1)
  pub too_many : need (5 * suc most) ≡ 0
  pub no_charts : refusal_of 0 [] 0 0 ≡ 0
  pub sixteen_empty : refusal_of 0 (replicate 16 0) 0 160 ≡ 0
  pub seventeen : refusal_of 1 (replicate 17 0) 0 0 ≡ 10
  pub too_long : refusal_of 21 (10 ∷ 10 ∷ []) 4 20 ≡ 11
  pub wrapping : refusal_of 10 (18446744073709551615 ∷ 11 ∷ []) 0 20 ≡ 11
  pub few_bytes : refusal_of 20 (10 ∷ 10 ∷ []) 3 0 ≡ 11
  pub few_numbers : refusal_of 20 (10 ∷ 10 ∷ []) 4 19 ≡ 8
  pub refused_charts : refusal_of (11 + 5 * suc most) (11 ∷ 5 * suc most ∷ []) 0 20 ≡ 0
  pub minus_one : word (negsuc 0) ≡ 18446744073709551615
  pub least : word (negsuc 9223372036854775807) ≡ 9223372036854775808
  pub from_zero : word (pos 7) ≡ 7

pub examples : Examples
unfolding need room sum fits refusal_of word
examples =
    record { none = refl; one_piece = refl; two_pieces = refl; no_multiple = refl; largest = refl; too_many = refl; no_charts = refl; sixteen_empty = refl; seventeen = refl; too_long = refl; wrapping = refl; few_bytes = refl; few_numbers = refl; refused_charts = refl; minus_one = refl; least = refl; from_zero = refl }
