-- New pairs at a point, and pairs written into the lent bytes.
use Rattle.std.specs.Prelude.{◌≡◌, Bool, List, map, ℕ, ◌+◌, ◌≤◌, ℤ, length}
use Rattle.std.proofs.lemmas.List.Edits.{sets}
use Rattle.fractions.specs.declared.Point.{Point}
use Rattle.sweep.specs.Lists.{Pair, keep}
use Rattle.ported_arrays.specs.Agreement.{flat}
use Rattle.ported_pieces.specs.Table.{piece_in}
use Rattle.full_steps.specs.InPlace.{fresh}
use Rattle.full_order.specs.Finer.{finer}
use Rattle.full_points.specs.declared.Spot.{Spot}
use Rattle.full_points.specs.Spot.{Marks}

-- a pair of pieces at q is new there; how many pieces the chart has plays no part in it
abbrev pub fresh_in : List ℤ → Point → Pair → Bool
fresh_in table q pair = fresh (finer 0 (piece_in table)) q pair

-- a piece's pairs with those of a list
unfoldable pub partners : ℕ → List ℕ → List Pair
partners i l = map (λ j. (i, j)) l

-- the new ones of some pairs have room from place `end` on
pub record Roomy (table : List ℤ) (p : Spot) (all : List Pair) (lent : List ℕ) (end : ℕ) : Type 0 where
  pub point : Point
  pub marks : Marks p point
  pub room : end + length (flat (keep (fresh_in table point) all)) ≤ length lent

-- `after` is `before` with these pairs written from place `end` on, and they end at r
pub record Listed (new : List Pair) (before : List ℕ) (end : ℕ) (after : List ℕ) (r : ℕ) : Type 0 where
  pub bytes_are : after ≡ sets before end (flat new)
  pub end_is : r ≡ end + length (flat new)
