-- The used pieces beside each other: one place more.
-- Assumes nothing.
use mathlib.Core.Path.{◌≡◌, refl, ◌∙◌}
use mathlib.Core.Bool.{true, false}
use mathlib.Core.List.{List, [], ◌∷◌, ◌++◌, append-nil}
use Prim.Native.Nat.{ℕ, suc, ◌+◌, ◌<◌}
use native.Mathlib.Numerals.{add-one}
use native.Mathlib.Omega.{arith}
use borrow.Table.Elements.{map_app}
use lib.IntN.{ℤ}
use lib.ListN.{length, set, length-append, length-set}
use lib.Seq.{take-suc-set}
use Rattle.line_segment.specs.declared.LineSegment.{LineSegment}
use Rattle.charts.specs.Piece.{piece_at}
use Rattle.open_chart.specs.Memory.{places, is_used, used_below}
use Rattle.open_chart.specs.Listing.{Gathered}

module _ (chart : List ℤ) where
  pub below_none : used_below chart 0 ≡ []
  unfolding used_below
  below_none = refl

  pub below_used : (i : ℕ) → is_used chart i ≡ true → used_below chart (suc i) ≡ used_below chart i ++ (i ∷ [])
  unfolding used_below
  below_used i e = rw e

  pub below_free : (i : ℕ) → is_used chart i ≡ false → used_below chart (suc i) ≡ used_below chart i
  unfolding used_below
  below_free i e = rw e (append-nil _)

  pub gathered_none : (all : List LineSegment) (names : List ℕ) → length names ≡ places → Gathered chart 0 all names 0
  gathered_none all names h =
      record { counted = rw below_none; pieces = rw below_none; numbers = rw below_none; long = h }

  module _ (i : ℕ) (all : List LineSegment) (names : List ℕ) (count : ℕ) (g : Gathered chart i all names count) where
    pub gathered_used : (s : LineSegment) → is_used chart i ≡ true → s ≡ piece_at chart i → count < length all → count < length names
        → Gathered chart (i + 1) (set all count s) (set names count i) (count + 1)
    gathered_used s e f h k =
        record {
          counted = rw (add-one i, below_used i e, length-append) (omega (arith, g.counted));
          pieces =
              rw (add-one i, add-one count, below_used i e, map_app, ← f, ← g.pieces) (take-suc-set all count s h);
          numbers = rw (add-one i, add-one count, below_used i e, ← g.numbers) (take-suc-set names count i k);
          long = length-set names count i ∙ g.long;
        }

    pub gathered_free : is_used chart i ≡ false → Gathered chart (i + 1) all names count
    gathered_free e =
        record { counted = rw (add-one, below_free i e) g.counted; pieces = rw (add-one, below_free i e) g.pieces; numbers = rw (add-one, below_free i e) g.numbers; long = g.long }
