-- A piece from its five numbers, and those of the array.
use mathlib.Core.Path.{◌≡◌, ◌∙◌}
use mathlib.Core.List.{List}
use Prim.Native.Nat.{ℕ, ◌+◌, ◌*◌, ◌/◌, ◌%◌}
use lib.Dec.{eqb}
use lib.IntN.{ℤ, nat_abs}
use Rattle.line_segment.specs.declared.LineSegment.{LineSegment}
use Rattle.line_segment.specs.Piece.{first_included, second_included}
use Rattle.ported_pieces.specs.Table.{number_in, piece_of, piece_in}

pub by_marks : (x y x' y' kind : ℤ) {u v u' v' : ℤ} {marks : ℕ} → u ≡ x → v ≡ y → u' ≡ x' → v' ≡ y' → marks ≡ nat_abs kind
    → ◌≡◌ {A = LineSegment}
    (record {
      min = record { x = u; y = v; included = eqb (marks % 2) 1 };
      max = record { x = u'; y = v'; included = eqb (marks / 2 % 2) 1 };
    })
    (piece_of x y x' y' kind)
unfolding first_included second_included
by_marks x y x' y' kind a b c d e k =
    record {
      min = record { x = a k; y = b k; included = eqb (e k % 2) 1 };
      max = record { x = c k; y = d k; included = eqb (e k / 2 % 2) 1 };
    }

module _ (table : List ℤ) (i : ℕ) {p : LineSegment} {x y x' y' kind : ℤ} where
  pub the_piece :
      p ≡ piece_of x y x' y' kind → x ≡ number_in table (5 * i) → y ≡ number_in table (5 * i + 1)
      → x' ≡ number_in table (5 * i + 2) → y' ≡ number_in table (5 * i + 3) → kind ≡ number_in table (5 * i + 4)
      → p ≡ piece_in table i
  unfolding piece_in
  the_piece f a b c d e = f ∙ (λ k. piece_of (a k) (b k) (c k) (d k) (e k))
