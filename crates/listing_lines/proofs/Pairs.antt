-- Pairs in bytes, one after another, and the lines of those that are left.
-- Assumes nothing.
use mathlib.Core.Path.{◌≡◌, refl}
use mathlib.Core.List.{List, [], ◌∷◌}
use Prim.Native.Nat.{ℕ, suc, ◌+◌, ◌*◌, ◌/◌, ◌≤◌, ◌<◌}
use native.Mathlib.Omega.{arith}
use lib.IntN.{ℤ}
use lib.ListN.{length, get_or, drop, length-drop}
use lib.Seq.{drop-cons}
use Rattle.charts.specs.Piece.{piece_at}
use Rattle.place.specs.Place.{where_of}
use Rattle.decimals.specs.Text.{Text, put}
use Rattle.decimals.proofs.Puts.{put_append}
use Rattle.listing_lines.specs.Lines.{pair_line, pairs_in, pair_lines}

pairs_next : (bytes : List ℕ) (k : ℕ) → 2 * k + 1 < length bytes
    → pairs_in (drop (2 * k) bytes) ≡ (get_or bytes (2 * k) 0, get_or bytes (2 * k + 1) 0) ∷ pairs_in (drop (2 * (k + 1)) bytes)
unfolding pairs_in
pairs_next bytes k h =
    let one : 2 * k + 1 ≡ suc (2 * k) = omega arith in
    let two : 2 * (k + 1) ≡ suc (suc (2 * k)) = omega arith in
    rw (one, two, drop-cons bytes (2 * k) 0 (omega arith), drop-cons bytes (suc (2 * k)) 0 (omega arith))

few : (bytes : List ℕ) → length bytes ≤ 1 → pairs_in bytes ≡ []
unfolding pairs_in
few [] h = refl
few (a ∷ []) h = refl
few (a ∷ b ∷ bytes) h = absurd (omega arith)

module _ (list : List ℤ) (bytes : List ℕ) (k : ℕ) (t : Text) where
  -- the line of pair k is put, and those behind it are left
  pub line_next : {u : Text} (a b : ℕ) → a ≡ get_or bytes (2 * k) 0 → b ≡ get_or bytes (2 * k + 1) 0 → 2 * k + 1 < length bytes
      → u ≡ put (pair_line (where_of (piece_at list a) (piece_at list b)) a b) t
      → put (pair_lines list (pairs_in (drop (2 * (k + 1)) bytes))) u ≡ put (pair_lines list (pairs_in (drop (2 * k) bytes))) t
  unfolding pair_lines
  line_next a b d e h p = rw (p, pairs_next bytes k h, put_append, d, e)

  pub lines_end : length bytes / 2 ≤ k → put (pair_lines list (pairs_in (drop (2 * k) bytes))) t ≡ t
  unfolding pair_lines put
  lines_end h = rw (few (drop (2 * k) bytes) (omega (arith, length-drop (2 * k) bytes)))
