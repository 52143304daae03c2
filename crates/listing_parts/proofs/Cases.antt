-- What each branch puts is its part's.
-- Assumes nothing.
use mathlib.Core.Path.{◌≡◌, sym, ◌∙◌}
use mathlib.Core.Bool.{Bool}
use mathlib.Core.List.{List, [], ◌++◌}
use Prim.Native.Nat.{ℕ, ◌*◌, ◌-◌, ◌/◌, ◌<◌}
use native.Mathlib.Omega.{arith}
use lib.IntN.{ℤ}
use lib.ListN.{length, take, drop, length-drop, drop_of_length-le}
use lib.Seq.{take_all}
use borrow.Author.Tests.{eq-eqb, ne_eqb}
use Rattle.bentley_ottmann.specs.declared.Swept.{Swept}
use Rattle.decimals.specs.Text.{ascii}
use Rattle.listing_lines.specs.Lines.{count_line, complete_line, pairs_in, pair_lines}
use Rattle.listing_parts.specs.Parts.{part_bytes, head_of, foot_of, part_of}

-- ---- the first part's lines, and the last one's
module _ (list : List ℤ) (complete : Bool) (part : ℕ) where
  pub head_first : part ≡ 0 → count_line (ascii "chart ") (length list / 5) ++ complete_line complete ≡ head_of list complete part
  unfolding head_of
  head_first e = rw (eq-eqb part 0 e)

  pub head_later : (part ≡ 0 → ⊥) → [] ≡ head_of list complete part
  unfolding head_of
  head_later z = rw (ne_eqb part 0 z)

module _ (steps bytes part : ℕ) where
  pub foot_last : part ≡ bytes / part_bytes → count_line (ascii "steps ") steps ≡ foot_of steps bytes part
  unfolding foot_of
  foot_last e = rw (eq-eqb part (bytes / part_bytes) e)

  pub foot_earlier : (part ≡ bytes / part_bytes → ⊥) → [] ≡ foot_of steps bytes part
  unfolding foot_of
  foot_earlier z = rw (ne_eqb part (bytes / part_bytes) z)

-- ---- a part's pairs
module _ (pairs : List ℕ) (part : ℕ) where
  pub none_behind : length pairs / part_bytes < part → [] ≡ pairs_in (take part_bytes (drop (part_bytes * part) pairs))
  unfolding pairs_in
  none_behind h = rw (drop_of_length-le pairs {i = part_bytes * part} (omega arith))

  pub all_left : part ≡ length pairs / part_bytes → (size : ℕ) → size ≡ length pairs - part_bytes * part
      → take size (drop (part_bytes * part) pairs) ≡ take part_bytes (drop (part_bytes * part) pairs)
  all_left e size d =
      let left = length-drop (part_bytes * part) pairs in
      take_all size (drop (part_bytes * part) pairs) (omega (arith, left)) ∙ sym (take_all part_bytes (drop (part_bytes * part) pairs) (omega (arith, left)))

-- ---- the part
module _ (number : ℕ) (list : List ℤ) (swept : Swept) (pairs : List ℕ) (part : ℕ) where
  pub part_refused : (number ≡ 0 → ⊥) → count_line (ascii "refused ") number ≡ part_of number list swept pairs part
  unfolding part_of
  part_refused z = rw (ne_eqb number 0 z)

  pub part_charted : number ≡ 0
      → head_of list swept.complete part
      ++ pair_lines list (pairs_in (take part_bytes (drop (part_bytes * part) pairs)))
      ++ foot_of swept.steps (length pairs) part
      ≡ part_of number list swept pairs part
  unfolding part_of
  part_charted e = rw (eq-eqb number 0 e)
