-- The pairs of the used places, counted from 0 and renamed, are the pairs of the open chart.
-- Assumes nothing.
use mathlib.Core.Path.{◌≡◌, refl, sym, ap, ap₂, ◌∙◌}
use mathlib.Core.Bool.{Bool, true, false}
use mathlib.Core.List.{List, [], ◌∷◌, ◌++◌, map, append-nil}
use Prim.Native.Nat.{ℕ, zero, suc, ◌<◌}
use native.Mathlib.Omega.{arith}
use borrow.Table.Elements.{map_app}
use lib.IntN.{ℤ}
use Rattle.naive.specs.Pairs.{Pair, row, rows, bytes}
use Rattle.naive.specs.AllPairs.{meets}
use Rattle.naive.proofs.Rows.{row_none, row_yes, row_no, rows_none, rows_more}
use Rattle.open_chart.specs.Memory.{is_used}
use Rattle.open_chart.specs.Listing.{meets_on, named}
use Rattle.open_chart.proofs.Counts.{count, count_none, count_used, count_free}

-- ---- both numbers of a pair renamed
abbrev pub both : List ℕ → Pair → Pair
both names p = (named names p.0, named names p.1)

pub bytes_named : (names : List ℕ) (ps : List Pair) → bytes (map (both names) ps) ≡ map (named names) (bytes ps)
unfolding bytes
bytes_named names [] = refl
bytes_named names (p ∷ ps) = ap (λ (l : List ℕ). named names p.0 ∷ named names p.1 ∷ l) (bytes_named names ps)

module _ (chart : List ℤ) (names : List ℕ) where
  -- the name under a used place's count is its number
  abbrev pub Named : ℕ → Type 0
  Named n = (i : ℕ) → i < n → is_used chart i ≡ true → named names (count chart i) ≡ i

  -- the test of two names
  abbrev pub beside : ℕ → ℕ → Bool
  beside k l = meets chart (named names k) (named names l)

  case : {P : Type 0} (t : Bool) → (t ≡ true → P) → (t ≡ false → P) → P
  case true f g = f refl
  case false f g = g refl

  -- of used places the test is that of their pieces, and a free one meets nothing
  on_used : (a b : ℕ) → is_used chart a ≡ true → is_used chart b ≡ true → meets_on chart a b ≡ meets chart a b
  unfolding meets_on
  on_used a b u v = rw (u, v)

  off_first : (a b : ℕ) → is_used chart a ≡ false → meets_on chart a b ≡ false
  unfolding meets_on
  off_first a b u = rw u

  off_second : (a b : ℕ) → is_used chart a ≡ true → is_used chart b ≡ false → meets_on chart a b ≡ false
  unfolding meets_on
  off_second a b u v = rw (u, v)

  -- ---- the row of a, whose count is k
  row_free : (a b : ℕ) → is_used chart a ≡ false → row (meets_on chart) a b ≡ []
  row_free a zero u = row_none (meets_on chart) a
  row_free a (suc b) u = row_no (meets_on chart) a b (off_first a b u) ∙ row_free a b u

  module _ (a k : ℕ) (u : is_used chart a ≡ true) (e : named names k ≡ a) where
    -- the row as far as b, and one place more
    abbrev RowSame : ℕ → Type 0
    RowSame b = row (meets_on chart) a b ≡ map (both names) (row beside k (count chart b))

    row_on : (b : ℕ) → RowSame b → is_used chart b ≡ true → named names (count chart b) ≡ b → RowSame (suc b)
    row_on b before v name = case (meets chart a b) yes no
      where
        tested : beside k (count chart b) ≡ meets chart a b
        tested = ap₂ (meets chart) e name

        more : map (both names) (row beside k (suc (count chart b))) ≡ map (both names) (row beside k (count chart (suc b)))
        more = sym (ap (λ (n : ℕ). map (both names) (row beside k n)) (count_used chart b v))

        no : meets chart a b ≡ false → RowSame (suc b)
        no m =
            row_no (meets_on chart) a b (on_used a b u v ∙ m) ∙ before
            ∙ sym (ap (map (both names)) (row_no beside k (count chart b) (tested ∙ m))) ∙ more

        yes : meets chart a b ≡ true → RowSame (suc b)
        yes m =
            row_yes (meets_on chart) a b (on_used a b u v ∙ m)
            ∙ ap₂ (λ (l : List Pair) (p : Pair). l ++ (p ∷ [])) before (sym (ap₂ (λ (x y : ℕ). (x, y)) e name))
            ∙ sym (ap (map (both names)) (row_yes beside k (count chart b) (tested ∙ m)) ∙ map_app (both names) (row beside k (count chart b)) _)
            ∙ more

    row_past : (b : ℕ) → RowSame b → is_used chart b ≡ false → RowSame (suc b)
    row_past b before v =
        row_no (meets_on chart) a b (off_second a b u v) ∙ before
        ∙ sym (ap (λ (n : ℕ). map (both names) (row beside k n)) (count_free chart b v))

    row_named : (b : ℕ) → Named b → RowSame b
    row_named zero h = row_none (meets_on chart) a ∙ sym (ap (map (both names)) (ap (row beside k) (count_none chart) ∙ row_none beside k))
    row_named (suc b) h =
        let before : RowSame b = row_named b (λ i l. h i (omega arith)) in
        case (is_used chart b) (λ v. row_on b before v (h b (omega arith) v)) (row_past b before)

  -- ---- the rows
  abbrev pub RowsSame : ℕ → Type 0
  RowsSame n = rows (meets_on chart) n ≡ map (both names) (rows beside (count chart n))

  rows_past : (a : ℕ) → RowsSame a → is_used chart a ≡ false → RowsSame (suc a)
  rows_past a before v =
      rows_more (meets_on chart) a ∙ ap₂ ◌++◌ before (row_free a a v) ∙ append-nil _
      ∙ sym (ap (λ (n : ℕ). map (both names) (rows beside n)) (count_free chart a v))

  rows_on : (a : ℕ) → RowsSame a → is_used chart a ≡ true → Named (suc a) → RowsSame (suc a)
  rows_on a before v h =
      rows_more (meets_on chart) a
      ∙ ap₂ ◌++◌ before (row_named a (count chart a) v (h a (omega arith) v) a (λ i l. h i (omega arith)))
      ∙ sym (ap (map (both names)) (ap (rows beside) (count_used chart a v) ∙ rows_more beside (count chart a)) ∙ map_app (both names) (rows beside (count chart a)) _)

  pub rows_named : (n : ℕ) → Named n → RowsSame n
  rows_named zero h = rows_none (meets_on chart) ∙ sym (ap (map (both names)) (ap (rows beside) (count_none chart) ∙ rows_none beside))
  rows_named (suc a) h =
      let before : RowsSame a = rows_named a (λ i l. h i (omega arith)) in
      case (is_used chart a) (λ v. rows_on a before v h) (rows_past a before)
