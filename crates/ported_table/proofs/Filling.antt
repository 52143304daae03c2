-- The filled array is the chart of its list: piece by piece, and past the last one both have the piece of zeros.
use mathlib.Core.Path.{◌≡◌, refl, sym, ap, ◌∙◌}
use mathlib.Core.Logic.{◌⊎◌, inl, inr, ⊎_elim, ◌≢◌}
use mathlib.Core.Bool.{Bool, true, false, cond}
use mathlib.Core.List.{List, [], ◌∷◌}
use Prim.Native.Nat.{ℕ, zero, suc, ◌+◌, ◌*◌, ◌≤◌, ◌<◌}
use native.Mathlib.Nat.{eq-or-lt_of_le}
use native.Mathlib.Omega.{arith}
use native.Mathlib.Numerals.{add-one}
use borrow.Author.Tests.{ltb-true, ltb-false}
use lib.Dec.{ltb}
use lib.IntN.{ℤ, pos}
use lib.ListN.{length, get_or, set, replicate, length-set}
use lib.Seq.{get_or-set_same, get_or-set_other}
use Rattle.std.specs.declared.cmp.Ordering.{Ordering}
use Rattle.std.specs.declared.cmp.Ordering.TheVariants.{Less, Equal, Greater}
use Rattle.line_segment.specs.declared.EndPoint.{EndPoint}
use Rattle.line_segment.specs.declared.LineSegment.{LineSegment}
use Rattle.line_segment.specs.Piece.{end_order, first_included, second_included, join_by, join_of, piece_of}
use Rattle.charts.specs.Fault.{outside}
use Rattle.charts.specs.Chart.{number_at}
use Rattle.charts.specs.Piece.{piece_at, kind_of, coordinate_of}
use Rattle.sweep.proofs.Tests.{ask}
use Rattle.ported_pieces.specs.Table.{piece_in}
use Rattle.ported_table.specs.Filled.{marks_of, written, filled}

pub all_five :
    (t : List ℤ) (i : ℕ) (s : LineSegment) {a b c d e : List ℤ} {x1 y1 x2 y2 m : ℤ}
    → a ≡ set t (5 * i) x1 → x1 ≡ s.min.x → b ≡ set a (5 * i + 1) y1 → y1 ≡ s.min.y → c ≡ set b (5 * i + 2) x2 → x2 ≡ s.max.x
    → d ≡ set c (5 * i + 3) y2 → y2 ≡ s.max.y → m ≡ pos (marks_of s) → e ≡ set d (5 * i + 4) m → e ≡ written t i s
unfolding written
all_five t i s f f' g g' h h' j j' k l = rw (l, k, j, j', h, h', g, g', f, f')

module _ (list table : List ℤ) where
  pub filled_none : filled list 0 table ≡ table
  unfolding filled
  filled_none = refl

  pub one_more : (now : List ℤ) (i : ℕ) (s : LineSegment) → now ≡ filled list i table → s ≡ piece_at list i → written now i s ≡ filled list (i + 1) table
  unfolding filled
  one_more now i s e f = rw (add-one i, e, f)

-- ---- one piece written
marks_back : (a b : Bool) → (first_included (cond a 1 0 + cond b 2 0) ≡ a) × (second_included (cond a 1 0 + cond b 2 0) ≡ b)
unfolding first_included second_included
marks_back true true = (refl, refl)
marks_back true false = (refl, refl)
marks_back false true = (refl, refl)
marks_back false false = (refl, refl)

-- pieces of the same five numbers
as_five : (t u : List ℤ) (i j : ℕ) → ((k : ℕ) → k < 5 → get_or t (5 * i + k) (pos 0) ≡ get_or u (5 * j + k) (pos 0)) → piece_in t i ≡ piece_in u j
unfolding piece_in
as_five t u i j at = rw (first, at 1 (omega arith), at 2 (omega arith), at 3 (omega arith), at 4 (omega arith))
  where
    first : get_or t (5 * i) (pos 0) ≡ get_or u (5 * j) (pos 0)
    first =
        let e : 5 * i ≡ 5 * i + 0 = omega arith in
        let f : 5 * j + 0 ≡ 5 * j = omega arith in
        ap (λ (k : ℕ). get_or t k (pos 0)) e ∙ at 0 (omega arith) ∙ ap (λ (k : ℕ). get_or u k (pos 0)) f

module _ (t : List ℤ) (i : ℕ) (s : LineSegment) where
  abbrev one : List ℤ
  one = set t (5 * i) s.min.x

  abbrev two : List ℤ
  two = set one (5 * i + 1) s.min.y

  abbrev three : List ℤ
  three = set two (5 * i + 2) s.max.x

  abbrev four : List ℤ
  four = set three (5 * i + 3) s.max.y

  abbrev marks : ℤ
  marks = pos (marks_of s)

  one_long : length one ≡ length t
  one_long = length-set t (5 * i) s.min.x

  two_long : length two ≡ length t
  two_long = length-set one (5 * i + 1) s.min.y ∙ one_long

  three_long : length three ≡ length t
  three_long = length-set two (5 * i + 2) s.max.x ∙ two_long

  four_long : length four ≡ length t
  four_long = length-set three (5 * i + 3) s.max.y ∙ three_long

  written_long : length (written t i s) ≡ length t
  unfolding written
  written_long = length-set four (5 * i + 4) marks ∙ four_long

  elsewhere : (k : ℕ) → ((o : ℕ) → o < 5 → k ≢ 5 * i + o) → get_or (written t i s) k (pos 0) ≡ get_or t k (pos 0)
  unfolding written
  elsewhere k h =
      get_or-set_other four (5 * i + 4) k marks (pos 0) (h 4 (omega arith))
      ∙ get_or-set_other three (5 * i + 3) k s.max.y (pos 0) (h 3 (omega arith))
      ∙ get_or-set_other two (5 * i + 2) k s.max.x (pos 0) (h 2 (omega arith))
      ∙ get_or-set_other one (5 * i + 1) k s.min.y (pos 0) (h 1 (omega arith))
      ∙ get_or-set_other t (5 * i) k s.min.x (pos 0) (λ e. h 0 (omega arith) (e ∙ omega arith))

  written_other : (j : ℕ) → (j < i) ⊎ (i < j) → piece_in (written t i s) j ≡ piece_in t j
  written_other j h = as_five (written t i s) t j j at
    where
      at : (k : ℕ) → k < 5 → get_or (written t i s) (5 * j + k) (pos 0) ≡ get_or t (5 * j + k) (pos 0)
      at k l = elsewhere (5 * j + k) (λ o m e. ⊎_elim (λ (g : j < i). absurd (omega (arith, e, g, l, m))) (λ (g : i < j). absurd (omega (arith, e, g, l, m))) h)

  module _ (h : 5 * i + 4 < length t) where
    in_four : (k : ℕ) → k < 5 * i + 4 → get_or (written t i s) k (pos 0) ≡ get_or four k (pos 0)
    unfolding written
    in_four k l = get_or-set_other four (5 * i + 4) k marks (pos 0) (λ e. absurd (omega (arith, e, l)))

    in_three : (k : ℕ) → k < 5 * i + 3 → get_or (written t i s) k (pos 0) ≡ get_or three k (pos 0)
    in_three k l = in_four k (omega arith) ∙ get_or-set_other three (5 * i + 3) k s.max.y (pos 0) (λ e. absurd (omega (arith, e, l)))

    in_two : (k : ℕ) → k < 5 * i + 2 → get_or (written t i s) k (pos 0) ≡ get_or two k (pos 0)
    in_two k l = in_three k (omega arith) ∙ get_or-set_other two (5 * i + 2) k s.max.x (pos 0) (λ e. absurd (omega (arith, e, l)))

    in_one : (k : ℕ) → k < 5 * i + 1 → get_or (written t i s) k (pos 0) ≡ get_or one k (pos 0)
    in_one k l = in_two k (omega arith) ∙ get_or-set_other one (5 * i + 1) k s.min.y (pos 0) (λ e. absurd (omega (arith, e, l)))

    written_marks : get_or (written t i s) (5 * i + 4) (pos 0) ≡ marks
    unfolding written
    written_marks = get_or-set_same four (5 * i + 4) marks (pos 0) (omega (arith, four_long, h))

    written_same : piece_in (written t i s) i ≡ s
    unfolding piece_in marks_of
    written_same =
        rw (
          in_one (5 * i) (omega arith) ∙ get_or-set_same t (5 * i) s.min.x (pos 0) (omega (arith, h)),
          in_two (5 * i + 1) (omega arith) ∙ get_or-set_same one (5 * i + 1) s.min.y (pos 0) (omega (arith, one_long, h)),
          in_three (5 * i + 2) (omega arith) ∙ get_or-set_same two (5 * i + 2) s.max.x (pos 0) (omega (arith, two_long, h)),
          in_four (5 * i + 3) (omega arith) ∙ get_or-set_same three (5 * i + 3) s.max.y (pos 0) (omega (arith, three_long, h)),
          written_marks,
          (marks_back s.min.included s.max.included).0,
          (marks_back s.min.included s.max.included).1,
        )

-- ---- all pieces
module _ (list table : List ℤ) where
  filled_long : (n : ℕ) → length (filled list n table) ≡ length table
  unfolding filled
  filled_long zero = refl
  filled_long (suc n) = written_long (filled list n table) n (piece_at list n) ∙ filled_long n

  filled_in : (n j : ℕ) → j < n → 5 * n ≤ length table → piece_in (filled list n table) j ≡ piece_at list j
  unfolding filled
  filled_in zero j h l = absurd (omega arith)
  filled_in (suc n) j h l =
      ⊎_elim
      (λ (e : j ≡ n). rw e (written_same (filled list n table) n (piece_at list n) (omega (arith, filled_long n, l))))
      (λ (k : j < n). written_other (filled list n table) n (piece_at list n) j (inl k) ∙ filled_in n j k (omega arith))
      (eq-or-lt_of_le {n = j} {m = n} (omega arith))

  filled_past : (n j : ℕ) → n ≤ j → piece_in (filled list n table) j ≡ piece_in table j
  unfolding filled
  filled_past zero j h = refl
  filled_past (suc n) j h = written_other (filled list n table) n (piece_at list n) j (inr (omega arith)) ∙ filled_past n j (omega arith)

-- ---- past the last piece
zeros : (m i : ℕ) → get_or (replicate m (pos 0)) i (pos 0) ≡ pos 0
zeros zero i = refl
zeros (suc m) zero = refl
zeros (suc m) (suc i) = zeros m i

past : (l : List ℤ) (i : ℕ) → length l ≤ i → get_or l i (pos 0) ≡ pos 0
past [] i h = refl
past (x ∷ l) zero h = absurd (omega arith)
past (x ∷ l) (suc i) h = past l i (omega arith)

-- the piece of zeros
abbrev origin : EndPoint
origin = record { x = pos 0; y = pos 0; included = false }

joined : (o : Ordering) → join_by o origin origin ≡ record { min = origin; max = origin }
unfolding join_by
joined Less = refl
joined Equal = refl
joined Greater = refl

piece_of_zeros : (m j : ℕ) → piece_in (replicate m (pos 0)) j ≡ piece_of 0 (pos 0) (pos 0) (pos 0) (pos 0)
unfolding piece_in piece_of join_of first_included second_included
piece_of_zeros m j = rw (zeros m (5 * j), zeros m (5 * j + 1), zeros m (5 * j + 2), zeros m (5 * j + 3), zeros m (5 * j + 4)) (sym (joined (end_order origin origin)))

piece_past : (list : List ℤ) (n j : ℕ) → length list ≡ 5 * n → n ≤ j → piece_at list j ≡ piece_of 0 (pos 0) (pos 0) (pos 0) (pos 0)
unfolding piece_at number_at kind_of coordinate_of outside
piece_past list n j e h = rw (at 0, at 1, at 2, at 3, at 4) refl
  where
    at : (k : ℕ) → get_or list (5 * j + k) (pos 0) ≡ pos 0
    at k = past list (5 * j + k) (omega (arith, e, h))

module _ (list : List ℤ) (n m : ℕ) (e : length list ≡ 5 * n) (room : 5 * n ≤ length (replicate m (pos 0))) where
  filled_piece : (j : ℕ) → piece_in (filled list n (replicate m (pos 0))) j ≡ piece_at list j
  filled_piece j =
      ⊎_elim
      (λ (h : j < n). filled_in list (replicate m (pos 0)) n j h room)
      (λ (h : n ≤ j). filled_past list (replicate m (pos 0)) n j h ∙ piece_of_zeros m j ∙ sym (piece_past list n j e h))
      (split j n)
    where
      split : (a b : ℕ) → (a < b) ⊎ (b ≤ a)
      split a b = ⊎_elim (λ (t : ltb a b ≡ true). inl (ltb-true a b t)) (λ (t : ltb a b ≡ false). inr (ltb-false a b t)) (ask (ltb a b))

  pub filled_pieces : piece_in (filled list n (replicate m (pos 0))) ≡ piece_at list
  filled_pieces k j = filled_piece j k
