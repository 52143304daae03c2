-- Turned round, an outline gives the same answers: the proof of `TurnsRound`. Assumes nothing.
use mathlib.Core.Path.{◌≡◌, refl, sym, ap, ap₂, ◌∙◌}
use mathlib.Core.Bool.{Bool, true, false, cond}
use mathlib.Core.List.{List, [], ◌∷◌, ◌++◌}
use Prim.Native.Nat.{ℕ, zero, suc, ◌+◌, ◌*◌, ◌-◌, ◌<◌}
use native.Mathlib.Omega.{arith}
use borrow.Author.Tests.{lt-ltb, le-ltb, ltb-true, ltb-false}
use lib.Dec.{ltb}
use lib.IntN.{ℤ, pos}
use lib.ListN.{length, get_or, length-append, get_or-append}
use lib.Seq.{get_or-append-add}
use Rattle.fractions.specs.Order.{turned}
use Rattle.fractions.specs.Point.{whole_of}
use Rattle.std.specs.declared.cmp.Ordering.{Ordering}
use Rattle.std.specs.declared.cmp.Ordering.TheVariants.{Less, Equal, Greater}
use Rattle.fractions.specs.declared.Point.{Point}
use Rattle.fractions.proofs.Promises.{orders_points, lowest_terms}
use Rattle.line_segment.specs.declared.EndPoint.{EndPoint}
use Rattle.line_segment.specs.Piece.{point_of, end_order, first_included, second_included, join_by, join_of, piece_of}
use Rattle.half_line.specs.declared.Corner.{Corner}
use Rattle.charts.specs.Piece.{coordinate_of}
use Rattle.outline.specs.Counting.{first, count}
use Rattle.outline.specs.Outline.{number_at, next_of, side_of}
use Rattle.region.specs.declared.Region.{Region}
use Rattle.region.specs.Region.{on_side, met_side, parity, region_of}
use Rattle.region.specs.Demand.{round, TurnsRound}
use Rattle.region.proofs.Elsewhere.{one, shifted, same_below, next_more, next_last, alike}

-- ---- a side from either end
module _ (x1 y1 x2 y2 : ℤ) where
  abbrev a : EndPoint
  a = record { x = x1; y = y1; included = true }

  abbrev b : EndPoint
  b = record { x = x2; y = y2; included = true }

  by_order : (o : Ordering) → end_order a b ≡ o → join_by o a b ≡ join_by (turned o) b a
  unfolding join_by end_order point_of
  by_order Less e = refl
  by_order Greater e = refl
  by_order Equal e =
      let q = orders_points.one_record (whole_of x1 y1) (whole_of x2 y2) (lowest_terms.whole x1 y1) (lowest_terms.whole x2 y2) e in
      let s : a ≡ b = ap (λ (p : Point). record { x = p.x; y = p.y; included = true }) q in
      ap₂ (λ (u : EndPoint) (v : EndPoint). record { min = u; max = v }) (sym s) s

  either_end : piece_of 3 x1 y1 x2 y2 ≡ piece_of 3 x2 y2 x1 y1
  unfolding piece_of join_of first_included second_included end_order
  either_end = by_order (end_order a b) refl ∙ ap (λ (o : Ordering). join_by o b a) (sym (orders_points.other_way (point_of a) (point_of b)))

-- ---- the corners
round_length : (n : ℕ) (l : List ℤ) → length l ≡ 2 * n → length (round l) ≡ 2 * n
unfolding round
round_length zero [] e = refl
round_length zero (a ∷ l) e = absurd (omega arith)
round_length (suc n) [] e = absurd (omega arith)
round_length (suc n) (a ∷ []) e = absurd (omega arith)
round_length (suc n) (a ∷ b ∷ l) e = length-append (round l) _ ∙ (let h = round_length n l (omega arith) in omega (arith, h))

corner : (n : ℕ) (l : List ℤ) → length l ≡ 2 * n → (i k : ℕ) → i < n → k < 2 → number_at (round l) i k ≡ number_at l (n - 1 - i) k
unfolding number_at round
corner zero l e i k h g = absurd (omega arith)
corner (suc n) [] e i k h g = absurd (omega arith)
corner (suc n) (a ∷ []) e i k h g = absurd (omega arith)
corner (suc n) (a ∷ b ∷ l) e i k h g = go (λ m. corner n l (omega arith) i k m g) (ltb i n) refl
  where
    long : length (round l) ≡ 2 * n
    long = round_length n l (omega arith)

    head : (k : ℕ) → k < 2 → get_or (a ∷ b ∷ []) k (pos 0) ≡ get_or (a ∷ b ∷ l) (2 * 0 + k) (pos 0)
    head zero h = refl
    head (suc zero) h = refl
    head (suc (suc k)) h = absurd (omega arith)

    go : (i < n → number_at (round l) i k ≡ number_at l (n - 1 - i) k) → (t : Bool) → ltb i n ≡ t → number_at (round (a ∷ b ∷ l)) i k ≡ number_at (a ∷ b ∷ l) (suc n - 1 - i) k
    go rest true q =
        let m = ltb-true i n q in
        let z : 2 * (suc n - 1 - i) + k ≡ suc (suc (2 * (n - 1 - i) + k)) = omega arith in
        get_or-append (round l) (a ∷ b ∷ []) (pos 0) (2 * i + k) (omega (arith, long))
        ∙ rest m
        ∙ sym (ap (λ (m : ℕ). get_or (a ∷ b ∷ l) m (pos 0)) z)
    go rest false q =
        let m = ltb-false i n q in
        let z : 2 * i + k ≡ length (round l) + k = omega (arith, long) in
        let y : 2 * (suc n - 1 - i) + k ≡ 2 * 0 + k = omega arith in
        ap (λ (m : ℕ). get_or (round l ++ (a ∷ b ∷ [])) m (pos 0)) z
        ∙ get_or-append-add (round l) (a ∷ b ∷ []) k (pos 0)
        ∙ head k g
        ∙ sym (ap (λ (m : ℕ). get_or (a ∷ b ∷ l) m (pos 0)) y)

-- ---- the sides: i of the one is that of the other between the same corners
unfoldable mirrored : ℕ → ℕ → ℕ
mirrored n i = cond (ltb i n) (n - 1 - i) n

mirrored_below : (n i : ℕ) → mirrored n i < suc n
unfolding mirrored
mirrored_below n i = go (ltb i n)
  where
    go : (t : Bool) → cond t (n - 1 - i) n < suc n
    go true = omega arith
    go false = omega arith

mirrored_front : (n i : ℕ) → i < n → mirrored n i ≡ n - 1 - i
unfolding mirrored
mirrored_front n i h = rw (lt-ltb i n h)

mirrored_last : (n : ℕ) → mirrored n n ≡ n
unfolding mirrored
mirrored_last n = rw (le-ltb n n (omega arith))

mirrored_twice : (n i : ℕ) → i < suc n → mirrored n (mirrored n i) ≡ i
mirrored_twice n i h = go (ltb i n) refl
  where
    go : (t : Bool) → ltb i n ≡ t → mirrored n (mirrored n i) ≡ i
    go true q = let m = ltb-true i n q in ap (mirrored n) (mirrored_front n i m) ∙ mirrored_front n (n - 1 - i) (omega arith) ∙ omega arith
    go false q = let z : i ≡ n = (let m = ltb-false i n q in omega arith) in ap (mirrored n) (ap (mirrored n) z ∙ mirrored_last n) ∙ mirrored_last n ∙ sym z

module _ (n : ℕ) (l : List ℤ) (e : length l ≡ 2 * suc n) where
  side : (i : ℕ) → i < suc n → side_of (round l) (suc n) i ≡ side_of l (suc n) (mirrored n i)
  unfolding side_of mirrored
  side i h = go (ltb i n) refl
    where
      -- from corner u to corner v of the one, from v to u of the other
      between : (j u v : ℕ) → next_of (suc n) i ≡ j → j < suc n → n - i ≡ v → n - j ≡ u → next_of (suc n) u ≡ v → side_of (round l) (suc n) i ≡ side_of l (suc n) u
      between j u v ni lj ev eu nu =
          let at : (m k : ℕ) → m < suc n → k < 2 → number_at (round l) m k ≡ number_at l (n - m) k = λ m k lm g. corner (suc n) l e m k lm g ∙ ap (λ (i : ℕ). number_at l i k) (omega arith) in
          rw (ni, at i 0 h (omega arith), at i 1 h (omega arith), at j 0 lj (omega arith), at j 1 lj (omega arith), ev, eu)
          (either_end (coordinate_of (number_at l v 0)) (coordinate_of (number_at l v 1)) (coordinate_of (number_at l u 0)) (coordinate_of (number_at l u 1)) ∙ rw nu)

      go : (t : Bool) → ltb i n ≡ t → side_of (round l) (suc n) i ≡ side_of l (suc n) (mirrored n i)
      go true q =
          let m = ltb-true i n q in
          between (suc i) (n - 1 - i) (n - i) (next_more n i m) (omega arith) refl (omega arith) (next_more n (n - 1 - i) (omega arith) ∙ omega arith)
          ∙ sym (ap (side_of l (suc n)) (rw q))
      go false q =
          let m = ltb-false i n q in
          let z : i ≡ n = omega arith in
          between 0 n 0 (ap (next_of (suc n)) z ∙ next_last n) (omega arith) (omega arith) (omega arith) (next_last n)
          ∙ sym (ap (side_of l (suc n)) (rw q))

-- ---- counting from the other end
count_back : (f : ℕ → Bool) (n : ℕ) → count (λ i. f (n - 1 - i)) n ≡ count f n
unfolding count
count_back f zero = refl
count_back f (suc n) =
    ap₂ (λ (k : ℕ) (b : Bool). k + one b)
    (same_below (λ i. f (suc n - 1 - i)) (λ i. f (suc (n - 1 - i))) n (λ i l. ap f (omega arith)) ∙ count_back (λ i. f (suc i)) n)
    (ap f (omega arith))
    ∙ shifted f n

module _ (f g : ℕ → Bool) (n : ℕ) (h : (i : ℕ) → i < suc n → g i ≡ f (mirrored n i)) where
  count_round : count g (suc n) ≡ count f (suc n)
  unfolding count
  count_round =
      ap₂ (λ (k : ℕ) (b : Bool). k + one b)
      (same_below g (λ i. f (n - 1 - i)) n (λ i l. h i (omega arith) ∙ ap f (mirrored_front n i l)) ∙ count_back f n)
      (h n (omega arith) ∙ ap f (mirrored_last n))

  some_round : ltb (first g (suc n)) (suc n) ≡ ltb (first f (suc n)) (suc n)
  some_round =
      alike f g (suc n)
      (λ i l e. (mirrored n i, mirrored_below n i, sym (h i l) ∙ e))
      (λ j l e. (mirrored n j, mirrored_below n j, h (mirrored n j) (mirrored_below n j) ∙ ap f (mirrored_twice n j l) ∙ e))

module _ (n : ℕ) (l : List ℤ) (e : length l ≡ 2 * suc n) (p : Corner) where
  turned_answer : region_of (round l) (suc n) p ≡ region_of l (suc n) p
  unfolding region_of on_side met_side
  turned_answer =
      ap₂ (λ (t : Bool) (k : ℕ). cond t Region.On (parity k))
      (some_round (on_side l (suc n) p) (on_side (round l) (suc n) p) n (λ i h. rw (side n l e i h)))
      (count_round (met_side l (suc n) p) (met_side (round l) (suc n) p) n (λ i h. rw (side n l e i h)))

nothing_turned : (p : Corner) → region_of (round []) 0 p ≡ region_of [] 0 p
unfolding round
nothing_turned p = refl

pub turns_round : TurnsRound
turns_round [] zero p e = nothing_turned p
turns_round (a ∷ l) zero p e = absurd (omega arith)
turns_round l (suc n) p e = turned_answer n l e p
