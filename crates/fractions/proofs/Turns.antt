-- The lines of pencil and paper: enough room for them (`line`), what the last one says (`last_says_lem`), and how few they are (`lines_few`).
use mathlib.Core.Path.{◌≡◌, refl, ap, ◌∙◌, subst}
use mathlib.Core.Bool.{Bool, true, false, cond}
use mathlib.Core.List.{List, [], ◌∷◌}
use mathlib.Core.Logic.{◌⊎◌, inl, inr, ⊎_elim}
use Prim.Native.Nat.{ℕ, zero, suc, ◌+◌, ◌-◌, ◌*◌, ◌/◌, ◌%◌, ◌^◌, ◌<◌, ◌≤◌}
use native.Mathlib.Nat.{mod-lt, div-add-mod', zero-add, suc-add, zero-mul, suc-mul}
use native.Mathlib.Omega.{arith}
use borrow.Author.Tests.{eq-eqb, eqb-true, lt-ltb, ltb-true, ltb-false}
use lib.Dec.{eqb, ltb}
use lib.IntN.{pos}
use lib.ListN.{length}
use Rattle.fractions.specs.Order.{order, and_then}
use Rattle.fractions.specs.Fraction.{ratio_order}
use Rattle.fractions.specs.Turns.{Line, line_of, goes_on, lines_in, lines_of, decided, last_says, fib, fib_from}
use Rattle.std.specs.declared.cmp.Ordering.{Ordering}
use Rattle.integers.proofs.Naturals.{<_pos, pos_injective}
use Rattle.fractions.proofs.Orders.{Answer, is_less_lem, is_equal_lem, is_greater, answer}
use Rattle.fractions.proofs.WholeParts.{whole_less, whole_more, first_whole, second_whole, turned_over}

-- what goes on is known of a line that does
pub record Same (n d m e : ℕ) : Type 0 where
  pub wholes : n / d ≡ m / e
  pub first : 0 < n % d
  pub second : 0 < m % e

goes : (n d m e : ℕ) → goes_on (line_of n d m e) ≡ true → Same n d m e
goes n d m e h = go (eqb (n / d) (m / e)) (ltb 0 (n % d)) (ltb 0 (m % e)) refl refl refl h
  where
    go : (t u v : Bool) → eqb (n / d) (m / e) ≡ t → ltb 0 (n % d) ≡ u → ltb 0 (m % e) ≡ v → cond t (cond u v false) false ≡ true → Same n d m e
    go true true true p q r h = record { wholes = eqb-true (n / d) (m / e) p; first = ltb-true 0 (n % d) q; second = ltb-true 0 (m % e) r }
    go true true false p q r h = let z : ◌≡◌ {A = ℕ} 0 1 = cc in absurd (omega arith)
    go true false v p q r h = let z : ◌≡◌ {A = ℕ} 0 1 = cc in absurd (omega arith)
    go false u v p q r h = let z : ◌≡◌ {A = ℕ} 0 1 = cc in absurd (omega arith)

goes_on_lem : (n d m e : ℕ) → Same n d m e → goes_on (line_of n d m e) ≡ true
goes_on_lem n d m e s = rw (eq-eqb (n / d) (m / e) s.wholes, lt-ltb 0 (n % d) s.first) (lt-ltb 0 (m % e) s.second)

-- more room changes nothing
room : (j k n d m e : ℕ) → 0 < d → 0 < e → d + e ≤ j → d + e ≤ k → lines_in j n d m e ≡ lines_in k n d m e
unfolding lines_in
room zero k n d m e hd he p q = absurd (omega arith)
room (suc j) zero n d m e hd he p q = absurd (omega arith)
room (suc j) (suc k) n d m e hd he p q = go (goes_on (line_of n d m e)) refl (λ f g. room j k e (m % e) d (n % d) f g)
  where
    go :
        (t : Bool) → goes_on (line_of n d m e) ≡ t →
        (0 < m % e → 0 < n % d → m % e + n % d ≤ j → m % e + n % d ≤ k → lines_in j e (m % e) d (n % d) ≡ lines_in k e (m % e) d (n % d)) →
        ◌≡◌ {A = List Line} (line_of n d m e ∷ cond t (lines_in j e (m % e) d (n % d)) []) (line_of n d m e ∷ cond t (lines_in k e (m % e) d (n % d)) [])
    go true h f =
        let s = goes n d m e h in
        let a = mod-lt n hd in
        let b = mod-lt m he in
        ap (λ (ls : List Line). line_of n d m e ∷ ls) (f s.second s.first (omega arith) (omega arith))
    go false h f = refl

module _ (n d m e : ℕ) (hd : 0 < d) (he : 0 < e) where
  -- a line, and those that follow where it goes on
  line : lines_of n d m e ≡ line_of n d m e ∷ cond (goes_on (line_of n d m e)) (lines_of e (m % e) d (n % d)) []
  unfolding lines_of lines_in
  line = room (d + e) (suc (d + e)) n d m e hd he (omega arith) (omega arith) ∙ go (goes_on (line_of n d m e)) refl
    where
      go :
          (t : Bool) → goes_on (line_of n d m e) ≡ t →
          ◌≡◌ {A = List Line} (line_of n d m e ∷ cond t (lines_in (d + e) e (m % e) d (n % d)) []) (line_of n d m e ∷ cond t (lines_in (m % e + n % d) e (m % e) d (n % d)) [])
      go true h =
          let s = goes n d m e h in
          let a = mod-lt n hd in
          let b = mod-lt m he in
          ap (λ (ls : List Line). line_of n d m e ∷ ls) (room (d + e) (m % e + n % d) e (m % e) d (n % d) s.second s.first (omega arith) (omega arith))
      go false h = refl

  -- a call of the code is a line, and there is one line less at the next
  pub shorter : n / d ≡ m / e → 0 < n % d → 0 < m % e → length (lines_of e (m % e) d (n % d)) < length (lines_of n d m e)
  shorter p q r =
      let l : length (lines_of n d m e) ≡ suc (length (lines_of e (m % e) d (n % d))) =
      ap length (line ∙ ap (λ (t : Bool). line_of n d m e ∷ cond t (lines_of e (m % e) d (n % d)) []) (goes_on_lem n d m e (record { wholes = p; first = q; second = r }))) in
      omega arith

-- ---- what the last line says
later : (l : Line) (k n d m e : ℕ) → 0 < k → last_says (l ∷ lines_in k n d m e) ≡ last_says (lines_in k n d m e)
unfolding last_says lines_in
later l zero n d m e h = absurd (omega arith)
later l (suc k) n d m e h = refl

module _ (n d m e : ℕ) (hd : 0 < d) (he : 0 < e) where
  -- the whole parts are the same
  left_says : n / d ≡ m / e → goes_on (line_of n d m e) ≡ false → order (pos (n % d)) (pos (m % e)) ≡ ratio_order (pos n) d (pos m) e
  left_says h f = go (ltb 0 (n % d)) (ltb 0 (m % e)) refl refl
    where
      go : (u v : Bool) → ltb 0 (n % d) ≡ u → ltb 0 (m % e) ≡ v → order (pos (n % d)) (pos (m % e)) ≡ ratio_order (pos n) d (pos m) e
      go false v p q =
          let z : n % d ≡ 0 = omega (arith, ltb-false 0 (n % d) p) in
          first_whole n d m e hd he h z
      go true false p q =
          let z : m % e ≡ 0 = omega (arith, ltb-false 0 (m % e) q) in
          second_whole n d m e hd he h z
      go true true p q =
          let g = goes_on_lem n d m e (record { wholes = h; first = ltb-true 0 (n % d) p; second = ltb-true 0 (m % e) q }) in
          let z : ◌≡◌ {A = ℕ} 0 1 = cc in
          absurd (omega arith)

  ends : goes_on (line_of n d m e) ≡ false → decided (line_of n d m e) ≡ ratio_order (pos n) d (pos m) e
  ends f = go (answer (pos (n / d)) (pos (m / e)))
    where
      go : {o : Ordering} → Answer (pos (n / d)) (pos (m / e)) o → and_then o (order (pos (n % d)) (pos (m % e))) ≡ ratio_order (pos n) d (pos m) e
      go (is_less_lem h) = whole_less n d m e hd he (<_pos h)
      go (is_equal_lem h) = left_says (pos_injective h) f
      go (is_greater h) = whole_more n d m e hd he (<_pos h)

says : (k n d m e : ℕ) → 0 < d → 0 < e → d + e ≤ k → last_says (lines_in k n d m e) ≡ ratio_order (pos n) d (pos m) e
unfolding lines_in last_says
says zero n d m e hd he p = absurd (omega arith)
says (suc k) n d m e hd he p = go (goes_on (line_of n d m e)) refl (λ f g. says k e (m % e) d (n % d) f g)
  where
    go :
        (t : Bool) → goes_on (line_of n d m e) ≡ t →
        (0 < m % e → 0 < n % d → m % e + n % d ≤ k → last_says (lines_in k e (m % e) d (n % d)) ≡ ratio_order (pos e) (m % e) (pos d) (n % d)) →
        last_says (line_of n d m e ∷ cond t (lines_in k e (m % e) d (n % d)) []) ≡ ratio_order (pos n) d (pos m) e
    go true h f =
        let s = goes n d m e h in
        let a = mod-lt n hd in
        let b = mod-lt m he in
        later (line_of n d m e) k e (m % e) d (n % d) (omega arith) ∙ f s.second s.first (omega arith) ∙ turned_over n d m e hd he s.wholes
    go false h f = ends n d m e hd he h

pub last_says_lem : (n d m e : ℕ) → 0 < d → 0 < e → last_says (lines_of n d m e) ≡ ratio_order (pos n) d (pos m) e
unfolding lines_of
last_says_lem n d m e hd he = says (d + e) n d m e hd he (omega arith)

-- ---- how few lines there are
fib_next' : (k a b : ℕ) → fib_from (suc (suc k)) a b ≡ fib_from k a b + fib_from (suc k) a b
unfolding fib_from
fib_next' zero a b = refl
fib_next' (suc k) a b = fib_next' k b (a + b)

fib_next : (k : ℕ) → fib (suc (suc k)) ≡ fib k + fib (suc k)
unfolding fib
fib_next k = fib_next' k 0 1

fib_step : (k : ℕ) → fib k ≤ fib (suc k)
unfolding fib fib_from
fib_step zero = omega arith
fib_step (suc k) = omega (arith, fib_next k)

fib_up : (j k : ℕ) → fib k ≤ fib (j + k)
fib_up zero k = rw zero-add (omega arith)
fib_up (suc j) k = rw suc-add (omega (arith, fib_up j k, fib_step (j + k)))

fiftieth : fib 50 ≡ 12586269025
unfolding fib fib_from
fiftieth = refl

below_fifty : (L d : ℕ) → fib (suc L) ≤ d → d < 2 ^ 33 → L ≤ 48
below_fifty L d p h = go (ltb L 49) refl
  where
    go : (t : Bool) → ltb L 49 ≡ t → L ≤ 48
    go true e = omega (arith, ltb-true L 49 e)
    go false e =
        let k : 49 ≤ L = ltb-false L 49 e in
        let i : (L - 49) + 50 ≡ suc L = omega arith in
        absurd (omega (arith, fiftieth, subst (λ (j : ℕ). fib 50 ≤ fib j) i (fib_up (L - 49) 50)))

-- the greater holds the lesser and what is left of it
holds : (d s : ℕ) → 0 < s → s < d → s + d % s ≤ d
holds d s h k = go (d / s) refl
  where
    go : (q : ℕ) → d / s ≡ q → s + d % s ≤ d
    go zero e = absurd (omega (arith, mod-lt d h, subst (λ (q : ℕ). q * s + d % s ≡ d) e (div-add-mod' d s), zero-mul s))
    go (suc q) e = omega (arith, subst (λ (q : ℕ). q * s + d % s ≡ d) e (div-add-mod' d s), suc-mul q s)

-- L lines need divisors of the (L+1)-th of Fibonacci's numbers, and leave the L-th, unless there is no other line
record Needs (L n d m e : ℕ) : Type 0 where
  first : fib (suc L) ≤ d
  second : fib (suc L) ≤ e
  lefts : (L ≡ 1) ⊎ ((fib L ≤ n % d) × (fib L ≤ m % e))

-- the line before L others
before : (L n d m e : ℕ) → 0 < d → 0 < e → Same n d m e → Needs L e (m % e) d (n % d) → Needs (suc L) n d m e
unfolding fib fib_from
before L n d m e hd he s t =
    record { first = ⊎_elim one_d more_d t.lefts; second = ⊎_elim one_e more_e t.lefts; lefts = inr (t.second, t.first) }
  where
    two : L ≡ 1 → fib (suc (suc L)) ≡ 2
    two i = ap (λ (k : ℕ). fib (suc (suc k))) i

    one_d : L ≡ 1 → fib (suc (suc L)) ≤ d
    one_d i = omega (arith, two i, mod-lt n hd, s.first)

    one_e : L ≡ 1 → fib (suc (suc L)) ≤ e
    one_e i = omega (arith, two i, mod-lt m he, s.second)

    more_d : (fib L ≤ e % (m % e)) × (fib L ≤ d % (n % d)) → fib (suc (suc L)) ≤ d
    more_d p = omega (arith, fib_next L, t.second, p.1, holds d (n % d) s.first (mod-lt n hd))

    more_e : (fib L ≤ e % (m % e)) × (fib L ≤ d % (n % d)) → fib (suc (suc L)) ≤ e
    more_e p = omega (arith, fib_next L, t.first, p.0, holds e (m % e) s.second (mod-lt m he))

needs_in : (k n d m e : ℕ) → 0 < d → 0 < e → d + e ≤ k → Needs (length (lines_in k n d m e)) n d m e
unfolding lines_in fib fib_from
needs_in zero n d m e hd he p = absurd (omega arith)
needs_in (suc k) n d m e hd he p = go (goes_on (line_of n d m e)) refl (λ f g. needs_in k e (m % e) d (n % d) f g)
  where
    go :
        (t : Bool) → goes_on (line_of n d m e) ≡ t →
        (0 < m % e → 0 < n % d → m % e + n % d ≤ k → Needs (length (lines_in k e (m % e) d (n % d))) e (m % e) d (n % d)) →
        Needs (length (line_of n d m e ∷ cond t (lines_in k e (m % e) d (n % d)) [])) n d m e
    go true h f =
        let s = goes n d m e h in
        let a = mod-lt n hd in
        let b = mod-lt m he in
        before (length (lines_in k e (m % e) d (n % d))) n d m e hd he s (f s.second s.first (omega arith))
    go false h f = record { first = omega arith; second = omega arith; lefts = inl refl }

module _ (n d m e : ℕ) (hd : 0 < d) (he : 0 < e) where
  needed : Needs (length (lines_of n d m e)) n d m e
  unfolding lines_of
  needed = needs_in (d + e) n d m e hd he (omega arith)

  pub lines_few : (fib (suc (length (lines_of n d m e))) ≤ d) × (fib (suc (length (lines_of n d m e))) ≤ e)
  lines_few = (needed.first, needed.second)

  pub lines_on_a_chart : d < 2 ^ 33 → length (lines_of n d m e) ≤ 48
  lines_on_a_chart h = below_fifty (length (lines_of n d m e)) d needed.first h
