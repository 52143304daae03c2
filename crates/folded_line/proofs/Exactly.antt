-- A number of the table is given exactly when its row holds and no earlier one does.
-- Assumes nothing.
use mathlib.Core.Path.{◌≡◌, refl, sym, ap, subst, ◌∙◌}
use mathlib.Core.Bool.{Bool, true, false, cond, not}
use Prim.Native.Nat.{ℕ, ◌+◌, ◌*◌, ◌/◌, ◌%◌, ◌≤◌, ◌<◌}
use native.Mathlib.Nat.{div-add-mod'}
use native.Mathlib.Omega.{arith}
use borrow.Author.Tests.{ltb-true, ltb-false, eqb-true, eqb-false}
use lib.Arith.{digits_mod}
use lib.Dec.{ltb, eqb}
use Rattle.charts.specs.Answer.{then_room}
use Rattle.charts.specs.Verdict.{Verdict}
use Rattle.charts.specs.Verdict.{Accepted, Refused}
use Rattle.charts.proofs.Rows.{Says, is_true, is_false, says_or, says_and}
use Rattle.folded_line.specs.Line.{count}
use Rattle.folded_line.specs.Drawing.{most_order, limit, most_pieces, off, off_range, uneven, line_verdict, drawing_of}
use Rattle.folded_line.specs.Demand.{Off, Row12, Row13, Pieces, Due, twelve, thirteen, fourteen, eight, drawn, RefusesExactly}
use Rattle.folded_line.proofs.Joints.{counts, one_count}
use Rattle.folded_line.proofs.Verdicts.{sized, says, says_12, says_13, says_14, says_count, room_refused, room_eight, room_accepted}
use Rattle.folded_line.proofs.Verdicts.{Says as Cases, twelve as case_12, thirteen as case_13, fourteen as case_14, counted as case_count}

-- ---- the tests say what the rows say
says_less : (a b : ℕ) → Says (ltb a b) (a < b)
says_less a b = record { yes = ltb-true a b; no = λ e h. let g = ltb-false a b e in omega arith }

says_off : (high v : ℕ) → Says (off high v) (Off high v)
unfolding off
says_off high v = says_or (says_less v 1) (says_less high v)

divides : (m h : ℕ) → 0 < m → Says (not (eqb (h % m) 0)) ((w : ℕ) → ¬ (h ≡ w * m))
divides m h p = go (eqb (h % m) 0) refl
  where
    rest : (w : ℕ) → h ≡ w * m → h % m ≡ 0
    rest w e = ap (λ (z : ℕ). z % m) {x = h} {y = w * m + 0} (omega arith) ∙ digits_mod w {m = m} {r = 0} p

    go : (t : Bool) → eqb (h % m) 0 ≡ t → Says (not t) ((w : ℕ) → ¬ (h ≡ w * m))
    go true e = record { yes = λ k. absurd (let z : ◌≡◌ {A = ℕ} 0 1 = cc in omega arith); no = λ _ f. f (h / m) (let d = div-add-mod' h m in let g = eqb-true (h % m) 0 e in omega arith) }
    go false e = record { yes = λ _ w k. eqb-false (h % m) 0 e (rest w k); no = λ k. absurd (let z : ◌≡◌ {A = ℕ} 0 1 = cc in omega arith) }

module _ (m h s : ℕ) where
  pub says_row12 : Says (off_range m h s) (Row12 m h s)
  unfolding off_range
  says_row12 = says_or (says_off most_order m) (says_or (says_off limit h) (says_off limit s))

  pub says_row13 : 0 < m → Says (uneven m h s) (Row13 m h s)
  unfolding uneven
  says_row13 p = says_and (says_less h (m * s)) (divides m h p)

  pub in_order : ¬ Row12 m h s → off_range m h s ≡ false
  in_order n = is_false says_row12 n

  -- where the numbers are in range
  module _ (e : off_range m h s ≡ false) where
    positive : 0 < m
    positive = (sized m h s e).order

    pub counted : Pieces m h s (count m h s)
    counted = counts m h s (sized m h s e).rate

    pub the_count : (n : ℕ) → Pieces m h s n → n ≡ count m h s
    the_count n p = one_count m h s n (count m h s) p counted

    pub row13 : Says (uneven m h s) (Row13 m h s)
    row13 = says_row13 positive

  -- ---- what is given is due
  module _ (lent : ℕ) where
    due : {v : Verdict} → Cases m h s v → Due m h s lent (then_room (λ n. 5 * n) lent v)
    due (case_12 e) = twelve (says_row12.yes e)
    due (case_13 e f) = thirteen (says_row12.no e) ((row13 e).yes f)
    due (case_14 e f l) = fourteen (says_row12.no e) ((row13 e).no f) (count m h s) (counted e) l
    due (case_count e f l) = go (ltb lent (5 * count m h s)) refl
      where
        go : (t : Bool) → ltb lent (5 * count m h s) ≡ t → Due m h s lent (cond t (Refused 8 0) (Accepted (count m h s)))
        go true g = eight (says_row12.no e) ((row13 e).no f) (count m h s) (counted e) l (ltb-true _ _ g)
        go false g = drawn (says_row12.no e) ((row13 e).no f) (count m h s) (counted e) l (ltb-false _ _ g)

    -- ---- and what is due is given
    accepted : ¬ Row12 m h s → ¬ Row13 m h s → (n : ℕ) → Pieces m h s n → n ≤ most_pieces → line_verdict m h s ≡ Accepted n
    accepted a b n p l =
        let e = in_order a in
        let q = the_count e n p in
        says_count m h s e (is_false (row13 e) b) (omega arith) ∙ ap Accepted (sym q)

    given : {v : Verdict} → Due m h s lent v → drawing_of m h s lent ≡ v
    given (twelve r) = room_refused m h s lent 12 0 (says_12 m h s (is_true says_row12 r))
    given (thirteen a r) = let e = in_order a in room_refused m h s lent 13 0 (says_13 m h s e (is_true (row13 e) r))
    given (fourteen a b n p l) =
        let e = in_order a in
        let q = the_count e n p in
        room_refused m h s lent 14 0 (says_14 m h s e (is_false (row13 e) b) (omega arith))
    given (eight a b n p l k) = room_eight m h s lent n (accepted a b n p l) k
    given (drawn a b n p l k) = room_accepted m h s lent n (accepted a b n p l) k

    pub drawing_due : Due m h s lent (drawing_of m h s lent)
    unfolding drawing_of
    drawing_due = due (says m h s)

    pub exactly : (v : Verdict) → (drawing_of m h s lent ≡ v → Due m h s lent v) × (Due m h s lent v → drawing_of m h s lent ≡ v)
    exactly v = (λ e. subst (Due m h s lent) e drawing_due, given)

pub refuses_exactly : RefusesExactly
refuses_exactly m h s lent v = exactly m h s lent v
