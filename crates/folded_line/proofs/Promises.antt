-- The statements of specs/Demand on the line that is drawn and on calls, kept.
-- Assumes nothing.
use mathlib.Core.Path.{◌≡◌, refl, sym, ap, subst, ◌∙◌}
use mathlib.Core.Bool.{Bool, true, false, not, ◌&&◌}
use mathlib.Core.List.{◌++◌}
use mathlib.Core.Logic.{◌⊎◌, inl, inr, ⊎_elim}
use Prim.Native.Nat.{ℕ, zero, suc, ◌*◌, ◌/◌, ◌%◌, ◌≤◌, ◌<◌}
use native.Mathlib.Nat.{div-add-mod', mul-one, le_of_mul-le-mul_right}
use native.Mathlib.Omega.{arith}
use borrow.Author.Tests.{ltb-false, eqb-true, ne_eqb}
use lib.Dec.{ltb, eqb}
use lib.IntN.{ℤ, pos, neg_ℤ, ◌+ℤ◌, ◌*ℤ◌}
use lib.ListN.{length, take, drop}
use lib.Seq.{take_at, drop_at}
use lib.Signed.{◌<ℤ◌, ◌≤ℤ◌}
use Rattle.integers.proofs.Naturals.{pos-≤, pos-<, ≤_pos, <_pos, pos_injective}
use Rattle.fractions.specs.declared.Point.{Point}
use Rattle.fractions.specs.Point.{whole_of}
use Rattle.line_segment.specs.declared.LineSegment.{LineSegment}
use Rattle.line_segment.specs.Geometry.{LiesOn}
use Rattle.charts.specs.Fault.{range, eq_z}
use Rattle.charts.specs.Chart.{most, verdict_of}
use Rattle.charts.specs.Piece.{piece_at, is_upright, no_upright}
use Rattle.charts.specs.Answer.{answer_of}
use Rattle.charts.specs.Demand.{Off, none, FaultOf, done}
use Rattle.charts.specs.Verdict.{Accepted, Refused}
use Rattle.charts.proofs.Exactly.{refuses_exactly as chart_exactly}
use Rattle.charts.proofs.Rows.{says_outside}
use Rattle.charts.proofs.Upright.{upright_none, upright_not}
use Rattle.folded_line.specs.Folded.{folded}
use Rattle.folded_line.specs.Line.{count, joint, kind_of, line}
use Rattle.folded_line.specs.Drawing.{uneven, drawing_of, drawn_by, Sized}
use Rattle.folded_line.specs.Demand.{HeldOnce, Joined, RefusesWhole, DoneExactly, HoldsFolded, HoldsNothingElse, HoldsBetween, RunsLeftToRight, AcceptedByAll}
use Rattle.folded_line.proofs.Exactly.{refuses_exactly}
use Rattle.folded_line.proofs.Folding.{folded_below}
use Rattle.folded_line.proofs.Joints.{Lined, joint_on, joint_less, joint_last, joint_most}
use Rattle.folded_line.proofs.Stores.{fives_length}
use Rattle.folded_line.proofs.Straight.{Spans, scaled, holds, held_line, held_spans}
use Rattle.folded_line.proofs.Numbers.{in_range, kind_in_range, kind_last, kind_other, kind_small, number_0, number_1, number_2, number_3, number_4, segment, as_given, first_in, second_in, second_out}
use Rattle.folded_line.proofs.Holding.{Slope, slopes, whole_value, Covers, covers, one_covers}
use Rattle.folded_line.proofs.Verdicts.{goes, sized, room_goes}

-- ---- what is known of a line that is drawn
even_or_small : (m h s : ℕ) → uneven m h s ≡ false → ((w : ℕ) × (h ≡ w * m)) ⊎ (m * s ≤ h)
unfolding uneven
even_or_small m h s e = go (ltb h (m * s)) refl (eqb (h % m) 0) refl e
  where
    go : (a : Bool) → ltb h (m * s) ≡ a → (b : Bool) → eqb (h % m) 0 ≡ b → (a && not b) ≡ false → ((w : ℕ) × (h ≡ w * m)) ⊎ (m * s ≤ h)
    go false f b g k = inr (ltb-false h (m * s) f)
    go true f true g k = inl (h / m, (let d = div-add-mod' h m in let r = eqb-true (h % m) 0 g in omega arith))
    go true f false g k = absurd (let z : ◌≡◌ {A = ℕ} 0 1 = cc in omega arith)

pub record Known (m h s n : ℕ) : Type 0 where
  pub small : Sized m h s
  pub lined : Lined m h s
  pub counting : n ≡ count m h s

known : (m h s lent n : ℕ) → drawing_of m h s lent ≡ Accepted n → Known m h s n
known m h s lent n e =
    let g = goes m h s n (room_goes m h s lent n e).0 in
    let z = sized m h s g.ranged in
    record {
      small = z;
      lined = record { order = z.order; rate = z.rate; speed = z.speed; whole = even_or_small m h s g.even };
      counting = g.counting;
    }

-- ---- the pieces of the line
module _ (m h s : ℕ) (z : Sized m h s) (d : Lined m h s) where
  abbrev n : ℕ
  n = count m h s

  abbrev x : ℕ → ℕ
  x j = joint m h s j

  abbrev y : ℕ → ℕ
  y j = folded h (m * joint m h s j)

  x_small : (j : ℕ) → x j ≤ 32767
  x_small j = let a = joint_most m h s j in let b = z.speed_most in omega arith

  y_small : (j : ℕ) → y j ≤ 32767
  y_small j = let a = folded_below h d.rate (m * joint m h s j) in let b = z.rate_most in omega arith

  abbrev piece : ℕ → LineSegment
  piece j = segment (kind_of n j) (x j) (y j) (x (suc j)) (y (suc j))

  the_piece : (j : ℕ) → j < n → piece_at (line m h s) j ≡ piece j
  unfolding piece_at line
  the_piece j l =
      rw (number_0 m h s n j l, number_1 m h s n j l, number_2 m h s n j l, number_3 m h s n j l, number_4 m h s n j l)
      (as_given (kind_of n j) (x j) (y j) (x (suc j)) (y (suc j)) (kind_small n j) (x_small j) (y_small j) (x_small (suc j)) (y_small (suc j)) (joint_less m h s d j l))

  -- ---- what a piece holds
  module _ (j : ℕ) (l : j < n) where
    t : Slope m h s d j
    t = slopes m h s d j l

    forth : x j < x (suc j)
    forth = joint_less m h s d j l

    begins : pos (y j) ≡ t.slope *ℤ pos (x j) +ℤ t.height
    begins = whole_value m h s d j (x j) t (omega arith) (let f = forth in omega arith)

    ends : pos (y (suc j)) ≡ t.slope *ℤ pos (x (suc j)) +ℤ t.height
    ends = whole_value m h s d j (x (suc j)) t (let f = forth in omega arith) (omega arith)

    -- the folded point at x over u
    abbrev point : ℕ → ℕ → Point
    point a u = record { x = pos a; y = pos (folded (h * u) (m * a)); d = u }

    spans : (a u : ℕ) → Covers m h s d a u j → Spans (piece j) t.slope t.height begins ends (pos-< forth) (point a u)
    spans a u c =
        record {
          from = pos-≤ c.from;
          upto = ⊎_elim (λ (k : a < x (suc j) * u). inl (pos-< k)) (λ (k : (a ≡ x (suc j) * u) × (suc j ≡ n)). inr (ap pos k.0, second_in n j k.1)) c.upto;
        }

    upto_of : (a u : ℕ) → Covers m h s d a u j → a ≤ x (suc j) * u
    upto_of a u c = ⊎_elim (λ (k : a < x (suc j) * u). omega arith) (λ (k : (a ≡ x (suc j) * u) × (suc j ≡ n)). let e = k.0 in omega arith) c.upto

    holds_it : (a u : ℕ) → 0 < u → Covers m h s d a u j → LiesOn (piece_at (line m h s) j) (point a u)
    holds_it a u p c =
        rw (the_piece j l)
        (holds (piece j) t.slope t.height begins ends (pos-< forth) (point a u) (t.value a u p c.from (upto_of a u c)) (first_in n j) (spans a u c))

    -- and where a point lies that it holds
    module _ (p : Point) (v : LiesOn (piece_at (line m h s) j) p) where
      lies : LiesOn (piece j) p
      lies = subst (λ (g : LineSegment). LiesOn g p) (the_piece j l) v

      on_it : p.y ≡ t.slope *ℤ p.x +ℤ t.height *ℤ pos p.d
      on_it = held_line (piece j) t.slope t.height begins ends (pos-< forth) p lies

      spanned : Spans (piece j) t.slope t.height begins ends (pos-< forth) p
      spanned = held_spans (piece j) t.slope t.height begins ends (pos-< forth) p lies

      covered : (a : ℕ) → p.x ≡ pos a → Covers m h s d a p.d j
      covered a e =
          record {
            piece = l;
            from = ≤_pos (subst (λ (w : ℤ). (pos (x j) *ℤ pos p.d) ≤ℤ w) e spanned.from);
            upto = ⊎_elim
                (λ (k : p.x <ℤ (pos (x (suc j)) *ℤ pos p.d)). inl (<_pos (subst (λ (w : ℤ). w <ℤ (pos (x (suc j)) *ℤ pos p.d)) e k)))
                (λ (k : (p.x ≡ pos (x (suc j)) *ℤ pos p.d) × ((piece j).max.included ≡ true)). inr (pos_injective (sym e ∙ k.0), second_out n j k.1))
                spanned.upto;
          }

  -- at every x one piece holds the folded value
  held_once : (a u : ℕ) → 0 < u → a ≤ s * u → HeldOnce (line m h s) n (record { x = pos a; y = pos (folded (h * u) (m * a)); d = u })
  held_once a u p l =
      let c = covers m h s d a u l in
      record {
        piece = c.0;
        one = c.1.piece;
        held = holds_it c.0 c.1.piece a u p c.1;
        no_other = λ i k v. one_covers m h s d a u i c.0 (covered i k (point i k a u) v a refl) c.1;
      }

  nothing_else : (a i : ℕ) (p : Point) → i < n → 0 < p.d → p.x ≡ pos a *ℤ pos p.d → LiesOn (piece_at (line m h s) i) p
      → (a ≤ s) × (p.y ≡ pos (folded h (m * a)) *ℤ pos p.d)
  nothing_else a i p l q e v =
      let c = covered i l p v (a * p.d) e in
      let low : x i ≤ a = le_of_mul-le-mul_right {m = x i} {n = a} {k = p.d} c.from q in
      let high : a ≤ x (suc i) = le_of_mul-le-mul_right {m = a} {n = x (suc i)} {k = p.d} (upto_of i l (a * p.d) p.d c) q in
      let top = joint_most m h s (suc i) in
      (omega arith, scaled (t i l).slope (t i l).height (pos a) (pos (folded h (m * a))) p.x p.y (pos p.d) (whole_value m h s d i a (t i l) low high) e (on_it i l p v))

  -- ---- the list is a chart
  sound : (i : ℕ) → i < n → FaultOf (line m h s) i 0
  unfolding line
  sound i l =
      rw (number_0 m h s n i l, number_1 m h s n i l, number_2 m h s n i l, number_3 m h s n i l, number_4 m h s n i l)
      (none ((says_outside _ _ _).no (kind_in_range (kind_of n i) (kind_small n i)))
      (⊎_elim (⊎_elim (off (x i) (x_small i)) (off (y i) (y_small i))) (⊎_elim (off (x (suc i)) (x_small (suc i))) (off (y (suc i)) (y_small (suc i)))))
      (λ e. let f = pos_injective e.0 in let g = joint_less m h s d i l in omega arith))
    where
      off : (v : ℕ) → v ≤ 32767 → Off (pos v) → ⊥
      off v k = (says_outside (neg_ℤ range) range (pos v)).no (in_range v k)

  five_each : length (line m h s) ≡ 5 * n
  unfolding line
  five_each = fives_length m h s n n

  accepted : n ≤ most → verdict_of (line m h s) ≡ Accepted n
  accepted l = (chart_exactly (line m h s) (Accepted n)).1 (done n five_each l sound)

  slanted : (k : ℕ) → k < n → is_upright (piece_at (line m h s) k) ≡ false
  unfolding is_upright eq_z
  slanted k l = rw (the_piece k l, ne_eqb (x k) (x (suc k)) (λ e. let g = joint_less m h s d k l in omega arith))

  none_upright : (k : ℕ) → k ≤ n → no_upright (line m h s) k ≡ true
  none_upright zero l = upright_none (line m h s)
  none_upright (suc k) l = upright_not (line m h s) k (none_upright k (omega arith)) (slanted k l)

  joined : (j : ℕ) → j < n → Joined m h s n (line m h s) j (x j) (x (suc j))
  unfolding line
  joined j l =
      record {
        begins = number_1 m h s n j l;
        begins_at = number_2 m h s n j l;
        ends = number_3 m h s n j l;
        ends_at = number_4 m h s n j l;
        rightward = joint_less m h s d j l;
        joint = joint_on m h s d j l;
        next = λ k. joint_on m h s d (suc j) k;
        last = λ e. ap (joint m h s) e ∙ joint_last m h s d;
        onward = λ k. (number_1 m h s n (suc j) k, number_2 m h s n (suc j) k);
        half_open = λ k. number_0 m h s n j l ∙ ap pos (kind_other n j (λ e. omega arith));
        closed = λ e. number_0 m h s n j l ∙ ap pos (kind_last n j e);
      }

-- ---- the promises
pub holds_between : HoldsBetween
holds_between m h s lent n e a u p l =
    let k = known m h s lent n e in
    rw k.counting (held_once m h s k.small k.lined a u p l)

pub holds_folded : HoldsFolded
holds_folded m h s lent n e a l =
    let k = known m h s lent n e in
    rw k.counting (subst (λ (w : ℕ). HeldOnce (line m h s) (count m h s) (whole_of (pos a) (pos (folded w (m * a))))) (mul-one h) (held_once m h s k.small k.lined a 1 (omega arith) (omega arith)))

pub holds_nothing_else : HoldsNothingElse
holds_nothing_else m h s lent n e a i p l q f v =
    let k = known m h s lent n e in
    let c = k.counting in
    nothing_else m h s k.small k.lined a i p (omega arith) q f v

pub runs_left_to_right : RunsLeftToRight
runs_left_to_right m h s lent n e j l =
    let k = known m h s lent n e in
    (joint m h s j, joint m h s (suc j), rw k.counting (joined m h s k.small k.lined j (rw k.counting at l)))

pub accepted_by_all : AcceptedByAll
accepted_by_all m h s lent n e =
    let k = known m h s lent n e in
    rw k.counting (accepted m h s k.small k.lined, none_upright m h s k.small k.lined (count m h s) (omega arith))

pub refuses_whole : RefusesWhole
refuses_whole m h s lent r after w number place u =
    let e = (refuses_exactly m h s (length lent) (Refused number place)).1 u in
    (w.answer ∙ ap (answer_of (λ n. n)) e, w.content ∙ ap (drawn_by m h s lent) e)

pub done_exactly : DoneExactly
done_exactly m h s lent r after w n u =
    let e = (refuses_exactly m h s (length lent) (Accepted n)).1 u in
    let k = known m h s (length lent) n e in
    let f : length (line m h s) ≡ 5 * n = five_each m h s k.small k.lined ∙ ap (λ (i : ℕ). 5 * i) (sym k.counting) in
    let g : after ≡ line m h s ++ drop (length (line m h s)) lent = w.content ∙ ap (drawn_by m h s lent) e in (
      w.answer ∙ ap (answer_of (λ n. n)) e,
      ap (take (5 * n)) g ∙ take_at (line m h s) (drop (length (line m h s)) lent) (5 * n) f,
      ap (drop (5 * n)) g ∙ drop_at (line m h s) (drop (length (line m h s)) lent) (5 * n) f ∙ ap (λ (i : ℕ). drop i lent) f,
    )
