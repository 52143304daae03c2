-- What is said of three numbers and of the room, by the tests that the code makes.
-- Assumes nothing.
use mathlib.Core.Path.{◌≡◌, refl, sym, ◌∙◌}
use mathlib.Core.Bool.{Bool, true, false, cond, ◌||◌}
use Prim.Native.Nat.{ℕ, ◌*◌, ◌-◌, ◌/◌, ◌%◌, ◌≤◌, ◌<◌}
use native.Mathlib.Nat.{mul-le-mul}
use native.Mathlib.Omega.{arith}
use borrow.Author.Tests.{lt-ltb, le-ltb, ltb-true, ltb-false}
use lib.Dec.{ltb}
use Rattle.charts.specs.Answer.{then_room}
use Rattle.charts.specs.Verdict.{Verdict}
use Rattle.charts.specs.Verdict.{Accepted, Refused}
use Rattle.folded_line.specs.Folded.{folded}
use Rattle.folded_line.specs.Line.{count, joint}
use Rattle.folded_line.specs.Drawing.{most_order, limit, most_pieces, off, off_range, uneven, line_verdict, drawing_of, Sized}

or_false : {a b : Bool} → (a || b) ≡ false → (a ≡ false) × (b ≡ false)
or_false {a = true} e = absurd (let z : ◌≡◌ {A = ℕ} 0 1 = cc in omega arith)
or_false {a = false} e = (refl, e)

on : (high v : ℕ) → off high v ≡ false → (0 < v) × (v ≤ high)
unfolding off
on high v e = let p = or_false e in (ltb-false v 1 p.0, ltb-false high v p.1)

-- a product of an order and a speed is small
pub product : (m x : ℕ) → m ≤ most_order → x ≤ limit → m * x ≤ 1966020
product m x a b = mul-le-mul {n₁ = m} {m₁ = x} {n₂ = most_order} {m₂ = limit} a b

pub stretch : (j h : ℕ) → j ≤ most_pieces → h ≤ limit → j * h ≤ 6553400
stretch j h a b = mul-le-mul {n₁ = j} {m₁ = h} {n₂ = most_pieces} {m₂ = limit} a b

module _ (m h s : ℕ) where
  pub sized : off_range m h s ≡ false → Sized m h s
  unfolding off_range
  sized e =
      let p = or_false e in
      let q = or_false p.1 in
      let a = on most_order m p.0 in
      let b = on limit h q.0 in
      let c = on limit s q.1 in
      record { order = a.0; order_most = a.1; rate = b.0; rate_most = b.1; speed = c.0; speed_most = c.1 }

  pub says_12 : off_range m h s ≡ true → line_verdict m h s ≡ Refused 12 0
  unfolding line_verdict
  says_12 e = rw e

  pub says_13 : off_range m h s ≡ false → uneven m h s ≡ true → line_verdict m h s ≡ Refused 13 0
  unfolding line_verdict
  says_13 e f = rw (e, f)

  pub says_14 : off_range m h s ≡ false → uneven m h s ≡ false → most_pieces < count m h s → line_verdict m h s ≡ Refused 14 0
  unfolding line_verdict
  says_14 e f l = rw (e, f, lt-ltb _ _ l)

  pub says_count : off_range m h s ≡ false → uneven m h s ≡ false → count m h s ≤ most_pieces → line_verdict m h s ≡ Accepted (count m h s)
  unfolding line_verdict
  says_count e f l = rw (e, f, le-ltb _ _ l)

  -- the four cases
  pub data Says : Verdict → Type 0 where
    twelve : off_range m h s ≡ true → Says (Refused 12 0)
    thirteen : off_range m h s ≡ false → uneven m h s ≡ true → Says (Refused 13 0)
    fourteen : off_range m h s ≡ false → uneven m h s ≡ false → most_pieces < count m h s → Says (Refused 14 0)
    counted : off_range m h s ≡ false → uneven m h s ≡ false → count m h s ≤ most_pieces → Says (Accepted (count m h s))

  pub says : Says (line_verdict m h s)
  unfolding line_verdict
  says = go (off_range m h s) refl (uneven m h s) refl (ltb most_pieces (count m h s)) refl
    where
      go : (a : Bool) → off_range m h s ≡ a → (b : Bool) → uneven m h s ≡ b → (c : Bool) → ltb most_pieces (count m h s) ≡ c
          → Says (cond a (Refused 12 0) (cond b (Refused 13 0) (cond c (Refused 14 0) (Accepted (count m h s)))))
      go true e b f c g = twelve e
      go false e true f c g = thirteen e f
      go false e false f true g = fourteen e f (ltb-true _ _ g)
      go false e false f false g = counted e f (ltb-false _ _ g)

  -- what is known where a line is drawn
  pub record Goes (n : ℕ) : Type 0 where
    pub ranged : off_range m h s ≡ false
    pub even : uneven m h s ≡ false
    pub counting : n ≡ count m h s
    pub few : n ≤ most_pieces

  pub goes : (n : ℕ) → line_verdict m h s ≡ Accepted n → Goes n
  goes n e = go says e
    where
      go : {v : Verdict} → Says v → v ≡ Accepted n → Goes n
      go (twelve a) e = absurd (let z : ◌≡◌ {A = ℕ} 0 1 = cc in omega arith)
      go (thirteen a b) e = absurd (let z : ◌≡◌ {A = ℕ} 0 1 = cc in omega arith)
      go (fourteen a b c) e = absurd (let z : ◌≡◌ {A = ℕ} 0 1 = cc in omega arith)
      go (counted a b c) e = let k : count m h s ≡ n = cc in record { ranged = a; even = b; counting = sym k; few = omega arith }

  module _ (lent : ℕ) where
    pub room_refused : (k p : ℕ) → line_verdict m h s ≡ Refused k p → drawing_of m h s lent ≡ Refused k p
    unfolding drawing_of
    room_refused k p e = rw e

    pub room_eight : (n : ℕ) → line_verdict m h s ≡ Accepted n → lent < 5 * n → drawing_of m h s lent ≡ Refused 8 0
    unfolding drawing_of
    room_eight n e l = rw (e, lt-ltb _ _ l)

    pub room_accepted : (n : ℕ) → line_verdict m h s ≡ Accepted n → 5 * n ≤ lent → drawing_of m h s lent ≡ Accepted n
    unfolding drawing_of
    room_accepted n e l = rw (e, le-ltb _ _ l)

    pub room_goes : (n : ℕ) → drawing_of m h s lent ≡ Accepted n → (line_verdict m h s ≡ Accepted n) × (5 * n ≤ lent)
    unfolding drawing_of
    room_goes n e = go (line_verdict m h s) refl e
      where
        go : (v : Verdict) → line_verdict m h s ≡ v → then_room (λ n. 5 * n) lent v ≡ Accepted n → (line_verdict m h s ≡ Accepted n) × (5 * n ≤ lent)
        go (Refused k p) f e = absurd (let z : ◌≡◌ {A = ℕ} 0 1 = cc in omega arith)
        go (Accepted k) f e = test (ltb lent (5 * k)) refl e
          where
            test : (t : Bool) → ltb lent (5 * k) ≡ t → cond t (Refused 8 0) (Accepted k) ≡ Accepted n → (line_verdict m h s ≡ Accepted n) × (5 * n ≤ lent)
            test true g e = absurd (let z : ◌≡◌ {A = ℕ} 0 1 = cc in omega arith)
            test false g e = let q : k ≡ n = cc in (f ∙ e, let l : 5 * k ≤ lent = ltb-false lent (5 * k) g in omega arith)

-- ---- the parts of a piece
pub folded_low : (h v : ℕ) → v % (2 * h) ≤ h → folded h v ≡ v % (2 * h)
unfolding folded
folded_low h v l = rw (le-ltb _ _ l)

pub folded_high : (h v : ℕ) → h < v % (2 * h) → folded h v ≡ 2 * h - v % (2 * h)
unfolding folded
folded_high h v l = rw (lt-ltb _ _ l)

pub joint_low : (m h s j : ℕ) → j * h / m ≤ s → joint m h s j ≡ j * h / m
unfolding joint
joint_low m h s j l = rw (le-ltb _ _ l)

pub joint_high : (m h s j : ℕ) → s < j * h / m → joint m h s j ≡ s
unfolding joint
joint_high m h s j l = rw (lt-ltb _ _ l)
