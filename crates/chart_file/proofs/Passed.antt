-- Groups passed with their high bit set, and what the rest then says of the whole: the steps of `groups_at`.
use mathlib.Core.Path.{◌≡◌, refl, sym, ap, ◌∙◌}
use mathlib.Core.List.{List, [], ◌∷◌}
use Prim.Native.Nat.{ℕ, suc, ◌+◌, ◌*◌, ◌-◌, ◌%◌, ◌^◌, ◌≤◌, ◌<◌}
use native.Mathlib.Nat.{pow-suc, zero-add, mul-add, mul_assoc, mul-le-mul_left}
use native.Mathlib.Numerals.{add-one}
use native.Mathlib.Omega.{arith}
use borrow.Author.Tests.{le-leb, lt-leb, lt-ltb}
use lib.ListN.{length, get_or, take, drop, length-drop, drop_of_length-le}
use lib.Seq.{drop-cons, get_or-drop}
use Rattle.chart_file.specs.Found.{Value, Fault}
use Rattle.chart_file.specs.Groups.{value, marked, groups_at}
use Rattle.chart_file.proofs.Spelling.{marked_last, marked_more}
use Rattle.chart_file.proofs.AtPlace.{not_padded}

nothing_marked : marked [] ≡ 0
unfolding marked
nothing_marked = refl

weighed : (v w b x : ℕ) → 128 ≤ b → b < 256 → v + w * (b % 128 + 128 * x) ≡ v + w * (b - 128) + w * 128 * x
weighed v w b x l u =
    let e : b % 128 ≡ b - 128 = omega arith in
    rw (e, mul-add, mul_assoc) (omega arith)

-- g groups from a place on are passed, up to i: they stand for v, and a group there weighs w
pub record Passed (s : List ℕ) (at g i v w : ℕ) : Type 0 where
  pub place : i ≡ at + g
  pub weight : w ≡ 128 ^ g
  pub small : v < w
  pub marks : marked (drop at s) ≡ g + marked (drop i s)
  pub stands : (n : ℕ) → value (take (g + n) (drop at s)) ≡ v + w * value (take n (drop i s))

pub none_passed : (s : List ℕ) (at : ℕ) → Passed s at 0 at 0 1
none_passed s at = record {
  place = omega arith;
  weight = refl;
  small = omega arith;
  marks = omega arith;
  stands = λ n. rw (zero-add n) (omega arith);
}

module _ (s : List ℕ) (at g i v w b : ℕ) (p : Passed s at g i v w) (h : i < length s) (e : b ≡ get_or s i 0) where
  here : drop i s ≡ b ∷ drop (suc i) s
  here = rw e (drop-cons s i 0 h)

  -- one group more is passed
  pub one_passed : 128 ≤ b → b < 256 → Passed s at (g + 1) (i + 1) (v + w * (b - 128)) (w * 128)
  unfolding value
  one_passed l u = record {
    place = omega (arith, p.place);
    weight = rw (add-one, pow-suc, ← p.weight);
    small = omega (arith, p.small, mul-le-mul_left {m = b - 128} {n = 127} w (omega arith));
    marks = p.marks ∙ rw (add-one i, here, marked_more b (drop (suc i) s) l) (omega arith);
    stands = λ n. further n;
  }
    where
      further : (n : ℕ) → value (take (g + 1 + n) (drop at s)) ≡ v + w * (b - 128) + w * 128 * value (take n (drop (i + 1) s))
      further n =
          let f : g + 1 + n ≡ g + suc n = omega arith in
          rw (f, add-one i, p.stands (suc n), here) (weighed v w b (value (take n (drop (suc i) s))) l u)

  -- this group is the last
  last_mark : b < 128 → marked (drop at s) ≡ g
  last_mark l = p.marks ∙ ap (λ (t : List ℕ). g + marked t) here ∙ ap (λ (m : ℕ). g + m) (marked_last b (drop (suc i) s) l) ∙ omega arith

  last_value : b < 128 → value (take (suc g) (drop at s)) ≡ v + w * b
  unfolding value
  last_value l =
      let f : b % 128 + 128 * 0 ≡ b = omega arith in
      ap (λ (n : ℕ). value (take n (drop at s))) (sym (add-one g)) ∙ p.stands 1 ∙ rw (here, f)

  pub passed_value : (k : ℕ) → g < k → b < 128 → (0 < g → b ≡ 0 → ⊥) → Value (v + w * b) (i + 1) ≡ groups_at k s at
  unfolding groups_at
  passed_value k q l z =
      let f : get_or (drop at s) g 0 ≡ b = get_or-drop at s g 0 ∙ ap (λ (j : ℕ). get_or s j 0) (sym p.place) ∙ sym e in
      rw (last_mark l, f, lt-leb k g q, lt-leb (length (drop at s)) g (omega (arith, length-drop at s, p.place)), not_padded g b z, last_value l) (ap (Value (v + w * b)) (omega (arith, p.place)))

  pub passed_zero : (k : ℕ) → g < k → 0 < g → b ≡ 0 → Fault 2 ≡ groups_at k s at
  unfolding groups_at
  passed_zero k q d z =
      let f : get_or (drop at s) g 0 ≡ 0 = get_or-drop at s g 0 ∙ ap (λ (j : ℕ). get_or s j 0) (sym p.place) ∙ sym e ∙ z in
      rw (last_mark (omega arith), f, lt-leb k g q, lt-leb (length (drop at s)) g (omega (arith, length-drop at s, p.place)), lt-ltb 0 g d)

-- the file ends after these groups
pub passed_end : (k : ℕ) (s : List ℕ) (at g i v w : ℕ) → Passed s at g i v w → g < k → length s ≤ i → Fault 1 ≡ groups_at k s at
unfolding groups_at
passed_end k s at g i v w p q h =
    let m : marked (drop at s) ≡ g = p.marks ∙ rw (drop_of_length-le s h, nothing_marked) (omega arith) in
    rw (m, lt-leb k g q, le-leb (length (drop at s)) g (omega (arith, length-drop at s, p.place)))

-- no more groups are due
pub passed_most : (k : ℕ) (s : List ℕ) (at g i v w : ℕ) → Passed s at g i v w → k ≤ g → Fault 2 ≡ groups_at k s at
unfolding groups_at
passed_most k s at g i v w p q = rw (le-leb k (marked (drop at s)) (omega (arith, p.marks)))
