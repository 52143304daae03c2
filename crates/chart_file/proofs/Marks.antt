-- What stands in groups at a place, byte by byte: the proof of `GroupsExactly`.
use mathlib.Core.Path.{◌≡◌, refl, sym, ap, ◌∙◌, subst}
use mathlib.Core.Bool.{Bool, true, false, cond, ◌&&◌, false≢true}
use mathlib.Core.List.{List, [], ◌∷◌, ◌++◌}
use Prim.Native.Nat.{ℕ, zero, suc, ◌+◌, ◌^◌, ◌≤◌, ◌<◌}
use native.Mathlib.Nat.{pow-le-pow_right, lt_of_lt_of_le}
use native.Mathlib.Decide.{dec_lt}
use native.Mathlib.Omega.{arith}
use borrow.Author.Tests.{ltb-true, eqb-true, leb-true, leb-false, lt-ltb, le-leb, lt-leb, eq-eqb}
use lib.Dec.{leb, ltb, eqb}
use lib.ListN.{length, get_or, take, drop, take-append-drop, get_or-eq_default}
use lib.Seq.{length-take-le}
use Rattle.chart_file.specs.Found.{Groups, Value, Fault}
use Rattle.chart_file.specs.Groups.{value, marked, groups_at, spelled, Bytes, Canonical}
use Rattle.chart_file.specs.Demand.{Marked, InGroups, number, ends, unended, padded, GroupsExactly}
use Rattle.chart_file.proofs.Spelling.{marked_last, marked_more, spelled_value, value_below}
use Rattle.chart_file.proofs.AtPlace.{front_canonical, spelled_read}

-- ---- the count of marks, by the bytes

marks : (t : List ℕ) → Marked (marked t) t
unfolding marked
marks [] i h = absurd (omega arith)
marks (b ∷ t) zero h = elim (dec_lt b 128) [
  | yes l ↦ absurd (omega (arith, marked_last b t l))
  | no g ↦ omega arith
]
marks (b ∷ t) (suc i) h = elim (dec_lt b 128) [
  | yes l ↦ absurd (omega (arith, marked_last b t l))
  | no g ↦ marks t i (omega (arith, marked_more b t (omega arith)))
]

unmarked : (t : List ℕ) → get_or t (marked t) 0 < 128
unmarked [] = omega arith
unmarked (b ∷ t) = elim (dec_lt b 128) [
  | yes l ↦ rw (marked_last b t l) l
  | no g ↦ rw (marked_more b t (omega arith)) (unmarked t)
]

marked_most : (t : List ℕ) (n : ℕ) → Marked n t → n ≤ marked t
marked_most t n h = elim (dec_lt (marked t) n) [
  | yes l ↦ absurd (omega (arith, h (marked t) l, unmarked t))
  | no g ↦ omega arith
]

marked_is : (t : List ℕ) (n : ℕ) → Marked n t → get_or t n 0 < 128 → marked t ≡ n
marked_is t n h u = elim (dec_lt n (marked t)) [
  | yes l ↦ absurd (omega (arith, marks t n l))
  | no g ↦ omega (arith, marked_most t n h)
]

marked_length : (t : List ℕ) → marked t ≤ length t
marked_length t = elim (dec_lt (length t) (marked t)) [
  | yes l ↦ absurd (omega (arith, marks t (length t) l, get_or-eq_default t 0 {n = length t} (omega arith)))
  | no g ↦ omega arith
]

-- ---- from the reading to the row, and back

and_both : (a b : Bool) → (a && b) ≡ true → (a ≡ true) × (b ≡ true)
and_both true b e = (refl, e)
and_both false b e = absurd (false≢true e)

pub and_neither : (a b : Bool) → (a && b) ≡ false → a ≡ true → b ≡ true → ⊥
and_neither a b e p q = false≢true (sym e ∙ ap (λ (x : Bool). x && b) p ∙ q)

module _ (k : ℕ) (s : List ℕ) (at : ℕ) where
  groups_row : Bytes (drop at s) → InGroups k (drop at s) at (groups_at k s at)
  unfolding groups_at
  groups_row b = go (leb k m) (leb (length t) m) (ltb 0 m && eqb (get_or t m 0) 0) refl refl refl
    where
      t : List ℕ
      t = drop at s

      m : ℕ
      m = marked t

      go : (x y z : Bool) → leb k m ≡ x → leb (length t) m ≡ y → (ltb 0 m && eqb (get_or t m 0) 0) ≡ z
          → InGroups k t at (cond x (Fault 2) (cond y (Fault 1) (cond z (Fault 2) (Value (value (take (suc m) t)) (at + suc m)))))
      go true y z ex ey ez = unended (λ i h. marks t i (omega (arith, leb-true k m ex)))
      go false true z ex ey ez = ends m (leb-false k m ex) (omega (arith, leb-true (length t) m ey, marked_length t)) (marks t)
      go false false true ex ey ez =
          let q = and_both (ltb 0 m) (eqb (get_or t m 0) 0) ez in
          padded m (ltb-true 0 m q.0) (leb-false k m ex) (leb-false (length t) m ey) (marks t) (eqb-true (get_or t m 0) 0 q.1)
      go false false false ex ey ez =
          let g : List ℕ = take (suc m) t in
          let l : m < length t = leb-false (length t) m ey in
          let c : Canonical g = front_canonical t b l (λ p e. and_neither (ltb 0 m) (eqb (get_or t m 0) 0) ez (lt-ltb 0 m p) (eq-eqb (get_or t m 0) 0 e)) in
          let n : length g ≡ suc m = length-take-le (suc m) t l in
          let f : spelled k (value g) ≡ g = spelled_value k g c (omega (arith, leb-false k m ex)) in
          let v : value g < 128 ^ k = lt_of_lt_of_le (value_below g) (pow-le-pow_right {n = 128} (omega arith) (omega (arith, leb-false k m ex))) in
          let e : t ≡ spelled k (value g) ++ drop (suc m) t = sym (take-append-drop (suc m) t) ∙ ap (λ (x : List ℕ). x ++ drop (suc m) t) (sym f) in
          subst (λ (x : ℕ). InGroups k t at (Value (value g) (at + x))) (ap length f ∙ n) (number (value g) (drop (suc m) t) v e)

  groups_back : 0 < k → (g : Groups) → InGroups k (drop at s) at g → groups_at k s at ≡ g
  unfolding groups_at
  groups_back p g (number v rest h e) = spelled_read k s at v rest p h e
  groups_back p g (ends n h l m) =
      let e : marked (drop at s) ≡ n = marked_is (drop at s) n m (omega (arith, get_or-eq_default (drop at s) 0 {n = n} (omega arith))) in
      rw (e, lt-leb k n h, le-leb (length (drop at s)) n (omega arith))
  groups_back p g (unended m) = rw (le-leb k (marked (drop at s)) (marked_most (drop at s) k m))
  groups_back p g (padded n q h l m z) =
      let e : marked (drop at s) ≡ n = marked_is (drop at s) n m (omega arith) in
      rw (e, lt-leb k n h, lt-leb (length (drop at s)) n l, lt-ltb 0 n q, z)

pub bytes_drop : (n : ℕ) (t : List ℕ) → Bytes t → Bytes (drop n t)
bytes_drop zero t b = b
bytes_drop (suc n) [] b = tt
bytes_drop (suc n) (x ∷ t) b = bytes_drop n t b.1

pub groups_exactly : GroupsExactly
groups_exactly k s at p b g = (λ e. subst (InGroups k (drop at s) at) e (groups_row k s at (bytes_drop at s b)), groups_back k s at p g)
