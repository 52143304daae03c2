-- What stands in groups at a place is read in one way: a number from its groups, and its groups from the number.
use mathlib.Core.Path.{◌≡◌, sym, ap, ◌∙◌}
use mathlib.Core.Bool.{false, ◌&&◌, and-false}
use mathlib.Core.List.{List, [], ◌∷◌, ◌++◌}
use Prim.Native.Nat.{ℕ, zero, suc, ◌+◌, ◌*◌, ◌%◌, ◌^◌, ◌≤◌, ◌<◌}
use native.Mathlib.Nat.{pow-suc}
use native.Mathlib.Decide.{dec_lt}
use native.Mathlib.Omega.{arith}
use borrow.Author.Tests.{le-ltb, lt-leb, ne_eqb}
use lib.Dec.{ltb, eqb}
use lib.ListN.{length, get_or, take, drop, length-append, get_or-append}
use lib.Seq.{take-append_seam, get_or-take, length-take-le}
use Rattle.chart_file.specs.Found.{Value}
use Rattle.chart_file.specs.Groups.{value, marked, groups_at, spelled, Bytes, Canonical}
use Rattle.chart_file.proofs.Spelling.{marked_last, marked_more, canonical_spelled, value_spelled, length_spelled}

-- What follows a number changes none of its marks.
marked_front : (gs u : List ℕ) → suc (marked gs) ≡ length gs → marked (gs ++ u) ≡ marked gs
marked_front [] u m = absurd (omega arith)
marked_front (b ∷ gs) u m = elim (dec_lt b 128) [
  | yes l ↦ marked_last b (gs ++ u) l ∙ sym (marked_last b gs l)
  | no g ↦
      let g' : 128 ≤ b = omega arith in
      marked_more b (gs ++ u) g' ∙ ap suc (marked_front gs u (omega (arith, m, marked_more b gs g'))) ∙ sym (marked_more b gs g')
]

-- The last of several groups is not zero, as the test says it.
pub not_padded : (m b : ℕ) → (0 < m → b ≡ 0 → ⊥) → (ltb 0 m && eqb b 0) ≡ false
not_padded zero b z = rw (le-ltb 0 0 (omega arith))
not_padded (suc m) b z = rw (ne_eqb b 0 (z (omega arith))) (and-false (ltb 0 (suc m)))

-- Canonical groups are read as their number, whatever follows.
pub canonical_read : (k : ℕ) (s : List ℕ) (at : ℕ) (gs u : List ℕ) → Canonical gs → length gs ≤ k → drop at s ≡ gs ++ u → groups_at k s at ≡ Value (value gs) (at + length gs)
unfolding groups_at
canonical_read k s at gs u c l e =
    let m = marked gs in
    let n : marked (gs ++ u) ≡ m = marked_front gs u c.marks in
    let a : length gs ≤ length (gs ++ u) = omega (arith, length-append gs u) in
    let i : m < length gs = omega (arith, c.marks) in
    rw (e, n, lt-leb k m (omega arith), lt-leb (length (gs ++ u)) m (omega arith), get_or-append gs u 0 m i, not_padded m (get_or gs m 0) c.needed, c.marks, take-append_seam gs u)

pub spelled_read : (k : ℕ) (s : List ℕ) (at v : ℕ) (u : List ℕ) → 0 < k → v < 128 ^ k → drop at s ≡ spelled k v ++ u → groups_at k s at ≡ Value v (at + length (spelled k v))
spelled_read k s at v u p h e = canonical_read k s at (spelled k v) u (canonical_spelled k v p h) (length_spelled k v) e ∙ ap (λ (x : ℕ). Value x (at + length (spelled k v))) (value_spelled k v h)

-- The groups at a place that end before the file does are canonical unless they are padded.
marked_take : (t : List ℕ) → marked t < length t → marked (take (suc (marked t)) t) ≡ marked t
marked_take [] l = absurd (omega arith)
marked_take (b ∷ t) l = elim (dec_lt b 128) [
  | yes h ↦ marked_last b (take (marked (b ∷ t)) t) h ∙ sym (marked_last b t h)
  | no g ↦
      let e : marked (b ∷ t) ≡ suc (marked t) = marked_more b t (omega arith) in
      rw e (marked_more b (take (suc (marked t)) t) (omega arith) ∙ ap suc (marked_take t (omega arith)))
]

-- They stand for no less than their count of groups calls for, whatever the bytes.
pub value_least : (t : List ℕ) → marked t < length t → (get_or t (marked t) 0 ≡ 0 → ⊥) → 128 ^ marked t ≤ value (take (suc (marked t)) t)
unfolding value
value_least [] l z = absurd (omega arith)
value_least (b ∷ t) l z = elim (dec_lt b 128) [
  | yes h ↦
      let e : marked (b ∷ t) ≡ 0 = marked_last b t h in
      let z' : b ≡ 0 → ⊥ = rw e at z in
      rw e (omega arith)
  | no g ↦
      let e : marked (b ∷ t) ≡ suc (marked t) = marked_more b t (omega arith) in
      rw (e, pow-suc) (more (128 ^ marked t) (value (take (suc (marked t)) t)) (value_least t (omega arith) (rw e at z)))
]
  where
    more : (p w : ℕ) → p ≤ w → p * 128 ≤ b % 128 + 128 * w
    more p w h = omega arith

bytes_take : (n : ℕ) (t : List ℕ) → Bytes t → Bytes (take n t)
bytes_take zero [] b = tt
bytes_take zero (x ∷ t) b = tt
bytes_take (suc n) [] b = tt
bytes_take (suc n) (x ∷ t) b = (b.0, bytes_take n t b.1)

pub front_canonical : (t : List ℕ) → Bytes t → marked t < length t → (0 < marked t → get_or t (marked t) 0 ≡ 0 → ⊥) → Canonical (take (suc (marked t)) t)
front_canonical t b l z =
    let m = marked t in
    let e : marked (take (suc m) t) ≡ m = marked_take t l in
    record {
      bytes = bytes_take (suc m) t b;
      marks = ap suc e ∙ sym (length-take-le (suc m) t l);
      needed = rw (e, get_or-take (suc m) t m 0 (omega arith)) z;
    }
