-- A number and its groups determine each other, whatever the most groups.
use mathlib.Core.Path.{◌≡◌, sym, ap, ◌∙◌}
use mathlib.Core.List.{List, [], ◌∷◌}
use Prim.Native.Nat.{ℕ, zero, suc, ◌+◌, ◌*◌, ◌/◌, ◌%◌, ◌^◌, ◌≤◌, ◌<◌}
use native.Mathlib.Nat.{pow-zero, pow-suc}
use native.Mathlib.Decide.{dec_lt}
use native.Mathlib.Omega.{arith}
use borrow.Author.Tests.{lt-ltb, le-ltb, le-leb, lt-leb}
use lib.Dec.{lit<}
use lib.ListN.{length, get_or}
use Rattle.chart_file.specs.Groups.{value, marked, spelled, Bytes, Canonical}
use Rattle.chart_file.specs.Demand.{Spells, SpellsAlone, SpellsFewest}

-- The last group, and a group before it.
pub marked_last : (b : ℕ) (bs : List ℕ) → b < 128 → marked (b ∷ bs) ≡ 0
unfolding marked
marked_last b bs h = rw (lt-leb _ _ h)

pub marked_more : (b : ℕ) (bs : List ℕ) → 128 ≤ b → marked (b ∷ bs) ≡ suc (marked bs)
unfolding marked
marked_more b bs h = rw (le-leb _ _ h)

pub spelled_last : (k v : ℕ) → v < 128 → spelled (suc k) v ≡ v ∷ []
unfolding spelled
spelled_last k v h = rw (lt-ltb _ _ h)

pub spelled_more : (k v : ℕ) → 128 ≤ v → spelled (suc k) v ≡ (128 + v % 128) ∷ spelled k (v / 128)
unfolding spelled
spelled_more k v h = rw (le-ltb _ _ h)

-- What is left after a group lies below the next lower power, and where it is not zero another group is due.
pub rest_below : (k v : ℕ) → v < 128 ^ suc k → v / 128 < 128 ^ k
rest_below k v h = go (128 ^ k) (rw pow-suc at h)
  where
    go : (p : ℕ) → v < p * 128 → v / 128 < p
    go p h = omega arith

pub rest_due : (k v : ℕ) → 128 ≤ v → v < 128 ^ suc k → 0 < k
rest_due zero v g h = omega arith
rest_due (suc k) v g h = omega arith

-- The groups of a number stand for it,
pub value_spelled : (k v : ℕ) → v < 128 ^ k → value (spelled k v) ≡ v
unfolding value spelled
value_spelled zero v h = let h' : v < 1 = rw pow-zero at h in omega arith
value_spelled (suc k) v h = elim (dec_lt v 128) [
  | yes l ↦ rw (spelled_last k v l) (omega arith)
  | no g ↦ rw (spelled_more k v (omega arith), value_spelled k (v / 128) (rest_below k v h)) (omega arith)
]

-- are bytes,
pub bytes_spelled : (k v : ℕ) → Bytes (spelled k v)
unfolding spelled
bytes_spelled zero v = tt
bytes_spelled (suc k) v = elim (dec_lt v 128) [
  | yes l ↦ rw (spelled_last k v l) (omega arith, tt)
  | no g ↦ rw (spelled_more k v (omega arith)) (omega arith, bytes_spelled k (v / 128))
]

-- have their high bit set but for the last,
marks_spelled : (k v : ℕ) → 0 < k → v < 128 ^ k → suc (marked (spelled k v)) ≡ length (spelled k v)
marks_spelled zero v p h = absurd (omega arith)
marks_spelled (suc k) v p h = elim (dec_lt v 128) [
  | yes l ↦ rw (spelled_last k v l) (ap suc (marked_last v [] l))
  | no g ↦
      let g' : 128 ≤ v = omega arith in
      rw (spelled_more k v g') (ap suc (marked_more _ _ (omega arith) ∙ marks_spelled k (v / 128) (rest_due k v g' h) (rest_below k v h)))
]

-- and end in a zero only for zero.
last_spelled : (k v : ℕ) → 0 < v → v < 128 ^ k → get_or (spelled k v) (marked (spelled k v)) 0 ≡ 0 → ⊥
last_spelled zero v p h = let h' : v < 1 = rw pow-zero at h in λ e. omega arith
last_spelled (suc k) v p h = elim (dec_lt v 128) [
  | yes l ↦ rw (spelled_last k v l, marked_last v [] l) (λ e. omega arith)
  | no g ↦
      let g' : 128 ≤ v = omega arith in
      rw (spelled_more k v g', marked_more (128 + v % 128) (spelled k (v / 128)) (omega arith)) (last_spelled k (v / 128) (omega arith) (rest_below k v h))
]

pub canonical_spelled : (k v : ℕ) → 0 < k → v < 128 ^ k → Canonical (spelled k v)
canonical_spelled k v p h = record { bytes = bytes_spelled k v; marks = marks_spelled k v p h; needed = needed k v p h }
  where
    needed : (k v : ℕ) → 0 < k → v < 128 ^ k → 0 < marked (spelled k v) → get_or (spelled k v) (marked (spelled k v)) 0 ≡ 0 → ⊥
    needed zero v p h = absurd (omega arith)
    needed (suc k) v p h = elim (dec_lt v 128) [
      | yes l ↦ rw (spelled_last k v l, marked_last v [] l) (λ m. absurd (omega arith))
      | no g ↦ λ m. last_spelled (suc k) v (omega arith) h
    ]

-- Groups that end in no zero stand for no zero.
value_positive : (gs : List ℕ) → suc (marked gs) ≡ length gs → (get_or gs (marked gs) 0 ≡ 0 → ⊥) → 0 < value gs
unfolding value marked
value_positive [] m z = absurd (omega arith)
value_positive (b ∷ gs) m z = elim (dec_lt b 128) [
  | yes l ↦
      let z' : b ≡ 0 → ⊥ = rw (marked_last b gs l) at z in
      omega arith
  | no g ↦
      let e : marked (b ∷ gs) ≡ suc (marked gs) = marked_more b gs (omega arith) in
      let z' : get_or gs (marked gs) 0 ≡ 0 → ⊥ = rw e at z in
      omega (arith, value_positive gs (omega (arith, m, e)) z')
]

-- Canonical groups are the groups of their number.
pub spelled_value : (k : ℕ) (gs : List ℕ) → Canonical gs → length gs ≤ k → spelled k (value gs) ≡ gs
unfolding value marked
spelled_value k [] c l = absurd (omega (arith, c.marks))
spelled_value zero (b ∷ gs) c l = absurd (omega arith)
spelled_value (suc k) (b ∷ gs) c l = elim (dec_lt b 128) [
  | yes s ↦ single gs (omega (arith, c.marks, marked_last b gs s)) s
  | no g ↦
      let e : marked (b ∷ gs) ≡ suc (marked gs) = marked_more b gs (omega arith) in
      let z : get_or gs (marked gs) 0 ≡ 0 → ⊥ = rw e at c.needed (omega arith) in
      let m : suc (marked gs) ≡ length gs = omega (arith, c.marks, e) in
      let v = value (b ∷ gs) in
      let p : 0 < value gs = value_positive gs m z in
      let h : b < 256 = c.bytes.0 in
      let d : v / 128 ≡ value gs = omega arith in
      let r : 128 + v % 128 ≡ b = omega arith in
      rw (spelled_more k v (omega arith), d, r) (ap (λ (x : List ℕ). b ∷ x) (spelled_value k gs (record { bytes = c.bytes.1; marks = m; needed = λ _. z }) (omega arith)))
]
  where
    single : (gs : List ℕ) → length gs ≡ 0 → b < 128 → spelled (suc k) (value (b ∷ gs)) ≡ b ∷ gs
    single [] e s = let f : b % 128 + 128 * 0 ≡ b = omega arith in rw (f, spelled_last k b s)
    single (x ∷ gs) e s = absurd (omega arith)

-- n groups stand for a number below 128 to the power n.
pub value_below : (gs : List ℕ) → value gs < 128 ^ length gs
unfolding value
value_below [] = lit< tt
value_below (b ∷ gs) = rw pow-suc (go (128 ^ length gs) (value gs) (value_below gs))
  where
    go : (p w : ℕ) → w < p → b % 128 + 128 * w < p * 128
    go p w h = omega arith

-- A number takes at most k groups, and more room gives it no others.
pub length_spelled : (k v : ℕ) → length (spelled k v) ≤ k
unfolding spelled
length_spelled zero v = omega arith
length_spelled (suc k) v = elim (dec_lt v 128) [
  | yes l ↦ rw (spelled_last k v l) (omega arith)
  | no g ↦ rw (spelled_more k v (omega arith)) (omega (arith, length_spelled k (v / 128)))
]

pub spelled_stays : (k j v : ℕ) → 0 < k → v < 128 ^ k → k ≤ j → spelled j v ≡ spelled k v
spelled_stays zero j v p h l = absurd (omega arith)
spelled_stays (suc k) zero v p h l = absurd (omega arith)
spelled_stays (suc k) (suc j) v p h l = elim (dec_lt v 128) [
  | yes s ↦ spelled_last j v s ∙ sym (spelled_last k v s)
  | no g ↦
      let g' : 128 ≤ v = omega arith in
      spelled_more j v g' ∙ ap (λ (r : List ℕ). (128 + v % 128) ∷ r) (spelled_stays k j (v / 128) (rest_due k v g' h) (rest_below k v h) (omega arith)) ∙ sym (spelled_more k v g')
]

-- No groups that stand for a number are fewer than its own.
pub fewest : (k : ℕ) (gs : List ℕ) → 0 < length gs → length (spelled k (value gs)) ≤ length gs
unfolding value
fewest k [] p = absurd (omega arith)
fewest zero (b ∷ gs) p = omega (arith, length_spelled zero (value (b ∷ gs)))
fewest (suc k) (b ∷ gs) p = elim (dec_lt (value (b ∷ gs)) 128) [
  | yes l ↦ rw (spelled_last k (value (b ∷ gs)) l) (omega arith)
  | no g ↦
      let d : value (b ∷ gs) / 128 ≡ value gs = omega arith in
      rw (spelled_more k (value (b ∷ gs)) (omega arith), d) (omega (arith, fewest k gs (filled gs (omega arith))))
]
  where
    filled : (gs : List ℕ) → 0 < value gs → 0 < length gs
    filled [] h = h
    filled (x ∷ gs) h = omega arith

-- ---- the promises

pub spells : Spells
spells k v p h = (canonical_spelled k v p h, value_spelled k v h, length_spelled k v)

pub spells_alone : SpellsAlone
spells_alone k gs c l = sym (spelled_value k gs c l)

pub spells_fewest : SpellsFewest
spells_fewest = fewest
