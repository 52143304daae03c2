-- Part i and result i of charts laid end to end are those of chart i alone, and what lies beyond keeps its values.
-- Assumes nothing.
use mathlib.Core.Path.{◌≡◌, refl, sym, ap, ◌∙◌}
use mathlib.Core.List.{List, [], ◌∷◌, ◌++◌, append_assoc}
use Prim.Native.Nat.{ℕ, zero, suc, ◌+◌, ◌*◌, ◌≤◌, ◌<◌}
use native.Mathlib.Omega.{arith}
use lib.IntN.{ℤ}
use lib.ListN.{length, take, drop, get_or, length-append, length-take, length-drop}
use lib.Seq.{take_at, drop_at, drop-drop}
use Rattle.naive.specs.Pairs.{over}
use Rattle.batch.specs.Numbers.{numbers_of}
use Rattle.batch.specs.Single.{swept_alone, left_alone}
use Rattle.batch.specs.Charts.{need, sum, total, needs, each, lefts, results}
use Rattle.batch.specs.Demand.{numbers_at, part_at, result_at}
use Rattle.batch.proofs.Stores.{numbers_ten}
use Rattle.batch.proofs.Single.{keeps_length}

-- ---- a front of w members
module _ (p q l : List ℕ) (w : ℕ) (e : length p ≡ w) where
  front_of : take w (over (p ++ q) l) ≡ p
  unfolding over
  front_of = ap (take w) (append_assoc p q (drop (length (p ++ q)) l)) ∙ take_at p (q ++ drop (length (p ++ q)) l) w e

  behind_front : drop w (over (p ++ q) l) ≡ over q (drop w l)
  unfolding over
  behind_front =
      let long : length (p ++ q) ≡ w + length q = length-append p q ∙ ap (λ (n : ℕ). n + length q) e in
      ap (drop w) (append_assoc p q (drop (length (p ++ q)) l))
      ∙ drop_at p (q ++ drop (length (p ++ q)) l) w e
      ∙ ap (λ (m : List ℕ). q ++ m) (ap (λ (n : ℕ). drop n l) long ∙ sym (drop-drop (length q) w l))

-- ---- the bytes
module _ where
  own_length : (k : ℕ) (list : List ℤ) (lent : List ℕ) → need k ≤ length lent → length (left_alone (take k list) (take (need k) lent)) ≡ need k
  own_length k list lent h = keeps_length (take k list) (take (need k) lent) ∙ length-take (need k) lent ∙ omega arith

  pub part_alone : (ks : List ℕ) (list : List ℤ) (lent : List ℕ) (i : ℕ) → i < length ks → needs ks ≤ length lent
      → part_at ks (over (lefts (each ks list lent)) lent) i ≡ left_alone (numbers_at ks list i) (part_at ks lent i)
  unfolding sum each lefts
  part_alone [] list lent i h r = absurd (omega arith)
  part_alone (k ∷ ks) list lent zero h r =
      front_of (left_alone (take k list) (take (need k) lent)) (lefts (each ks (drop k list) (drop (need k) lent))) lent (need k) (own_length k list lent (omega arith))
  part_alone (k ∷ ks) list lent (suc i) h r =
      let behind = behind_front (left_alone (take k list) (take (need k) lent)) (lefts (each ks (drop k list) (drop (need k) lent))) lent (need k) (own_length k list lent (omega arith)) in
      ap (take (need (get_or ks i 0))) (sym (drop-drop (needs (take i ks)) (need k) _) ∙ ap (drop (needs (take i ks))) behind)
      ∙ part_alone ks (drop k list) (drop (need k) lent) i (omega arith) (omega (arith, length-drop (need k) lent))
      ∙ rw (drop-drop (total (take i ks)) k list, drop-drop (needs (take i ks)) (need k) lent)

  pub parts_length : (ks : List ℕ) (list : List ℤ) (lent : List ℕ) → needs ks ≤ length lent → length (lefts (each ks list lent)) ≡ needs ks
  unfolding sum each lefts
  parts_length [] list lent r = refl
  parts_length (k ∷ ks) list lent r =
      length-append (left_alone (take k list) (take (need k) lent)) (lefts (each ks (drop k list) (drop (need k) lent)))
      ∙ omega (arith, own_length k list lent (omega arith), parts_length ks (drop k list) (drop (need k) lent) (omega (arith, length-drop (need k) lent)))

-- ---- the results
pub result_alone : (ks : List ℕ) (list : List ℤ) (lent numbers : List ℕ) (i : ℕ) → i < length ks
    → result_at (over (results (each ks list lent)) numbers) i ≡ numbers_of (swept_alone (numbers_at ks list i) (part_at ks lent i))
unfolding sum each results
result_alone [] list lent numbers i h = absurd (omega arith)
result_alone (k ∷ ks) list lent numbers zero h =
    let s = swept_alone (take k list) (take (need k) lent) in
    front_of (numbers_of s) (results (each ks (drop k list) (drop (need k) lent))) numbers 10 (numbers_ten s)
result_alone (k ∷ ks) list lent numbers (suc i) h =
    let s = swept_alone (take k list) (take (need k) lent) in
    let rest = results (each ks (drop k list) (drop (need k) lent)) in
    let there : 10 * suc i ≡ 10 + 10 * i = omega arith in
    ap (take 10)
    (ap (λ (n : ℕ). drop n (over (numbers_of s ++ rest) numbers)) there ∙ sym (drop-drop (10 * i) 10 _) ∙ ap (drop (10 * i)) (behind_front (numbers_of s) rest numbers 10 (numbers_ten s)))
    ∙ result_alone ks (drop k list) (drop (need k) lent) (drop 10 numbers) i (omega arith)
    ∙ rw (drop-drop (total (take i ks)) k list, drop-drop (needs (take i ks)) (need k) lent)

-- ---- beyond
pub beyond : (p l : List ℕ) (w : ℕ) → length p ≡ w → drop w (over p l) ≡ drop w l
unfolding over
beyond p l w e = drop_at p (drop (length p) l) w e ∙ ap (λ (n : ℕ). drop n l) e
