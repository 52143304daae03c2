-- Charts laid end to end, one more at a time: what is told of the first i, and of one more.
-- Assumes nothing.
use mathlib.Core.Path.{◌≡◌, refl, sym, ap, ◌∙◌}
use mathlib.Core.List.{List, [], ◌∷◌, ◌++◌, append-nil, append_assoc}
use Prim.Native.Nat.{ℕ, zero, suc, ◌+◌, ◌*◌, ◌≤◌, ◌<◌}
use native.Mathlib.Omega.{arith}
use lib.IntN.{ℤ}
use lib.ListN.{length, take, drop, get_or, length-append, length-take, length-drop}
use lib.Seq.{take_at, drop_at, drop-drop, take_all}
use Rattle.naive.specs.Pairs.{over}
use Rattle.batch.specs.Numbers.{numbers_of}
use Rattle.batch.specs.Single.{swept_alone, left_alone}
use Rattle.batch.specs.Charts.{need, sum, total, needs, Alone, alone, each, lefts, results}
use Rattle.batch.specs.Batch.{Roomy, Writes}
use Rattle.batch.specs.Demand.{numbers_at, part_at}
use Rattle.batch.proofs.Fitting.{sum_more, sum_next}
use Rattle.batch.proofs.Stores.{numbers_ten}

-- ---- a list that goes over a longer one, in part after part
pub over_part : (p l y : List ℕ) (a w : ℕ) → length p ≡ a → length y ≡ w
    → take a (over p l) ++ (y ++ drop w (drop a (over p l))) ≡ over (p ++ y) l
unfolding over
over_part p l y a w e f =
    let front = take_at p (drop (length p) l) a e in
    let back = ap (drop w) (drop_at p (drop (length p) l) a e) ∙ drop-drop w (length p) l ∙ ap (λ (n : ℕ). drop n l) (ap (λ (n : ℕ). length p + n) (sym f) ∙ sym (length-append p y)) in
    ap (λ (t : List ℕ). t ++ (y ++ drop w (drop a (p ++ drop (length p) l)))) front
    ∙ ap (λ (t : List ℕ). p ++ (y ++ t)) back
    ∙ sym (append_assoc p y (drop (length (p ++ y)) l))

pub part_length : (l y : List ℕ) (a w : ℕ) → length y ≡ w → a + w ≤ length l → length (take a l ++ (y ++ drop w (drop a l))) ≡ length l
part_length l y a w e h = simp (length-append, length-take, length-drop) (omega arith)

-- ---- the charts
pub each_more : (ks : List ℕ) (list : List ℤ) (lent : List ℕ) (i : ℕ) → i < length ks
    → each (take (suc i) ks) list lent ≡ each (take i ks) list lent ++ (alone (numbers_at ks list i) (part_at ks lent i) ∷ [])
unfolding each sum
each_more [] list lent i h = absurd (omega arith)
each_more (k ∷ ks) list lent zero h = refl
each_more (k ∷ ks) list lent (suc i) h =
    ap (λ (t : List Alone). alone (take k list) (take (need k) lent) ∷ t)
    (each_more ks (drop k list) (drop (need k) lent) i (omega arith)
    ∙ rw (drop-drop (total (take i ks)) k list, drop-drop (needs (take i ks)) (need k) lent))

pub lefts_more : (all : List Alone) (a : Alone) → lefts (all ++ (a ∷ [])) ≡ lefts all ++ a.left
unfolding lefts
lefts_more [] a = append-nil a.left
lefts_more (x ∷ all) a = ap (λ (t : List ℕ). x.left ++ t) (lefts_more all a) ∙ sym (append_assoc x.left (lefts all) a.left)

pub results_more : (all : List Alone) (a : Alone) → results (all ++ (a ∷ [])) ≡ results all ++ numbers_of a.swept
unfolding results
results_more [] a = append-nil (numbers_of a.swept)
results_more (x ∷ all) a =
    ap (λ (t : List ℕ). numbers_of x.swept ++ t) (results_more all a) ∙ sym (append_assoc (numbers_of x.swept) (results all) (numbers_of a.swept))

pub results_length : (ks : List ℕ) (list : List ℤ) (lent : List ℕ) (i : ℕ) → i ≤ length ks → length (results (each (take i ks) list lent)) ≡ 10 * i
unfolding each results
results_length ks list lent zero h = refl
results_length [] list lent (suc i) h = absurd (omega arith)
results_length (k ∷ ks) list lent (suc i) h =
    let s = swept_alone (take k list) (take (need k) lent) in
    length-append (numbers_of s) (results (each (take i ks) (drop k list) (drop (need k) lent)))
    ∙ omega (arith, results_length ks (drop k list) (drop (need k) lent) i (omega arith), numbers_ten s)

-- ---- the first i charts are done
pub record Done (list : List ℤ) (ks lent numbers : List ℕ) (i : ℕ) (pairs told : List ℕ) (from at first : ℕ) : Type 0 where
  pub within : i ≤ length ks
  pub from_is : from ≡ total (take i ks)
  pub at_is : at ≡ needs (take i ks)
  pub first_is : first ≡ 10 * i
  pub bytes : pairs ≡ over (lefts (each (take i ks) list lent)) lent
  pub told_is : told ≡ over (results (each (take i ks) list lent)) numbers
  pub left_length : length (lefts (each (take i ks) list lent)) ≡ at
  pub same_bytes : length pairs ≡ length lent
  pub same_told : length told ≡ length numbers

-- chart i has its numbers, its part and its result within what is given
pub record Ahead (list : List ℤ) (ks pairs told : List ℕ) (i from at first : ℕ) : Type 0 where
  pub numbers : from + get_or ks i 0 ≤ length list
  pub part : at + need (get_or ks i 0) ≤ length pairs
  pub result : first + 10 ≤ length told

module _ (list : List ℤ) (ks lent numbers : List ℕ) where
  pub none_done : Done list ks lent numbers 0 lent numbers 0 0 0
  unfolding each lefts results over sum
  none_done =
      record {
        within = omega arith;
        from_is = refl;
        at_is = refl;
        first_is = refl;
        bytes = refl;
        told_is = refl;
        left_length = refl;
        same_bytes = refl;
        same_told = refl;
      }

  module _ (i : ℕ) (pairs told : List ℕ) (from at first : ℕ) (d : Done list ks lent numbers i pairs told from at first) where
    -- what is left of the bytes is as it was lent
    pub rest_lent : drop at pairs ≡ drop at lent
    unfolding over
    rest_lent =
        ap (drop at) d.bytes ∙ drop_at (lefts (each (take i ks) list lent)) (drop (length (lefts (each (take i ks) list lent))) lent) at d.left_length
        ∙ ap (λ (n : ℕ). drop n lent) d.left_length

    pub ahead : i < length ks → Roomy list ks lent numbers → Ahead list ks pairs told i from at first
    ahead h roomy =
        record {
          numbers = omega (arith, d.from_is, sum_next (λ k. k) ks i h, roomy.adds_up);
          part = omega (arith, d.at_is, d.same_bytes, sum_next need ks i h, roomy.bytes);
          result = omega (arith, d.first_is, d.same_told, roomy.results);
        }

    pub one_more : i < length ks → (own : List ℕ) (result : List ℕ)
        → let k = get_or ks i 0 in
        own ≡ left_alone (take k (drop from list)) (take (need k) (drop at pairs))
        → length own ≡ need k
        → result ≡ numbers_of (swept_alone (take k (drop from list)) (take (need k) (drop at pairs)))
        → Roomy list ks lent numbers
        → Done list ks lent numbers (suc i)
        (take at pairs ++ (own ++ drop (need k) (drop at pairs)))
        (take first told ++ (result ++ drop 10 (drop first told)))
        (from + k) (at + need k) (first + 10)
    one_more h own result e f g roomy =
        let k = get_or ks i 0 in
        let all = each (take i ks) list lent in
        let chart = alone (numbers_at ks list i) (part_at ks lent i) in
        let there = ap (λ (n : ℕ). take k (drop n list)) d.from_is in
        let mine = ap (take (need k)) (rest_lent ∙ ap (λ (n : ℕ). drop n lent) d.at_is) in
        let left = e ∙ ap (λ (l : List ℤ). left_alone l (take (need k) (drop at pairs))) there ∙ ap (left_alone (numbers_at ks list i)) mine in
        let told_of = g ∙ ap (λ (l : List ℤ). numbers_of (swept_alone l (take (need k) (drop at pairs)))) there ∙ ap (λ (l : List ℕ). numbers_of (swept_alone (numbers_at ks list i) l)) mine in
        let more = each_more ks list lent i h in
        let lefts_are = ap lefts more ∙ lefts_more all chart ∙ ap (λ (l : List ℕ). lefts all ++ l) (sym left) in
        let results_are = ap results more ∙ results_more all chart ∙ ap (λ (l : List ℕ). results all ++ l) (sym told_of) in
        let ten = ap length g ∙ numbers_ten _ in
        record {
          within = omega arith;
          from_is = omega (arith, d.from_is, sum_more (λ k. k) ks i h);
          at_is = omega (arith, d.at_is, sum_more need ks i h);
          first_is = omega (arith, d.first_is);
          bytes =
              ap (λ (p : List ℕ). take at p ++ (own ++ drop (need k) (drop at p))) d.bytes
              ∙ over_part (lefts all) lent own at (need k) d.left_length f ∙ ap (λ (l : List ℕ). over l lent) (sym lefts_are);
          told_is =
              ap (λ (p : List ℕ). take first p ++ (result ++ drop 10 (drop first p))) d.told_is
              ∙ over_part (results all) numbers result first 10 (results_length ks list lent i d.within ∙ sym d.first_is) ten ∙ ap (λ (l : List ℕ). over l numbers) (sym results_are);
          left_length = ap length lefts_are ∙ length-append (lefts all) own ∙ omega (arith, d.left_length, f);
          same_bytes = part_length pairs own at (need k) f (ahead h roomy).part ∙ d.same_bytes;
          same_told = part_length told result first 10 ten (ahead h roomy).result ∙ d.same_told;
        }

    -- .. with the code's words for the numbers
    pub turn : i < length ks → Roomy list ks lent numbers → (own result : List ℕ) (v w t j to end next : ℕ)
        → let k = get_or ks i 0 in
        v ≡ k → w ≡ need k → t ≡ 10 → j ≡ suc i → to ≡ from + k → end ≡ at + need k → next ≡ first + 10
        → own ≡ left_alone (take v (drop from list)) (take w (drop at pairs))
        → length own ≡ length (take w (drop at pairs))
        → result ≡ numbers_of (swept_alone (take v (drop from list)) (take w (drop at pairs)))
        → Done list ks lent numbers j (take at pairs ++ (own ++ drop w (drop at pairs))) (take first told ++ (result ++ drop t (drop first told))) to end next
    turn h roomy own result v w t j to end next p q r s x y z e f g =
        let long : length (take (need (get_or ks i 0)) (drop at pairs)) ≡ need (get_or ks i 0) = simp (length-take, length-drop) (omega (arith, (ahead h roomy).part)) in
        rw (q, r, s, x, y, z) (one_more h own result (rw (p, q) at e) (rw q at f ∙ long) (rw (p, q) at g) roomy)

  pub all_done : (i : ℕ) (pairs told : List ℕ) (from at first : ℕ) → Done list ks lent numbers i pairs told from at first → length ks ≤ i
      → Writes list ks lent numbers pairs told
  all_done i pairs told from at first d h =
      let all = take_all i ks h in
      record { bytes = rw all at d.bytes; told_is = rw all at d.told_is }
