-- Members of an array moved along, one by one, from the front where they go down and from the back where they go up.
use mathlib.Core.Path.{◌≡◌, sym, ap, ap₂, ◌∙◌}
use mathlib.Core.List.{List, [], ◌∷◌, ◌++◌, append_assoc}
use Prim.Native.Nat.{ℕ, zero, suc, ◌+◌, ◌-◌, ◌≤◌, ◌<◌}
use native.Mathlib.Omega.{arith}
use native.Mathlib.Numerals.{add-one}
use lib.ListN.{length, get_or, set, take, drop, length-append, length-drop, take-append-drop}
use lib.Seq.{sets-eq, paste, paste-zero, paste-suc, length-paste, drop-paste, slice, length-slice, take-add, take_at, drop_at, take-take, take-set-lt, drop-cons, set_split, get_or-drop, get_or-take, length-take-le}

-- l with its members from hi on up to k written from `to` on
abbrev pub moved : (l : List ℕ) (to hi k : ℕ) → List ℕ
moved l to hi k = paste l to (drop hi l) (k - hi)

-- what stands behind the copy is what stood there
past_copy : (l : List ℕ) (at : ℕ) (s : List ℕ) (n k : ℕ) → at ≤ length l → n ≤ length s → at + n ≤ k → get_or (paste l at s n) k 0 ≡ get_or l k 0
past_copy l at s n k h g e =
    let d : at + n + (k - (at + n)) ≡ k = omega arith in
    ap (λ (i : ℕ). get_or (paste l at s n) i 0) (sym d)
    ∙ sym (get_or-drop (at + n) (paste l at s n) (k - (at + n)) 0)
    ∙ ap (λ (r : List ℕ). get_or r (k - (at + n)) 0) (drop-paste l at s n h g)
    ∙ get_or-drop (at + n) l (k - (at + n)) 0
    ∙ ap (λ (i : ℕ). get_or l i 0) d

front_of_copy : (l : List ℕ) (at : ℕ) (s : List ℕ) (n : ℕ) → at ≤ length l → take at (paste l at s n) ≡ take at l
front_of_copy l at s n h =
    ap (take at) (append_assoc (take at l) (take n s) (drop (at + n) l))
    ∙ take_at (take at l) (take n s ++ drop (at + n) l) at (length-take-le at l h)

back_of_copy : (l : List ℕ) (at : ℕ) (s : List ℕ) (n : ℕ) → at ≤ length l → drop at (paste l at s n) ≡ take n s ++ drop (at + n) l
back_of_copy l at s n h =
    ap (drop at) (append_assoc (take at l) (take n s) (drop (at + n) l))
    ∙ drop_at (take at l) (take n s ++ drop (at + n) l) at (length-take-le at l h)

module _ (l : List ℕ) (to hi : ℕ) where
  pub down_start : l ≡ moved l to hi hi
  down_start = let z : hi - hi ≡ 0 = omega arith in rw z (paste-zero l to (drop hi l))

  pub down_step : (a : List ℕ) (k : ℕ) → to < hi → hi ≤ k → k < length l → a ≡ moved l to hi k → set a (k - hi + to) (get_or a k 0) ≡ moved l to hi (k + 1)
  down_step a k h g f e =
      let n = k - hi in
      let s = drop hi l in
      let long : length s ≡ length l - hi = length-drop hi l in
      let at : k - hi + to ≡ to + n = omega arith in
      let more : k + 1 - hi ≡ suc n = omega arith in
      let whole : hi + n ≡ k = omega arith in
      let x : get_or a k 0 ≡ get_or s n 0 =
      ap (λ (r : List ℕ). get_or r k 0) e ∙ past_copy l to s n k (omega arith) (omega arith) (omega arith)
      ∙ ap (λ (i : ℕ). get_or l i 0) (sym whole) ∙ sym (get_or-drop hi l n 0) in
      ap (λ (v : ℕ). set a (k - hi + to) v) x
      ∙ ap (λ (i : ℕ). set a i (get_or s n 0)) at
      ∙ ap (λ (r : List ℕ). set r (to + n) (get_or s n 0)) e
      ∙ paste-suc l to s n 0 (omega arith) (omega arith)
      ∙ ap (paste l to s) (sym more)

-- l with its members from k up to live written where they go when hi goes to `to`
abbrev pub lifted : (l : List ℕ) (to hi live k : ℕ) → List ℕ
lifted l to hi live k = paste l (k - hi + to) (drop k l) (live - k)

-- one member more at the front of what was written
one_more : (l a : List ℕ) (at j n : ℕ) → j ≤ at → suc at + n ≤ length l → a ≡ paste l (suc at) (drop (suc j) l) n → set a at (get_or a j 0) ≡ paste l at (drop j l) (suc n)
one_more l a at j n h f b =
    let m : n ≤ length (drop (suc j) l) = omega (arith, length-drop (suc j) l) in
    let head : take (suc at) a ≡ take (suc at) l = ap (take (suc at)) b ∙ front_of_copy l (suc at) (drop (suc j) l) n (omega arith) in
    let tail : drop (suc at) a ≡ take n (drop (suc j) l) ++ drop (suc at + n) l = ap (drop (suc at)) b ∙ back_of_copy l (suc at) (drop (suc j) l) n (omega arith) in
    let x : get_or a j 0 ≡ get_or l j 0 =
    sym (get_or-take (suc at) a j 0 (omega arith)) ∙ ap (λ (r : List ℕ). get_or r j 0) head ∙ get_or-take (suc at) l j 0 (omega arith) in
    let front : take at a ≡ take at l = sym (take-take at (suc at) a (omega arith)) ∙ ap (take at) head ∙ take-take at (suc at) l (omega arith) in
    let long : length a ≡ length l = ap length b ∙ length-paste l (suc at) (drop (suc j) l) n f m in
    let over : at + suc n ≡ suc at + n = omega arith in
    set_split a at (get_or a j 0) (omega arith)
    ∙ ap₂ (λ (r : List ℕ) (q : List ℕ). r ++ q) front (ap₂ (λ (v : ℕ) (q : List ℕ). v ∷ q) x tail)
    ∙ sym
    (ap₂ (λ (r : List ℕ) (q : ℕ). (take at l ++ take (suc n) r) ++ drop q l) (drop-cons l j 0 (omega arith)) over
    ∙ append_assoc (take at l) (get_or l j 0 ∷ take n (drop (suc j) l)) (drop (suc at + n) l))

module _ (l : List ℕ) (to hi live : ℕ) where
  pub up_start : l ≡ lifted l to hi live live
  up_start = let z : live - live ≡ 0 = omega arith in rw z (paste-zero l (live - hi + to) (drop live l))

  pub up_step : (a : List ℕ) (k : ℕ) → to + (live - hi) ≤ length l → hi < to → hi < k → k ≤ live → a ≡ lifted l to hi live k
      → set a (k - 1 - hi + to) (get_or a (k - 1) 0) ≡ lifted l to hi live (k - 1)
  up_step a zero fits h g f e = absurd (omega arith)
  up_step a (suc j) fits h g f e =
      let p : suc j - 1 ≡ j = omega arith in
      let one : suc j - hi + to ≡ suc (j - hi + to) = omega arith in
      let n_is : live - j ≡ suc (live - suc j) = omega arith in
      rw (p, n_is)
      (one_more l a (j - hi + to) j (live - suc j) (omega arith) (omega arith) (e ∙ ap (λ (i : ℕ). paste l i (drop (suc j) l) (live - suc j)) one))

  pub up_end : lifted l to hi live hi ≡ moved l to hi live
  up_end = let z : hi - hi + to ≡ to = omega arith in ap (λ (i : ℕ). paste l i (drop hi l) (live - hi)) z

pub stay : (l : List ℕ) (hi live : ℕ) → hi + (live - hi) ≤ length l → l ≡ moved l hi hi live
stay l hi live h =
    let n = live - hi in
    sym (append_assoc (take hi l) (take n (drop hi l)) (drop (hi + n) l)
    ∙ sym (append_assoc (take hi l) (take n (drop hi l)) (drop (hi + n) l))
    ∙ ap (λ (r : List ℕ). r ++ drop (hi + n) l) (sym (take-add hi n l))
    ∙ take-append-drop (hi + n) l)

pub slice_is : (l : List ℕ) (hi live : ℕ) → hi ≤ live → live ≤ length l → take (live - hi) (drop hi l) ≡ slice hi live l
slice_is l hi live h g =
    let e : hi + (live - hi) ≡ live = omega arith in
    sym (ap (λ (t : ℕ). drop hi (take t l)) (sym e) ∙ ap (drop hi) (take-add hi (live - hi) l)
    ∙ drop_at (take hi l) (take (live - hi) (drop hi l)) hi (length-take-le hi l (omega arith)))

-- both moves together: the front stays, then the first m of xs, then what was moved
pub replaced : (l xs : List ℕ) (live lo hi m : ℕ) → lo ≤ hi → hi ≤ live → live ≤ length l → lo + m + (live - hi) ≤ length l → m ≤ length xs
    → take (lo + m + (live - hi)) (paste (moved l (lo + m) hi live) lo xs m) ≡ take lo l ++ (take m xs ++ slice hi live l)
replaced l xs live lo hi m a b c d e =
    let n = live - hi in
    let t = moved l (lo + m) hi live in
    let front : take lo t ≡ take lo l =
    sym (take-take lo (lo + m) t (omega arith)) ∙ ap (take lo) (front_of_copy l (lo + m) (drop hi l) n (omega arith)) ∙ take-take lo (lo + m) l (omega arith) in
    let back : drop (lo + m) t ≡ slice hi live l ++ drop (lo + m + n) l =
    back_of_copy l (lo + m) (drop hi l) n (omega arith) ∙ ap (λ (r : List ℕ). r ++ drop (lo + m + n) l) (slice_is l hi live b c) in
    let whole : paste t lo xs m ≡ (take lo l ++ (take m xs ++ slice hi live l)) ++ drop (lo + m + n) l =
    ap₂ (λ (r : List ℕ) (q : List ℕ). (r ++ take m xs) ++ q) front back
    ∙ sym (append_assoc (take lo l ++ take m xs) (slice hi live l) (drop (lo + m + n) l))
    ∙ ap (λ (r : List ℕ). r ++ drop (lo + m + n) l) (append_assoc (take lo l) (take m xs) (slice hi live l)) in
    ap (take (lo + m + n)) whole
    ∙ take_at (take lo l ++ (take m xs ++ slice hi live l)) (drop (lo + m + n) l) (lo + m + n)
    (omega (
      arith,
      length-append (take lo l) (take m xs ++ slice hi live l),
      length-append (take m xs) (slice hi live l),
      length-take-le lo l (omega arith),
      length-take-le m xs e,
      length-slice hi live l c,
    ))

-- two neighbours written anew
pub two_set : (l : List ℕ) (live k x y : ℕ) → k + 1 < live → live ≤ length l → take live (set (set l k x) (k + 1) y) ≡ take k l ++ ((x ∷ y ∷ []) ++ slice (k + 2) live l)
two_set l live k x y h w =
    take-set-lt live (set l k x) (k + 1) y h
    ∙ ap (λ (z : List ℕ). set z (k + 1) y) (take-set-lt live l k x (omega arith))
    ∙ ap (λ (i : ℕ). set (set (take live l) k x) i y) (add-one k)
    ∙ sets-eq (x ∷ y ∷ []) (take live l) k (omega (arith, length-take-le live l w))
    ∙ append_assoc (take k (take live l)) (x ∷ y ∷ []) (slice (k + 2) live l)
    ∙ ap (λ (z : List ℕ). z ++ ((x ∷ y ∷ []) ++ slice (k + 2) live l)) (take-take k live l (omega arith))
