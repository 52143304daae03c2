-- Groups put into bytes one by one, whatever the most groups: what is left to put, and that putting it ends as all of it does.
use mathlib.Core.Path.{◌≡◌, refl, ap, ◌∙◌}
use mathlib.Core.List.{List}
use Prim.Native.Nat.{ℕ, zero, suc, ◌+◌, ◌/◌, ◌%◌, ◌^◌, ◌≤◌, ◌<◌}
use native.Mathlib.Numerals.{add-one}
use native.Mathlib.Decide.{dec_lt}
use native.Mathlib.Omega.{arith}
use lib.ListN.{length, set, length-set}
use lib.Seq.{sets}
use Rattle.chart_file.specs.Groups.{spelled}
use Rattle.chart_file.proofs.Spelling.{spelled_last, spelled_more, rest_below, rest_due}

-- A number takes some group; more than one exactly when more than seven bits are left.
some_group : (k v : ℕ) → 0 < k → 0 < length (spelled k v)
some_group zero v h = absurd (omega arith)
some_group (suc k) v h = elim (dec_lt v 128) [
  | yes s ↦ rw (spelled_last k v s) (omega arith)
  | no g ↦ rw (spelled_more k v (omega arith)) (omega arith)
]

more_left : (k v : ℕ) → 1 < length (spelled (suc k) v) → 128 ≤ v
more_left k v h = elim (dec_lt v 128) [
  | yes s ↦ absurd (omega (arith, h, ap length (spelled_last k v s)))
  | no g ↦ omega arith
]

one_left : (k v : ℕ) → v < 128 ^ suc k → length (spelled (suc k) v) ≡ 1 → v < 128
one_left k v b h = elim (dec_lt v 128) [
  | yes s ↦ s
  | no g ↦
      let g' : 128 ≤ v = omega arith in
      absurd (omega (arith, h, ap length (spelled_more k v g'), some_group k (v / 128) (rest_due k v g' b)))
]

-- groups of v have gone into `before` from a place on, up to place i, which made it `now`; `rest` is still to go there, in
-- at most 1 + `most` groups
pub record Left (k v at : ℕ) (before : List ℕ) (i rest : ℕ) (now : List ℕ) : Type 0 where
  pub most : ℕ
  pub below : rest < 128 ^ suc most
  pub counted : i + length (spelled (suc most) rest) ≡ at + length (spelled k v)
  pub ends : sets now i (spelled (suc most) rest) ≡ sets before at (spelled k v)
  pub size : length now ≡ length before

pub all_left : (k v at : ℕ) (before : List ℕ) → 0 < k → v < 128 ^ k → Left k v at before at v before
all_left zero v at before p b = absurd (omega arith)
all_left (suc k) v at before p b = record { most = k; below = b; counted = refl; ends = refl; size = refl }

module _ (k v at : ℕ) (before : List ℕ) (i rest : ℕ) (now : List ℕ) (l : Left k v at before i rest now) where
  -- a group that is not the last
  pub one_more : i + 1 < at + length (spelled k v) → Left k v at before (i + 1) (rest / 128) (set now i (128 + rest % 128))
  one_more h = step l.most l.below l.counted l.ends
    where
      step : (m : ℕ) → rest < 128 ^ suc m → i + length (spelled (suc m) rest) ≡ at + length (spelled k v)
          → sets now i (spelled (suc m) rest) ≡ sets before at (spelled k v)
          → Left k v at before (i + 1) (rest / 128) (set now i (128 + rest % 128))
      step zero b c e = absurd (omega (arith, rest_due zero rest (more_left zero rest (omega arith)) b))
      step (suc m) b c e =
          let q = more_left (suc m) rest (omega arith) in
          record {
            most = m;
            below = rest_below (suc m) rest b;
            counted = omega (arith, c, ap length (spelled_more (suc m) rest q));
            ends = rw (add-one i) (rw (spelled_more (suc m) rest q) at e);
            size = length-set now i (128 + rest % 128) ∙ l.size;
          }

  -- the last group is what is left
  pub last_one : i + 1 ≡ at + length (spelled k v) → (rest < 128) × (set now i rest ≡ sets before at (spelled k v))
  last_one h =
      let s = one_left l.most rest l.below (omega (arith, l.counted)) in
      (s, rw (spelled_last l.most rest s) at l.ends)
