-- Numbers in groups of seven bits: "low group first, high bit set on every group but the last, in the fewest groups".
-- The most groups that a number may take is any k.
use Rattle.std.specs.Prelude.{◌≡◌, cond, ◌&&◌, List, [], ◌∷◌, ℕ, zero, suc, ◌+◌, ◌*◌, ◌/◌, ◌%◌, ◌<◌, ltb, leb, eqb, length, get_or, take, drop}
use Rattle.chart_file.specs.Found.{Groups, Value, Fault}

-- The number that groups stand for: seven bits of each, low group first.
unfoldable pub value : List ℕ → ℕ
value [] = 0
value (b ∷ bs) = b % 128 + 128 * value bs

-- How many groups from the start have their high bit set.
unfoldable pub marked : List ℕ → ℕ
marked [] = 0
marked (b ∷ bs) = let m = marked bs in cond (leb 128 b) (suc m) 0

-- The number at a place, in at most k groups, and the place after it. It is refused with
-- 2 when the k-th group has its high bit set, or the last of several groups is zero;
-- 1 when the file ends inside the number or before it.
unfoldable pub groups_at : ℕ → List ℕ → ℕ → Groups
groups_at k s at =
    let t = drop at s in
    let m = marked t in
    cond (leb k m) (Fault 2)
    (cond (leb (length t) m) (Fault 1)
    (cond (ltb 0 m && eqb (get_or t m 0) 0) (Fault 2)
    (Value (value (take (suc m) t)) (at + suc m))))

-- The groups of a number below 128 to the power k: while more than seven bits are left, the low seven with the high bit set.
unfoldable pub spelled : ℕ → ℕ → List ℕ
spelled zero v = []
spelled (suc k) v = let more = (128 + v % 128) ∷ spelled k (v / 128) in cond (ltb v 128) (v ∷ []) more

-- Each element is a byte.
abbrev pub Bytes : List ℕ → Type 0
Bytes [] = Unit {0}
Bytes (b ∷ bs) = (b < 256) × Bytes bs

-- Bytes that stand for a number as they should: high bit set on every group but the last, and the last of several not zero.
pub record Canonical (gs : List ℕ) : Type 0 where
  pub bytes : Bytes gs
  pub marks : suc (marked gs) ≡ length gs
  pub needed : 0 < marked gs → get_or gs (marked gs) 0 ≡ 0 → ⊥
