-- Begun at its next corner, an outline gives the same answers: the proof of `BeginsElsewhere`. Assumes nothing.
use mathlib.Core.Path.{◌≡◌, refl, sym, ap, ap₂, ◌∙◌}
use mathlib.Core.Bool.{Bool, true, false, cond}
use mathlib.Core.List.{List, [], ◌∷◌, ◌++◌}
use Prim.Native.Nat.{ℕ, zero, suc, ◌+◌, ◌*◌, ◌<◌}
use native.Mathlib.Omega.{arith}
use borrow.Author.Tests.{lt-ltb, le-ltb, ltb-true, ltb-false}
use lib.Dec.{ltb}
use lib.IntN.{ℤ, pos}
use lib.ListN.{length, get_or, get_or-append}
use lib.Seq.{get_or-append-add}
use Rattle.line_segment.proofs.Booleans.{clash}
use Rattle.outline.specs.Counting.{first, count}
use Rattle.outline.specs.Outline.{number_at, next_of, side_of}
use Rattle.outline.proofs.Accepted.{next_below}
use Rattle.region.specs.declared.Region.{Region}
use Rattle.region.specs.Region.{on_side, met_side, parity, region_of}
use Rattle.region.specs.Demand.{BeginsElsewhere}
use Rattle.region.proofs.OnSides.{some, any}

-- the next of n + 1 corners
pub next_more : (n i : ℕ) → i < n → next_of (suc n) i ≡ suc i
unfolding next_of
next_more n i h = rw (lt-ltb (i + 1) (suc n) (omega arith)) (omega arith)

pub next_last : (n : ℕ) → next_of (suc n) n ≡ 0
unfolding next_of
next_last n = rw (le-ltb (n + 1) (suc n) (omega arith))

-- ---- counting in the other order
abbrev pub one : Bool → ℕ
one b = cond b 1 0

pub shifted : (f : ℕ → Bool) (n : ℕ) → count (λ i. f (suc i)) n + one (f 0) ≡ count f (suc n)
unfolding count
shifted f zero = refl
shifted f (suc n) = let e = shifted f n in omega (arith, e)

pub same_below : (f g : ℕ → Bool) (n : ℕ) → ((i : ℕ) → i < n → f i ≡ g i) → count f n ≡ count g n
unfolding count
same_below f g zero h = refl
same_below f g (suc n) h = ap₂ (λ (k : ℕ) (b : Bool). k + one b) (same_below f g n (λ i l. h i (omega arith))) (h n (omega arith))

-- some side of the one says yes exactly where some side of the other does
pub alike : (f g : ℕ → Bool) (n : ℕ)
    → ((i : ℕ) → i < n → g i ≡ true → (j : ℕ) × (j < n) × (f j ≡ true))
    → ((j : ℕ) → j < n → f j ≡ true → (i : ℕ) × (i < n) × (g i ≡ true))
    → ltb (first g n) n ≡ ltb (first f n) n
alike f g n there back = go (ltb (first g n) n) (ltb (first f n) n) refl refl
  where
    go : (b c : Bool) → ltb (first g n) n ≡ b → ltb (first f n) n ≡ c → b ≡ c
    go true true e k = refl
    go false false e k = refl
    go true false e k = let s = some g n e in let t = there s.0 s.1 s.2 in clash (sym k ∙ any f n t.0 t.1 t.2)
    go false true e k = let s = some f n k in let t = back s.0 s.1 s.2 in clash (sym e ∙ any g n t.0 t.1 t.2)

module _ (f g : ℕ → Bool) (n : ℕ) (h : (i : ℕ) → i < suc n → g i ≡ f (next_of (suc n) i)) where
  count_moved : count g (suc n) ≡ count f (suc n)
  unfolding count
  count_moved =
      ap₂ (λ (k : ℕ) (b : Bool). k + one b)
      (same_below g (λ i. f (suc i)) n (λ i l. h i (omega arith) ∙ ap f (next_more n i l)))
      (h n (omega arith) ∙ ap f (next_last n))
      ∙ shifted f n

  -- side j of the one is a side of the other
  back : (j : ℕ) → j < suc n → f j ≡ true → (i : ℕ) × (i < suc n) × (g i ≡ true)
  back zero l e = (n, omega arith, h n (omega arith) ∙ ap f (next_last n) ∙ e)
  back (suc j) l e = (j, omega arith, h j (omega arith) ∙ ap f (next_more n j (omega arith)) ∙ e)

  some_moved : ltb (first g (suc n)) (suc n) ≡ ltb (first f (suc n)) (suc n)
  some_moved = alike f g (suc n) (λ i l e. (next_of (suc n) i, next_below (suc n) i l, sym (h i l) ∙ e)) back

-- ---- the corners
module _ (a b : ℤ) (rest : List ℤ) (n : ℕ) (e : length rest ≡ 2 * n) where
  abbrev moved : List ℤ
  moved = rest ++ (a ∷ b ∷ [])

  corner_more : (i k : ℕ) → i < n → k < 2 → number_at moved i k ≡ number_at (a ∷ b ∷ rest) (suc i) k
  unfolding number_at
  corner_more i k l h =
      let q : 2 * suc i + k ≡ suc (suc (2 * i + k)) = omega arith in
      get_or-append rest (a ∷ b ∷ []) (pos 0) (2 * i + k) (omega arith)
      ∙ sym (ap (λ (m : ℕ). get_or (a ∷ b ∷ rest) m (pos 0)) q)

  corner_last : (k : ℕ) → k < 2 → number_at moved n k ≡ number_at (a ∷ b ∷ rest) 0 k
  unfolding number_at
  corner_last k h = let q : 2 * n + k ≡ length rest + k = omega arith in ap (λ (m : ℕ). get_or moved m (pos 0)) q ∙ get_or-append-add rest (a ∷ b ∷ []) k (pos 0) ∙ head k h
    where
      head : (k : ℕ) → k < 2 → get_or (a ∷ b ∷ []) k (pos 0) ≡ get_or (a ∷ b ∷ rest) (2 * 0 + k) (pos 0)
      head zero h = refl
      head (suc zero) h = refl
      head (suc (suc k)) h = absurd (omega arith)

  corner : (i k : ℕ) → i < suc n → k < 2 → number_at moved i k ≡ number_at (a ∷ b ∷ rest) (next_of (suc n) i) k
  corner i k l h = go (ltb i n) refl
    where
      go : (t : Bool) → ltb i n ≡ t → number_at moved i k ≡ number_at (a ∷ b ∷ rest) (next_of (suc n) i) k
      go true q = let m = ltb-true i n q in corner_more i k m h ∙ ap (λ (j : ℕ). number_at (a ∷ b ∷ rest) j k) (sym (next_more n i m))
      go false q =
          let m = ltb-false i n q in
          let z : i ≡ n = omega arith in
          ap (λ (j : ℕ). number_at moved j k) z ∙ corner_last k h ∙ ap (λ (j : ℕ). number_at (a ∷ b ∷ rest) j k) (sym (ap (next_of (suc n)) z ∙ next_last n))

  side : (i : ℕ) → i < suc n → side_of moved (suc n) i ≡ side_of (a ∷ b ∷ rest) (suc n) (next_of (suc n) i)
  unfolding side_of
  side i l =
      let m = next_below (suc n) i l in
      rw (corner i 0 l (omega arith), corner i 1 l (omega arith), corner (next_of (suc n) i) 0 m (omega arith), corner (next_of (suc n) i) 1 m (omega arith))

pub begins_elsewhere : BeginsElsewhere
unfolding region_of on_side met_side
begins_elsewhere a b rest n p e =
    ap₂ (λ (t : Bool) (k : ℕ). cond t Region.On (parity k))
    (some_moved (on_side (a ∷ b ∷ rest) (suc n) p) (on_side (rest ++ (a ∷ b ∷ [])) (suc n) p) n (λ i l. rw (side a b rest n e i l)))
    (count_moved (met_side (a ∷ b ∷ rest) (suc n) p) (met_side (rest ++ (a ∷ b ∷ [])) (suc n) p) n (λ i l. rw (side a b rest n e i l)))
