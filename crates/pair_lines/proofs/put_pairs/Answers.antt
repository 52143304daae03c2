-- `put_pairs` meets its contract: the lines of the pairs that are left are put where the text ends.
use mathlib.Core.Path.{◌≡◌, refl, sym, ap, ◌∙◌}
use mathlib.Core.List.{List, []}
use Prim.Native.Nat.{ℕ, zero, suc, ◌+◌, ◌*◌, ◌<◌}
use native.Mathlib.Nat.{add-zero}
use native.Mathlib.Omega.{arith}
use lib.ListN.{length, get_or, take, drop}
use lib.Seq.{get_or-take, get_or-drop, drop-drop}
use Rattle.std.specs.Simd.{first_chunks}
use Rattle.listing_lines.proofs.Pairs.{line_next, lines_end}
use Rattle.pair_lines.proofs.put_pairs.Goals as goal

-- chunk k of two bytes each
chunk : (n k : ℕ) (xs : List ℕ) → k < n → get_or (first_chunks 2 n xs) k [] ≡ take 2 (drop (2 * k) xs)
chunk zero k xs h = absurd (omega arith)
chunk (suc n) zero xs h = refl
chunk (suc n) (suc k) xs h =
    let e : 2 + 2 * k ≡ 2 * suc k = omega arith in
    chunk n k (drop 2 xs) (omega arith) ∙ ap (take 2) (drop-drop (2 * k) 2 xs ∙ ap (λ (i : ℕ). drop i xs) e)

-- and its first and its second
byte : (k j : ℕ) (xs : List ℕ) → j < 2 → get_or (take 2 (drop (2 * k) xs)) j 0 ≡ get_or xs (2 * k + j) 0
byte k j xs h = get_or-take 2 (drop (2 * k) xs) j 0 h ∙ get_or-drop (2 * k) xs j 0

pub loop-a-preserved : goal.loop-a-preserved
loop-a-preserved c =
    let s = c.args in
    let k = c.loop-a.a-index in
    let more : k < length c.as_chunks.result.0.now = c.loop-a-test.true in
    let here : get_or c.as_chunks.result.0.now k [] ≡ take 2 (drop (2 * k) s.pairs.now) =
    ap (λ (l : List (List ℕ)). get_or l k []) c.as_chunks.ensures.front ∙ chunk _ k s.pairs.now (omega (arith, more, c.as_chunks.ensures.front_len)) in
    let first = ap (λ (r : List ℕ). get_or r 0 0) here ∙ byte k 0 s.pairs.now (omega arith) ∙ ap (λ (i : ℕ). get_or s.pairs.now i 0) (add-zero (2 * k)) in
    let second = ap (λ (r : List ℕ). get_or r 1 0) here ∙ byte k 1 s.pairs.now (omega arith) in
    line_next s.list.now s.pairs.now k _ _ _ first second (omega (arith, more, c.as_chunks.ensures.front_len)) c.put_pair-next.ensures ∙ c.loop-a.invariant

pub returns : goal.returns
returns c =
    let s = c.args in
    let l = c.loop-a in
    sym (lines_end s.list.now s.pairs.now l.a-index _ (omega (arith, c.as_chunks.ensures.front_len))) ∙ l.invariant
