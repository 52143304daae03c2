-- `peak_in_region::is_on` meets its contract: `any` says whether one of the sides has the peak.
use mathlib.Core.Path.{◌≡◌, sym, ap, ap₂, ◌∙◌}
use mathlib.Core.Bool.{Bool, true, false}
use mir.Syntax.{w16}
use mir.Val.{SFits}
use mir.Facts.{to_z-of_z}
use Rattle.fractions.specs.Point.{whole_of}
use Prim.Native.Nat.{ℕ, ◌<◌}
use native.Mathlib.Omega.{arith}
use borrow.Author.Tests.{lt-ltb}
use lib.Dec.{ltb}
use lib.ListN.{length}
use Rattle.std.proofs.Common.{MatchBool, zero-add, rules, tests}
use Rattle.std.specs.List.{HoldsAt, AllWithin, range_with_len}
use Rattle.std.proofs.lemmas.Iterator.{cases_from_any, YieldsList-from_range}
use Rattle.std.proofs.lemmas.List.FromFn.{length-range_with_len, get_or-range_with_len}
use Rattle.outline.specs.Counting.{first}
use Rattle.region.specs.Region.{on_side}
use Rattle.outline.proofs.First.{Finds, at, nowhere, finds}
use Rattle.region.proofs.Sides.{some_no}
use Rattle.peak_in_region.proofs.is_on.Goals as goal

-- a yes below n
some_below : (f : ℕ → Bool) (n k : ℕ) → k < n → f k ≡ true → true ≡ ltb (first f n) n
some_below f n k h e = go (first f n) (finds f n)
  where
    go : (m : ℕ) → Finds f n m → true ≡ ltb m n
    go m (at i l b q) = sym (lt-ltb i n l)
    go m (nowhere b) = let z : true ≡ false = sym e ∙ b k h in cc

-- one of the numbers below n is a yes, or none is
asked : (f : ℕ → Bool) (n : ℕ) (r : Bool)
    → MatchBool r ((k : ℕ) × (k < length (range_with_len 0 n)) × HoldsAt (λ i. f i ≡ true) (range_with_len 0 n) k) (AllWithin (λ i. f i ≡ false) (range_with_len 0 n) 0 (length (range_with_len 0 n)))
    → r ≡ ltb (first f n) n
asked f n true h =
    let l : h.0 < n = omega (arith, length-range_with_len 0 n) in
    some_below f n h.0 l (sym (ap f (get_or-range_with_len 0 n h.0 0 l ∙ zero-add h.0)) ∙ h.2 0)
asked f n false h =
    some_no f n (λ k l. sym (ap f (get_or-range_with_len 0 n k 0 l ∙ zero-add k)) ∙ h k 0 (omega arith) (omega (arith, length-range_with_len 0 n)))

pub returns : goal.returns
unfolding on_side
returns c =
    let s = c.args in
    let n = s.n in
    let f = on_side s.outline.now n s.p in
    let x : SFits w16 s.p.x = search rules in
    let y : SFits w16 s.p.y = search rules in
    let w = c.whole-peak.ensures ∙ ap₂ whole_of (to_z-of_z x) (to_z-of_z y) in
    asked f n c.any.result (cases_from_any _ _ c.any.result (λ i. f i ≡ true) (λ i. f i ≡ false) c.any.ensures.ran (YieldsList-from_range 0 n n (cc) (omega arith)) (λ i q k. rw (← w) (search (rules, tests))) (λ i q k. rw (← w) (search (rules, tests))))
