-- `peak_in_region::met` meets its contract: it counts the numbers of the sides that count.
use mathlib.Core.Path.{◌≡◌, refl, ap, ◌∙◌}
use mathlib.Core.Bool.{Bool, true, false, cond}
use Prim.Native.Nat.{ℕ, zero, suc, ◌+◌}
use native.Mathlib.Numerals.{add-one}
use native.Mathlib.Omega.{arith}
use mathlib.Core.List.{List, ◌∷◌}
use lib.ListN.{length}
use Rattle.std.proofs.Common.{rules, tests}
use Rattle.std.specs.List.{filter, range_with_len}
use Rattle.std.proofs.lemmas.Iterator.{YieldsList-from_range}
use Rattle.std.proofs.lemmas.Iterator.Consumers.{YieldsList-from_filter, count_from_yields_List}
use Rattle.outline.specs.Counting.{count}
use Rattle.region.specs.Region.{met_side}
use Rattle.region.proofs.Sides.{count_none}
use Rattle.peak_in_region.proofs.met.Goals as goal

-- those below a, and those of the n from a on
counted_from : (f : ℕ → Bool) (a n : ℕ) → count f a + length (filter f (range_with_len a n)) ≡ count f (a + n)
unfolding count
counted_from f a zero = let e : a + 0 ≡ a = omega arith in omega (arith, ap (count f) e)
counted_from f a (suc n) = go (f a) refl (counted_from f (a + 1) n)
  where
    e : (a + 1) + n ≡ a + suc n
    e = omega arith

    one_more : count f (a + 1) ≡ count f a + cond (f a) 1 0
    one_more = rw add-one refl

    rest : List ℕ
    rest = filter f (range_with_len (a + 1) n)

    go : (b : Bool) → f a ≡ b → count f (a + 1) + length rest ≡ count f ((a + 1) + n) → count f a + length (cond b (a ∷ rest) rest) ≡ count f (a + suc n)
    go true q h = let z = rw q at one_more in omega (arith, ap (count f) e)
    go false q h = let z = rw q at one_more in omega (arith, ap (count f) e)

pub returns : goal.returns
unfolding met_side
returns c =
    let s = c.args in
    let n = s.n in
    let f = met_side s.outline.now n s.p in
    let w = c.right_of-right.ensures in
    count_from_yields_List c.filter.result c.count.result c.count.ensures.ran
    (YieldsList-from_filter _ f (YieldsList-from_range 0 n n (cc) (omega arith)) c.filter.ensures.closure (λ x r q k. search (rules, tests, w)))
    ∙ omega (arith, counted_from f 0 n, count_none f, (let e : 0 + n ≡ n = omega arith in ap (count f) e))
