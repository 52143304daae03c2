-- `full_least::next_candidate` meets its contract: as many from `from` on have a greater key.
use mathlib.Core.Path.{◌≡◌, sym, ap, ◌∙◌}
use mathlib.Core.Bool.{Bool}
use mathlib.Core.List.{List}
use Prim.Native.Nat.{ℕ, ◌+◌, ◌-◌, ◌≤◌, ◌<◌}
use native.Mathlib.Omega.{arith}
use borrow.Author.Rules.{rules}
use borrow.Author.Tests.{tests, ltb-true, ltb-false}
use lib.Dec.{ltb}
use lib.ListN.{length, get_or}
use Rattle.std.specs.List.{prefix_len, between}
use Rattle.std.proofs.lemmas.Iterator.{YieldsList-from_slice}
use Rattle.std.proofs.lemmas.Iterator.Consumers.{YieldsList-at, count_from_yields_List}
use Rattle.std.proofs.lemmas.Iterator.Search.{YieldsList-from_take_while}
use Rattle.std.proofs.lemmas.List.Edits.{length-between, get_or-between}
use Rattle.std.proofs.lemmas.List.Folds.{length-prefix_len}
use Rattle.std.proofs.lemmas.List.Sums.{prefix_len_passes, prefix_len_stops, prefix_len-le-length}
use Rattle.full_lanes.specs.Lanes.{Candidate}
use Rattle.full_least.proofs.next_candidate.Goals as goal

-- as many keys as are greater, from `from` on
candidate_from : (lanes : List ℕ) (from live least n : ℕ) → live ≤ length lanes → from ≤ live → n ≡ prefix_len (ltb least) (between from live lanes)
    → Candidate lanes from live least (from + n)
candidate_from lanes from live least n h b e =
    record {
      begun = omega arith;
      within = omega (arith, e, long, prefix_len-le-length above behind);
      greater = greater;
      first = λ r.
          ltb-false least (get_or lanes (from + n) 0)
          (ap above (sym (get_or-between lanes from live n 0 r)) ∙ ap (λ (k : ℕ). above (get_or behind k 0)) e
          ∙ prefix_len_stops above behind 0 (omega (arith, e, long, r)));
    }
  where
    above : ℕ → Bool
    above = ltb least

    behind : List ℕ
    behind = between from live lanes

    long : length behind ≡ live - from
    long = length-between lanes from live h

    greater : (i : ℕ) → from ≤ i → i < from + n → least < get_or lanes i 0
    greater i a c =
        let k : from + (i - from) ≡ i = omega arith in
        ltb-true least (get_or lanes i 0)
        (ap (λ (j : ℕ). above (get_or lanes j 0)) (sym k)
        ∙ ap above (sym (get_or-between lanes from live (i - from) 0 (omega (arith, e, long, prefix_len-le-length above behind))))
        ∙ prefix_len_passes above behind (i - from) 0 (omega (arith, e)))

pub returns : goal.returns
returns c =
    let s = c.args in
    let above = ltb s.least in
    let behind : List ℕ = between s.from s.live s.lanes.now in
    let n : c.count.result ≡ prefix_len above behind =
    count_from_yields_List c.take_while.result c.count.result c.count.ensures.ran
    (YieldsList-from_take_while _ above (YieldsList-at c.take_while.ensures.source (YieldsList-from_slice behind (cc)))
    c.take_while.ensures.closure c.take_while.ensures.done (λ x b f k. search (rules, tests)))
    ∙ length-prefix_len above behind in
    candidate_from s.lanes.now s.from s.live s.least c.count.result (omega arith) (omega arith) n
