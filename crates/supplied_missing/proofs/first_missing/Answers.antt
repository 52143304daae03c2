-- `supplied_missing::first_missing` meets its contract: no pair of the rows below a, and none of row a below b, is missing.
use mathlib.Core.Path.{◌≡◌, sym, ap, ◌∙◌}
use mathlib.Core.Bool.{Bool, not, ◌&&◌}
use mathlib.Core.List.{List}
use Prim.Native.Nat.{ℕ, ◌<◌}
use native.Mathlib.Numerals.{add-one}
use native.Mathlib.Omega.{arith}
use lib.ListN.{get_or, length, take}
use Rattle.std.proofs.lemmas.List.{get_or-take, length-take}
use Rattle.line_segment.specs.declared.LineSegment.{LineSegment}
use Rattle.line_segment.specs.Segment.{intersect_of}
use Rattle.line_segment.specs.Demand.{says_yes}
use Rattle.charts.specs.PairList.{cell}
use Rattle.naive.specs.Decoded.{blank, meets_in}
use Rattle.naive.proofs.Rows.{row_none, row_no, rows_none}
use Rattle.supplied.specs.Entries.{first_of}
use Rattle.supplied.specs.Marks.{mark_of, unmarked}
use Rattle.supplied.proofs.Firsts.{row_first, rows_first, rows_end}
use Rattle.supplied_missing.proofs.first_missing.Goals as goal

pub loop-a-init : goal.loop-a-init
loop-a-init c = rows_none (unmarked c.args.marks.now (meets_in c.args.pieces.all))

pub loop-b-init : goal.loop-b-init
loop-b-init c = row_none (unmarked c.args.marks.now (meets_in c.args.pieces.all)) c.loop-a.a

-- within the pieces that are walked
walked : (all : List LineSegment) (n a : ℕ) → a < length (take n all) → a < n
walked all n a h = omega (arith, length-take n all)

-- what the test says of the pair
said : (all : List LineSegment) (marks : List Bool) (n a b : ℕ) {r : Bool} → a < length (take n all) → b < length (take a all)
    → r ≡ (not (mark_of marks a b) && says_yes (intersect_of (get_or (take n all) a blank) (get_or (take a all) b blank))) → unmarked marks (meets_in all) a b ≡ r
unfolding unmarked meets_in
said all marks n a b h l e = sym (rw (get_or-take n all a blank (walked all n a h), get_or-take a all b blank (walked all a b l)) at e)

pub returns-then-is_missing : goal.returns-then-is_missing
unfolding cell
returns-then-is_missing c =
    let s = c.args in
    let all = s.pieces.all in
    let t = unmarked s.marks.now (meets_in all) in
    let a = c.loop-a.a in
    let b = c.loop-b.b in
    sym (rows_first t a b s.n c.loop-a.invariant
    (row_first t a b a c.loop-b.invariant (said all s.marks.now s.n a b c.loop-a-test.true c.loop-b-test.true c.is_missing.ensures ∙ c.if-is_missing.true) (walked all a b c.loop-b-test.true))
    (walked all s.n a c.loop-a-test.true))

pub loop-b-preserved : goal.loop-b-preserved
unfolding cell
loop-b-preserved c =
    let s = c.args in
    let all = s.pieces.all in
    let a = c.loop-a.a in
    let b = c.loop-b.b in
    rw add-one (row_no (unmarked s.marks.now (meets_in all)) a b
    (said all s.marks.now s.n a b c.loop-a-test.true c.loop-b-test.true c.is_missing.ensures ∙ c.if-is_missing.false) ∙ c.loop-b.invariant)

pub loop-a-preserved : goal.loop-a-preserved
loop-a-preserved c =
    let s = c.args in
    let all = s.pieces.all in
    let e : c.loop-b.b ≡ c.loop-a.a = omega (arith, length-take s.n all, length-take c.loop-a.a all) in
    rw add-one (rows_end (unmarked s.marks.now (meets_in all)) c.loop-a.a c.loop-a.invariant (rw e at c.loop-b.invariant))

pub returns : goal.returns
returns c =
    let s = c.args in
    let e : c.loop-a.a ≡ s.n = omega (arith, length-take s.n s.pieces.all) in
    sym (ap first_of (rw e at c.loop-a.invariant))
