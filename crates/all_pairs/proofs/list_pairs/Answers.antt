-- `all_pairs::list_pairs` meets its contract: the rows below a are written, and of row a the pairs below b.
use mathlib.Core.Path.{◌≡◌, sym, ap, ◌∙◌}
use mathlib.Core.List.{List}
use Prim.Native.Nat.{ℕ, ◌≤◌, ◌<◌, ◌+◌, ◌*◌}
use native.Mathlib.Omega.{arith}
use lib.ListN.{length, length-set, take}
use lib.Seq.{length-sets}
use Rattle.std.proofs.lemmas.List.{get_or-take, length-take}
use Rattle.line_segment.specs.declared.LineSegment.{LineSegment}
use Rattle.naive.specs.Pairs.{rows, bytes}
use Rattle.naive.specs.Decoded.{blank, meets_in}
use Rattle.naive.proofs.Turns.{rows_begin, row_begins, pair_listed, pair_passed, has_room, row_full, rows_end}
use Rattle.all_pairs.proofs.list_pairs.Goals as goal
use Rattle.all_pairs.proofs.list_pairs.Goals.{After-meets, Then-meets, then-meets, else-meets}

pub loop-a-init : goal.loop-a-init
loop-a-init c =
    let s = c.args in
    let t = rows_begin (meets_in s.pieces.all) s.pairs.now in
    (t.0, t.1)

pub loop-b-init : goal.loop-b-init
loop-b-init c =
    let t = row_begins (meets_in c.args.pieces.all) c.loop-a.pairs c.loop-a.a c.loop-a.k in
    (t.0, t.1)

-- within the pieces that are walked
walked : (all : List LineSegment) (n a : ℕ) → a < length (take n all) → a < n
walked all n a h = omega (arith, length-take n all)

-- what the call says of the two places
said : (c : After-meets)
    →
    meets_in c.args.pieces.all c.loop-a.a c.loop-b.b ≡ c.meets.result
unfolding meets_in
said c =
    let all = c.args.pieces.all in
    let a = c.loop-a.a in
    let b = c.loop-b.b in
    sym (rw (get_or-take c.args.n all a blank (walked all c.args.n a c.loop-a-test.true), get_or-take a all b blank (walked all a b c.loop-b-test.true)) at c.meets.ensures)

room_here : (c : Then-meets)
    → let l2 = c.loop-b in
    (2 * l2.k + 2 ≤ length l2.pairs) × (length l2.pairs ≡ length c.args.pairs.now)
room_here c =
    has_room (meets_in c.args.pieces.all) c.loop-a.pairs c.loop-b.pairs c.loop-a.a c.loop-b.b c.loop-a.k c.loop-b.k
    c.loop-b.invariant.0 c.loop-b.invariant.1
    c.args.pairs.now c.loop-a.invariant.0 c.loop-a.invariant.1
    c.args.n (walked c.args.pieces.all c.loop-a.a c.loop-b.b c.loop-b-test.true) (walked c.args.pieces.all c.args.n c.loop-a.a c.loop-a-test.true) c.requires.1

pub overflow_mul-pairs : goal.overflow_mul-pairs
overflow_mul-pairs c = omega (arith, room_here c, c.well_formed)

pub bounds-pairs-k : goal.bounds-pairs-k
bounds-pairs-k c = omega (arith, room_here c)

pub overflow_mul-pairs-then-meets : goal.overflow_mul-pairs-then-meets
overflow_mul-pairs-then-meets c = omega (arith, room_here c, c.well_formed)

pub overflow_add-pairs : goal.overflow_add-pairs
overflow_add-pairs c = omega (arith, room_here c, c.well_formed)

pub bounds-pairs-k-then-meets : goal.bounds-pairs-k-then-meets
bounds-pairs-k-then-meets c = simp length-set (omega (arith, room_here c))

pub overflow_add-k : goal.overflow_add-k
overflow_add-k c = omega (arith, room_here c, c.well_formed)

pub loop-b-preserved : goal.loop-b-preserved
loop-b-preserved c =
    let m = meets_in c.args.pieces.all in
    let inv = c.loop-b.invariant in
    elim c.if-meets.branch [
      | then-meets w ↦
          let t = pair_listed m c.loop-a.pairs c.loop-b.pairs c.loop-a.a c.loop-b.b c.loop-a.k c.loop-b.k inv.0 inv.1 (said c.before ∙ w.if-meets.true) in
          (w.k-is ∙ t.0, w.pairs-is ∙ t.1)
      | else-meets w ↦
          let t = pair_passed m c.loop-a.pairs c.loop-b.pairs c.loop-a.a c.loop-b.b c.loop-a.k c.loop-b.k inv.0 inv.1 (said c.before ∙ w.if-meets.false) in
          (w.k-is ∙ t.0, w.pairs-is ∙ t.1)
    ]

pub loop-a-preserved : goal.loop-a-preserved
loop-a-preserved c =
    let s = c.args in
    let t =
    row_full (meets_in s.pieces.all) c.loop-a.pairs c.loop-b.pairs c.loop-a.a c.loop-b.b c.loop-a.k c.loop-b.k
    c.loop-b.invariant.0 c.loop-b.invariant.1
    s.pairs.now c.loop-a.invariant.0 c.loop-a.invariant.1 (omega (arith, length-take s.n s.pieces.all, length-take c.loop-a.a s.pieces.all)) in
    (t.0, t.1)

pub shape_of-pairs : goal.shape_of-pairs
shape_of-pairs c =
    let s = c.args in
    ap length c.loop-a.invariant.1 ∙ length-sets s.pairs.now 0 (bytes (rows (meets_in s.pieces.all) c.loop-a.a))

pub returns : goal.returns
returns c =
    let e : c.loop-a.a ≡ c.args.n = omega (arith, length-take c.args.n c.args.pieces.all) in
    (rw e at c.loop-a.invariant.0, rows_end (meets_in c.args.pieces.all) c.args.pairs.now c.loop-a.pairs c.args.n c.requires.1 (rw e at c.loop-a.invariant.1))
