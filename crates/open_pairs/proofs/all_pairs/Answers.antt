-- `open_pairs::all_pairs` meets its contract: the pairs of the gathered pieces, renamed.
use mathlib.Core.Path.{◌≡◌, sym, ap, ◌∙◌, subst}
use mathlib.Core.List.{List, ◌++◌}
use Prim.Native.Nat.{ℕ, ◌*◌, ◌<◌, ◌≤◌}
use native.Mathlib.Omega.{arith}
use lib.ListN.{length, length-map, take, drop}
use lib.Seq.{length-take-le, get_or-take}
use Rattle.charts.specs.Answer.{done_with, room}
use Rattle.line_segment.specs.declared.LineSegment.{LineSegment}
use Rattle.naive.specs.Pairs.{Pair, rows, bytes, over}
use Rattle.naive.specs.Decoded.{meets_in}
use Rattle.naive.proofs.Rows.{rows_room}
use Rattle.open_chart.specs.Memory.{places, used_below}
use Rattle.open_chart.specs.Listing.{renamed}
use Rattle.open_chart.proofs.Outcomes.{listed, listing_small, listing_tight, listing_goes}
use Rattle.open_chart.proofs.Names.{both}
use Rattle.open_chart.proofs.Beside.{few, gathered_long, gathered_pairs, made, twice, written_in, written_below, written_renamed}
use Rattle.open_pairs.proofs.all_pairs.Goals as goal

-- the pairs of the gathered pieces have room
lent_enough : (count n : ℕ) {r : ℕ} → r ≡ room count → r ≤ n → room count ≤ n
lent_enough count n e h = subst (λ (k : ℕ). k ≤ n) e h

-- what the list of pairs takes is lent
fits : (all : List LineSegment) (count n : ℕ) → room count ≤ n → length (made all count) ≤ n
fits all count n h = omega (arith, rows_room (meets_in all) count, h)

pub returns-then-chart-lt-NUMBERS : goal.returns-then-chart-lt-NUMBERS
returns-then-chart-lt-NUMBERS c =
    let s = c.args in
    let t = listed s.chart.now s.pairs.now _ (listing_small s.chart.now (length s.pairs.now) c.if-chart-lt-NUMBERS.true) in
    ((rw c.at.ensures at c.refused.ensures) ∙ t.0, t.1)

pub room_of-requires : goal.room_of-requires
room_of-requires c =
    let u = c.gather-standing.result in
    omega (arith, few c.args.chart.now u.all u.names u.count c.gather-standing.ensures)

pub returns-then-pairs-room_of : goal.returns-then-pairs-room_of
returns-then-pairs-room_of c =
    let s = c.args in
    let tight : length s.pairs.now < room (length (used_below s.chart.now places)) = subst (λ (n : ℕ). length s.pairs.now < n) (c.room_of.ensures ∙ ap room c.gather-standing.ensures.counted) c.if-pairs-room_of.true in
    let t = listed s.chart.now s.pairs.now _ (listing_tight s.chart.now (length s.pairs.now) c.if-chart-lt-NUMBERS.false tight) in
    ((rw c.at-then-pairs-room_of.ensures at c.refused-then-pairs-room_of.ensures) ∙ t.0, t.1)

pub list_pairs-k-requires : goal.list_pairs-k-requires
list_pairs-k-requires c =
    let chart = c.args.chart.now in
    let u = c.gather-standing.result in
    let h = c.gather-standing.ensures in
    (few chart u.all u.names u.count h, lent_enough u.count (length c.args.pairs.now) c.room_of.ensures c.if-pairs-room_of.false, gathered_long chart u.all u.names u.count h)

pub overflow_mul-k : goal.overflow_mul-k
overflow_mul-k c =
    let u = c.gather-standing.result in
    let lent = c.args.pairs.now in
    let f = fits u.all u.count (length lent) (lent_enough u.count (length lent) c.room_of.ensures c.if-pairs-room_of.false) in
    let e = c.list_pairs-k.ensures in
    omega (arith, f, twice u.all u.count lent c.list_pairs-k.new.pairs c.list_pairs-k.result f e.0 e.1)

pub slice_bounds-rename-end-2 : goal.slice_bounds-rename-end-2
slice_bounds-rename-end-2 c =
    let u = c.gather-standing.result in
    let lent = c.args.pairs.now in
    let f = fits u.all u.count (length lent) (lent_enough u.count (length lent) c.room_of.ensures c.if-pairs-room_of.false) in
    let e = c.list_pairs-k.ensures in
    written_in u.all u.count lent c.list_pairs-k.new.pairs c.list_pairs-k.result f e.0 e.1

pub slice_bounds-rename-end-3 : goal.slice_bounds-rename-end-3
slice_bounds-rename-end-3 c =
    let u = c.gather-standing.result in
    let lent = c.args.pairs.now in
    let f = fits u.all u.count (length lent) (lent_enough u.count (length lent) c.room_of.ensures c.if-pairs-room_of.false) in
    let e = c.list_pairs-k.ensures in
    sym (length-take-le _ _ (written_in u.all u.count lent c.list_pairs-k.new.pairs c.list_pairs-k.result f e.0 e.1))

pub rename-requires : goal.rename-requires
rename-requires c =
    let u = c.gather-standing.result in
    let h = c.gather-standing.ensures in
    let lent = c.args.pairs.now in
    let f = fits u.all u.count (length lent) (lent_enough u.count (length lent) c.room_of.ensures c.if-pairs-room_of.false) in
    let now = c.list_pairs-k.new.pairs in
    let k = c.list_pairs-k.result in
    let e = c.list_pairs-k.ensures in
    let long : length (take (2 * k) now) ≡ 2 * k = length-take-le (2 * k) now (written_in u.all u.count lent now k f e.0 e.1) in
    λ i b.
    let below : i < 2 * k = omega (arith, long, b) in
    rw (get_or-take (2 * k) now i 0 below)
    (omega (arith, written_below u.all u.count lent now k f e.0 e.1 i below, few c.args.chart.now u.all u.names u.count h, h.long))

pub returns : goal.returns
unfolding renamed
returns c =
    let u = c.gather-standing.result in
    let h = c.gather-standing.ensures in
    let chart = c.args.chart.now in
    let lent = c.args.pairs.now in
    let r = lent_enough u.count (length lent) c.room_of.ensures c.if-pairs-room_of.false in
    let f = fits u.all u.count (length lent) r in
    let e = c.list_pairs-k.ensures in
    let enough : room (length (used_below chart places)) ≤ length lent = subst (λ (n : ℕ). room n ≤ length lent) h.counted r in
    let t = listed chart lent _ (listing_goes chart (length lent) c.if-chart-lt-NUMBERS.false enough) in
    let pairs = gathered_pairs chart u.all u.names u.count h in (
      c.done.ensures ∙ ap done_with (e.0 ∙ sym (length-map (rows (meets_in u.all) u.count) (both u.names)) ∙ ap (λ (ps : List Pair). length ps) pairs) ∙ t.0,
      ap (λ (r : List ℕ). r ++ drop (2 * c.list_pairs-k.result) c.list_pairs-k.new.pairs) c.rename.ensures
          ∙ written_renamed u.all u.count lent c.list_pairs-k.new.pairs c.list_pairs-k.result f e.0 e.1 u.names
          ∙ ap (λ (ps : List Pair). over (bytes ps) lent) pairs ∙ t.1,
    )
