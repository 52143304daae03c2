-- `put_chart` meets its contract: the lines of a full sweep, one after another.
use mathlib.Core.Path.{◌≡◌, sym}
use mathlib.Core.List.{List}
use Prim.Native.Nat.{ℕ, ◌*◌, ◌-◌, ◌/◌, ◌≤◌}
use native.Mathlib.Omega.{arith}
use lib.IntN.{ℤ}
use lib.ListN.{length}
use lib.Seq.{length-take-le}
use Rattle.charts.specs.Answer.{room}
use Rattle.charts.specs.Chart.{most, verdict_of}
use Rattle.charts.specs.Verdict.{Accepted}
use Rattle.decimals.specs.Text.{ascii}
use Rattle.decimals.proofs.Puts.{put_then, put_as}
use Rattle.listing.specs.Listing.{chart_lines}
use Rattle.listing.proofs.Counts.{most_room, room_few}
use Rattle.listing.proofs.Sweeps.{full_sweep}
use Rattle.listing_text.proofs.put_chart.Goals as goal

-- the bytes of the pairs that a full sweep lists
few : (list : List ℤ) (p : ℕ) → verdict_of list ≡ Accepted (length list / 5) → 2 * p ≤ room (length list / 5) → 2 * p ≤ most * (most - 1)
few list p e h = omega (arith, h, room_few list (length list / 5) e, most_room)

pub overflow_mul-bytes : goal.overflow_mul-bytes
overflow_mul-bytes c =
    let w = full_sweep c.args.list.now (length c.args.list.now / 5) c.requires _ (omega (arith, most_room)) _ _ c.sweep-swept.ensures.0 c.sweep-swept.ensures.1 in
    record { fits = omega (arith, few c.args.list.now c.sweep-swept.result.pairs c.requires w.few) }

pub slice_bounds-pairs-end : goal.slice_bounds-pairs-end
slice_bounds-pairs-end c =
    let w = full_sweep c.args.list.now (length c.args.list.now / 5) c.requires _ (omega (arith, most_room)) _ _ c.sweep-swept.ensures.0 c.sweep-swept.ensures.1 in
    omega (arith, few c.args.list.now c.sweep-swept.result.pairs c.requires w.few)

pub slice_bounds-put_pairs-end : goal.slice_bounds-put_pairs-end
slice_bounds-put_pairs-end c =
    let w = full_sweep c.args.list.now (length c.args.list.now / 5) c.requires _ (omega (arith, most_room)) _ _ c.sweep-swept.ensures.0 c.sweep-swept.ensures.1 in
    sym (length-take-le (2 * c.sweep-swept.result.pairs) c.sweep-swept.new.pairs (omega (arith, few c.args.list.now c.sweep-swept.result.pairs c.requires w.few)))

pub returns : goal.returns
unfolding chart_lines ascii
returns c =
    put_as _ _ _
    (put_then _ _ _ (put_then _ _ _ (put_then _ _ _ c.put_count-counted.ensures c.put_complete-told.ensures) c.put_pairs-listed.ensures) c.put_count.ensures)
    (full_sweep c.args.list.now (length c.args.list.now / 5) c.requires _ (omega (arith, most_room)) _ _ c.sweep-swept.ensures.0 c.sweep-swept.ensures.1).text
