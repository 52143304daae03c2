-- `chart_verdict::listing_of` meets its contract: by the verdict on the list, then the room.
use mathlib.Core.Path.{sym}
use native.Mathlib.Omega.{arith}
use Rattle.std.proofs.lemmas.Result.{err_from_is_err_and}
use Rattle.charts.proofs.Listing.{listing_refused, listing_eight, listing_accepted}
use Rattle.charts.proofs.Accepted.{accepted_most}
use Rattle.chart_verdict.proofs.listing_of.Goals as goal

pub returns-in_err-n : goal.returns-in_err-n
returns-in_err-n c =
    let s = c.args in
    let p = err_from_is_err_and c.from_residual.result c.from_residual.ensures.1 in
    rw (p.1, p.2) (sym (listing_refused s.list.now s.lent _ _ (sym c.in_err-n.ensures)))

pub room_of-requires : goal.room_of-requires
room_of-requires c = omega (arith, accepted_most _ _ (sym c.in_ok-n.ensures))

pub returns-then-lent-room_of : goal.returns-then-lent-room_of
returns-then-lent-room_of c =
    let s = c.args in
    rw c.at.ensures (sym (listing_eight s.list.now s.lent _ (sym c.in_ok-n.ensures) (rw c.room_of.ensures at c.if-lent-room_of.true)))

pub returns : goal.returns
returns c =
    let s = c.args in
    sym (listing_accepted s.list.now s.lent _ (sym c.in_ok-n.ensures) (rw c.room_of.ensures at c.if-lent-room_of.false))
