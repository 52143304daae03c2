-- `full_sweep::sweep` meets its contract: by the verdict on the list and its room.
use mathlib.Core.Path.{sym, ◌∙◌}
use lib.ListN.{length}
use Rattle.charts.proofs.Listing.{listing_goes}
use Rattle.full_sweep.proofs.Answering.{refused_outcome, done_outcome}
use Rattle.full_sweep.proofs.sweep.Goals as goal

pub sweep_pieces-requires : goal.sweep_pieces-requires
sweep_pieces-requires c =
    listing_goes c.args.list.now (length c.args.pairs.now) _ (sym c.in-Ok.ensures)

pub returns-in-Err : goal.returns-in-Err
returns-in-Err c =
    let t = refused_outcome c.args.list.now c.args.budget c.args.pairs.now _ _ (sym c.in-Err.ensures) in
    ((rw c.number.ensures at c.refused.ensures) ∙ t.0, t.1)

pub returns-in-Ok : goal.returns-in-Ok
returns-in-Ok c =
    let t = done_outcome c.args.list.now c.args.budget c.args.pairs.now _ (sym c.in-Ok.ensures) in
    let r = c.sweep_pieces.ensures in
    (r.0 ∙ t.0, r.1 ∙ t.1)
