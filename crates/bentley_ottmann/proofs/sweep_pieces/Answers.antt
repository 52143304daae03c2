-- `bentley_ottmann::sweep_pieces` meets its contract: where the run stops is the sweep's answer.
use Rattle.charts.proofs.Accepted.{accepted_most}
use Rattle.bentley_ottmann.proofs.Answering.{its_length, swept}
use Rattle.bentley_ottmann.proofs.sweep_pieces.Goals as goal

pub fill-requires : goal.fill-requires
fill-requires c = accepted_most c.args.list.now c.args.n c.requires.0

pub run-stop-requires : goal.run-stop-requires
run-stop-requires c =
    let list = c.args.list.now in
    (accepted_most list c.args.n c.requires.0, its_length list c.args.n c.requires.0 _ c.fill.ensures, c.requires.1)

pub returns : goal.returns
returns c =
    swept c.args.list.now c.args.n c.requires.0 _ c.fill.ensures c.args.pairs.now c.requires.1 c.args.budget c.run-stop.ensures c.no_upright-complete.ensures
