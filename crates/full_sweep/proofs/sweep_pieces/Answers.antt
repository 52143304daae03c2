-- `full_sweep::sweep_pieces` meets its contract: where the run stops is the call's answer.
use Rattle.charts.proofs.Accepted.{accepted_most}
use Rattle.full_sweep.proofs.Answering.{its_given, swept}
use Rattle.full_sweep.proofs.sweep_pieces.Goals as goal

pub fill-requires : goal.fill-requires
fill-requires c = accepted_most c.args.list.now c.args.n c.requires.0

pub run-stop-requires : goal.run-stop-requires
run-stop-requires c =
    its_given c.args.list.now c.args.n c.requires.0 _ c.fill.ensures c.args.pairs.now c.requires.1

pub returns : goal.returns
returns c =
    swept c.args.list.now c.args.n c.requires.0 _ c.fill.ensures c.args.pairs.now c.requires.1 c.args.budget c.run-stop.ensures
