-- `binary64`: the bits are asked of a number alone.
use Rattle.replay.proofs.Floats.{equals_itself}
use Rattle.replay.proofs.text.binary64.Goals as goal

pub float_to_bits-v : goal.float_to_bits-v
float_to_bits-v c = equals_itself c.args.v c.if-v.true
