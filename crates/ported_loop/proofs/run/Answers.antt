-- `ported_loop::run` meets its contract: the arrays are as a run begins with them.
use native.Mathlib.Omega.{arith}
use Rattle.ported_run.proofs.Beginning.{part_long, front_within, front_long, begun}
use Rattle.ported_loop.proofs.run.Goals as goal

pub slice_bounds-order_ends-end : goal.slice_bounds-order_ends-end
slice_bounds-order_ends-end c = part_long c.args.n c.requires.0

pub order_ends-requires : goal.order_ends-requires
order_ends-requires c = omega (arith, part_long c.args.n c.requires.0, c.requires.0)

pub slice_bounds-ends-end-2 : goal.slice_bounds-ends-end-2
slice_bounds-ends-end-2 c = front_within c.args.n c.requires.0 c.order_ends.new.ends c.order_ends.auto.ends

pub slice_bounds-go-end : goal.slice_bounds-go-end
slice_bounds-go-end c = front_long c.args.n c.requires.0 c.order_ends.new.ends c.order_ends.auto.ends

pub go-requires-clause-begun : goal.go-requires-clause-begun
go-requires-clause-begun c = (c.args.n, begun c.args.n c.requires.0 _ c.order_ends.auto.ends c.args.table.now c.args.bytes.now c.requires.1 c.requires.2 (c.order_ends.ensures c.args.n))

pub returns : goal.returns
returns c =
    c.go.ensures c.args.n (begun c.args.n c.requires.0 _ c.order_ends.auto.ends c.args.table.now c.args.bytes.now c.requires.1 c.requires.2 (c.order_ends.ensures c.args.n))
