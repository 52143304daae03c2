-- `full_loop::run` meets its contract: the arrays are as a run begins with them.
use mathlib.Core.Path.{sym}
use Rattle.ported_run.proofs.Beginning.{part_long, front_within, front_long}
use Rattle.full_run.proofs.Beginning.{begun}
use Rattle.full_loop.proofs.run.Goals as goal

pub slice_bounds-order_ends-end : goal.slice_bounds-order_ends-end
slice_bounds-order_ends-end c = part_long c.args.n c.requires.few

pub order_ends-requires : goal.order_ends-requires
order_ends-requires c = (c.requires.few, sym (part_long c.args.n c.requires.few))

pub slice_bounds-ends-end-2 : goal.slice_bounds-ends-end-2
slice_bounds-ends-end-2 c = front_within c.args.n c.requires.few c.order_ends.new.ends c.order_ends.auto.ends

pub slice_bounds-go-end : goal.slice_bounds-go-end
slice_bounds-go-end c = front_long c.args.n c.requires.few c.order_ends.new.ends c.order_ends.auto.ends

pub go-requires : goal.go-requires
go-requires c = (c.args.n, begun c.requires _ c.order_ends.auto.ends c.order_ends.ensures)

pub returns : goal.returns
returns c =
    c.go.ensures c.args.n (begun c.requires _ c.order_ends.auto.ends c.order_ends.ensures)
