-- `full_halves::report` meets its contract: what is gathered are the pieces at the point.
use native.Mathlib.Omega.{arith}
use lib.ListN.{length-append}
use lib.Seq.{slice, length-slice}
use Rattle.full_active.specs.Ranks.{starters}
use Rattle.full_halves.proofs.report.Goals as goal

pub list_all-requires : goal.list_all-requires
list_all-requires c =
    let a = c.args in
    let b = c.requires.1 in (
      c.requires.0,
      omega (
        arith,
        c.gather-count.ensures.count,
        length-append (slice a.lo a.hi a.active.now) (starters a.ends.now),
        length-slice a.lo a.hi a.active.now b.within,
        b.few,
        b.ordered,
        c.gather-count.auto.here,
      ),
      rw c.gather-count.ensures.list c.requires.2,
    )

pub returns : goal.returns
returns c =
    λ q m.
    rw c.gather-count.ensures.list at (c.list_all.ensures q m)
