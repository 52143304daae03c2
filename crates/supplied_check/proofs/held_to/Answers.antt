-- `supplied_check::held_to` meets its contract: the first fault, else the first missing pair, else accepted.
use mathlib.Core.Path.{refl, sym, ap, ◌∙◌}
use Prim.Native.Nat.{◌*◌}
use Rattle.charts.specs.Chart.{most}
use Rattle.naive.specs.Decoded.{meets_in}
use Rattle.supplied.specs.Checking.{told}
use Rattle.std.specs.Prelude.{None}
use Rattle.supplied.proofs.Marks.{none_marked}
use Rattle.supplied.proofs.Outcomes.{told_fault, told_missing}
use Rattle.supplied_check.proofs.held_to.Goals as goal

pub mark_entries-requires : goal.mark_entries-requires
mark_entries-requires c = (c.requires.0, c.requires.1, none_marked c.args.bytes.now (most * most) refl)

-- the walk came to its end
pub first_missing-requires : goal.first_missing-requires
first_missing-requires c = (c.requires.0, c.requires.1, (c.mark_entries.ensures.marked c.in-None.is).size)

pub returns-in-Some : goal.returns-in-Some
returns-in-Some c =
    rw c.fault_number.ensures (told_fault (meets_in c.args.pieces.all) c.args.n c.args.bytes.now _ _ _ _ c.mark_entries.ensures c.in-Some.is)

pub returns-in-Some-first_missing : goal.returns-in-Some-first_missing
returns-in-Some-first_missing c =
    let s = c.args in
    sym (ap (told None) c.in-Some-first_missing.is)
    ∙ told_missing (meets_in s.pieces.all) s.n s.bytes.now _ _ _ c.requires.0 c.mark_entries.ensures c.in-None.is c.first_missing.ensures

pub returns-in-None-first_missing : goal.returns-in-None-first_missing
returns-in-None-first_missing c =
    let s = c.args in
    sym (ap (told None) c.in-None-first_missing.is)
    ∙ told_missing (meets_in s.pieces.all) s.n s.bytes.now _ _ _ c.requires.0 c.mark_entries.ensures c.in-None.is c.first_missing.ensures
