-- `supplied_check::check` meets its contract: by the verdict, then by the pieces of the chart.
use mathlib.Core.Path.{◌≡◌, sym, ◌∙◌}
use mathlib.Core.List.{List}
use Prim.Native.Nat.{ℕ, ◌≤◌}
use lib.IntN.{ℤ}
use lib.ListN.{length}
use Rattle.charts.specs.Chart.{most}
use Rattle.charts.specs.Verdict.{Accepted}
use Rattle.charts.proofs.Accepted.{accepted_most}
use Rattle.naive.specs.AllPairs.{meets}
use Rattle.naive.specs.Decoded.{meets_in}
use Rattle.naive.proofs.Stored.{same_test, stored_long}
use Rattle.supplied.specs.Checking.{supplied_of}
use Rattle.supplied.proofs.Outcomes.{same_told, checked_refused, checked_held}
use Rattle.supplied.proofs.Refusals.{supplied_goes}
use Rattle.supplied_check.proofs.check.Goals as goal

-- the check goes ahead, with n pieces
few : (list : List ℤ) (bytes n : ℕ) → supplied_of list bytes ≡ Accepted n → n ≤ most
few list bytes n e = accepted_most list _ (supplied_goes list bytes _ e).0

pub pieces_of-requires : goal.pieces_of-requires
pieces_of-requires c = few c.args.list.now (length c.args.bytes.now) c.in-Ok.n (sym c.in-Ok.ensures)

pub held_to-requires : goal.held_to-requires
held_to-requires c =
    let list = c.args.list.now in
    let e = sym c.in-Ok.ensures in
    (few list (length c.args.bytes.now) c.in-Ok.n e, stored_long list c.pieces_of.result.all _ c.pieces_of.ensures (supplied_goes list (length c.args.bytes.now) _ e).0)

pub returns-in-Err : goal.returns-in-Err
returns-in-Err c =
    rw c.number.ensures (checked_refused c.args.list.now c.args.bytes.now _ _ (sym c.in-Err.ensures))

pub returns-in-Ok : goal.returns-in-Ok
returns-in-Ok c =
    let s = c.args in
    let n = c.in-Ok.n in
    c.held_to.ensures
    ∙ same_told (meets_in c.pieces_of.result.all) (meets s.list.now) n s.bytes.now (same_test s.list.now c.pieces_of.result.all n c.pieces_of.ensures)
    ∙ checked_held s.list.now s.bytes.now n (sym c.in-Ok.ensures)
