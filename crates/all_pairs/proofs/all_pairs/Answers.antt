-- `all_pairs::all_pairs` meets its contract: by the verdict on the list and its room.
use mathlib.Core.Path.{◌≡◌, sym, ap, ◌∙◌}
use mathlib.Core.List.{List}
use Prim.Native.Nat.{ℕ, ◌≤◌}
use native.Mathlib.Omega.{arith}
use lib.IntN.{ℤ}
use lib.ListN.{length}
use Rattle.charts.specs.Chart.{most}
use Rattle.charts.specs.Answer.{done_with, listing_of}
use Rattle.charts.specs.Verdict.{Accepted}
use Rattle.charts.proofs.Accepted.{accepted_most}
use Rattle.charts.proofs.Listing.{listing_goes}
use Rattle.naive.specs.Pairs.{Pair, bytes, over}
use Rattle.naive.proofs.Stored.{same_pairs, stored_long}
use Rattle.naive.proofs.Outcomes.{refused_outcome, done_outcome}
use Rattle.all_pairs.proofs.all_pairs.Goals as goal

-- the listing goes ahead, with n pieces
few : (list : List ℤ) (lent n : ℕ) → listing_of list lent ≡ Accepted n → n ≤ most
few list lent n e = accepted_most list n (listing_goes list lent n e).0

pub pieces_of-requires : goal.pieces_of-requires
pieces_of-requires c = few c.args.list.now _ _ (sym c.in-Ok.ensures)

pub list_pairs-requires : goal.list_pairs-requires
list_pairs-requires c =
    let list = c.args.list.now in
    let e = sym c.in-Ok.ensures in
    let g = listing_goes list (length c.args.pairs.now) _ e in
    (omega (arith, few list _ _ e), g.1, stored_long list c.pieces_of.result.all _ c.pieces_of.ensures g.0)

pub returns-in-Err : goal.returns-in-Err
returns-in-Err c =
    let t = refused_outcome c.args.list.now c.args.pairs.now _ _ (sym c.in-Err.ensures) in
    (c.refused.ensures ∙ t.0, t.1)

pub returns-in-Ok : goal.returns-in-Ok
returns-in-Ok c =
    let s = c.args in
    let n = c.in-Ok.n in
    let e = same_pairs s.list.now c.pieces_of.result.all n c.pieces_of.ensures in
    let t = done_outcome s.list.now s.pairs.now n (sym c.in-Ok.ensures) in
    let r = c.list_pairs.ensures in (
      c.done.ensures ∙ ap done_with (r.0 ∙ ap (λ (l : List Pair). length l) e) ∙ t.0,
      r.1 ∙ ap (λ (l : List Pair). over (bytes l) s.pairs.now) e ∙ t.1,
    )
