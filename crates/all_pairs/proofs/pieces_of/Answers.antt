-- `all_pairs::pieces_of` meets its contract: below i the array holds the pieces of the list.
use mathlib.Core.Path.{◌≡◌, sym, ◌∙◌}
use native.Mathlib.Omega.{arith}
use lib.ListN.{length-set, replicate, length-replicate}
use Rattle.std.proofs.lemmas.List.{length-take-le, take-append-le}
use Rattle.naive.proofs.Stored.{pieces_none, piece_stored}
use Rattle.all_pairs.proofs.pieces_of.Goals as goal

pub loop-i-init : goal.loop-i-init
loop-i-init c = (length-take-le c.args.n (replicate 200 c.piece-all.result) (omega (arith, length-replicate 200 c.piece-all.result)), sym (pieces_none c.args.list.now))

pub loop-i-preserved : goal.loop-i-preserved
loop-i-preserved c =
    let l = c.loop-i in (
      length-set l.piece-items l.i c.piece_at.result ∙ l.invariant.0,
      piece_stored c.args.list.now l.piece-items l.i c.piece_at.result (omega arith) l.invariant.1 c.piece_at.ensures,
    )

pub returns : goal.returns
returns c =
    let l = c.loop-i in
    let e : l.i ≡ c.args.n = omega arith in
    take-append-le c.args.n l.piece-items _ (omega arith) ∙ rw e at l.invariant.1
