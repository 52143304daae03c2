-- `ported_step::turn` meets its contract.
use mathlib.Core.Path.{sym, ap, ap₂, ◌∙◌}
use mathlib.Core.List.{List, []}
use Prim.Native.Nat.{ℕ}
use native.Mathlib.Omega.{arith}
use lib.ListN.{length, drop}
use lib.Seq.{length-take-le}
use Rattle.ported_pieces.specs.Table.{chart_in}
use Rattle.sweep.specs.Lists.{keep, adjacent}
use Rattle.sweep.specs.Step.{each}
use Rattle.ported_arrays.specs.Ledger.{examine}
use Rattle.ported_arrays.specs.Insertion.{insert_all}
use Rattle.ported_active.specs.Roles.{enters_by}
use Rattle.ported_ledger.specs.Books.{ledger_of}
use Rattle.ported_arrays.specs.Event.{add}
use Rattle.ported_step.proofs.turn.Goals as goal

pub examine_all-requires-2 : goal.examine_all-requires-2
examine_all-requires-2 c =
    let n = c.enter-now_live.ensures.0 in
    omega (arith, n, c.resort.auto, c.enter-now_live.auto, c.leave-stay.auto)

pub returns : goal.returns
returns c =
    let l = c.leave-stay.ensures in
    let f = c.examine_all.ensures in
    let n = c.enter-now_live.ensures in
    let r = c.resort.ensures in
    let s = c.examine_all-2.ensures in
    let long = c.leave-stay.auto.active in
    record {
      stayed = sym (length-take-le _ _ (omega (arith, l.0, long, c.requires.0))) ∙ ap length l.1;
      fewer = omega (arith, l.0, c.requires.0);
      lives = omega (arith, n.0, long);
      ranges = r ∙ ap (insert_all _ []) (n.1 ∙ ap₂ (λ (k : ℕ) (x : List ℕ). add k x (keep (enters_by c.args.starting.now c.args.finishing.now c.args.turning.now) (drop c.args.h c.args.here.now))) long l.1);
      examines = λ m.
          s m
          ∙ ap (each (examine (chart_in m c.args.table.now) c.args.p) _)
          (f m ∙ ap (λ (z : List ℕ). each (examine (chart_in m c.args.table.now) c.args.p) (adjacent z) (ledger_of c.args.book.now c.args.bytes.now)) l.1);
    }
