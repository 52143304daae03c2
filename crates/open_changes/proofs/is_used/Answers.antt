-- `open_changes::is_used` meets its contract: the five numbers are those of the place.
use borrow.Author.Rules.{rules}
use Rattle.open_chart.specs.Memory.{is_used}
use Rattle.charts.proofs.Numbers.{told}
use lib.Dec.{eqb}
use Rattle.charts.specs.Chart.{fault_at}
use Rattle.open_chart.proofs.Puts.{fault_here}
use lib.ListN.{get_or}
use lib.IntN.{pos}
use mir.Syntax.{w32}
use Prim.Native.Nat.{ℕ, ◌*◌, ◌+◌}
use borrow.Author.Tests.{ne_eqb}
use mathlib.Core.Path.{◌≡◌, refl, sym, ap, ◌∙◌}
use Rattle.std.specs.Prelude.{Option, Some, None}
use Rattle.std.specs.Option.{is_some}
use mathlib.Core.Bool.{Bool, true, false, not}
use Rattle.charts.specs.declared.Reason.{Reason}
use Rattle.charts.specs.Refusal.{number, fault_number}
use Rattle.charts.proofs.Refusals.{numbered}
use Rattle.open_changes.proofs.is_used.Goals as goal

-- no fault is the number 0
none_zero : (o : Option Reason) (r : Bool) → is_some o ≡ not r → r ≡ eqb (fault_number o) 0
none_zero None true e = refl
none_zero None false e = e
none_zero (Some reason) true e = e ∙ sym (ne_eqb (number reason) 0 (numbered reason))
none_zero (Some reason) false e = sym (ne_eqb (number reason) 0 (numbered reason))

pub returns : goal.returns
unfolding is_used
returns c =
    let chart = c.args.chart.now in
    let at = 5 * c.args.i in
    let e : fault_number c.fault_of.result ≡ fault_at chart c.args.i =
    rw (
      c.fault_of.ensures,
      told w32 (get_or chart at (pos 0)) (search rules) refl,
      told w32 (get_or chart (at + 1) (pos 0)) (search rules) refl,
      told w32 (get_or chart (at + 2) (pos 0)) (search rules) refl,
      told w32 (get_or chart (at + 3) (pos 0)) (search rules) refl,
      told w32 (get_or chart (at + 4) (pos 0)) (search rules) refl,
    )
    (fault_here chart c.args.i) in
    none_zero c.fault_of.result c.is_none.result c.is_none.ensures ∙ ap (λ (k : ℕ). eqb k 0) e
