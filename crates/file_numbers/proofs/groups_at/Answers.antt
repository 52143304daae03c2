-- `groups_at`: g groups are passed with their high bit set; each return ends the number there.
use mathlib.Core.Path.{◌≡◌, ◌∙◌}
use mathlib.Core.Logic.{⊎_elim}
use Prim.Native.Nat.{ℕ, zero, suc, ◌+◌, ◌*◌, ◌-◌, ◌^◌, ◌≤◌, ◌<◌}
use native.Mathlib.Omega.{arith}
use native.Mathlib.Nat.{mul-le-mul_left}
use lib.Dec.{lit≤}
use lib.ListN.{length, get_or}
use Rattle.std.proofs.lemmas.Result.{err_from_is_err_and}
use Rattle.charts.specs.declared.Reason.TheVariants.{FileEnds}
use Rattle.chart_file.proofs.Bytes.{byte_there, byte_due}
use Rattle.chart_file.proofs.Passed.{one_passed, passed_value, passed_zero, passed_end, passed_most}
use Rattle.file_numbers.proofs.groups_at.Goals as goal
use Rattle.file_numbers.proofs.groups_at.Goals.{Else-group-lt128}

-- a group's share is small
weighs : (g w x : ℕ) → g < 3 → w ≡ 128 ^ g → x < 128 → (w ≤ 16384) × (w * x ≤ 16384 * 127)
weighs g w x h e u = (low, omega (arith, low, mul-le-mul_left {m = x} {n = 127} w (omega arith)))
  where
    power : (g : ℕ) → g < 3 → 128 ^ g ≤ 16384
    power zero h = lit≤ tt
    power (suc zero) h = lit≤ tt
    power (suc (suc zero)) h = lit≤ tt
    power (suc (suc (suc g))) h = absurd (omega arith)

    low : w ≤ 16384
    low = rw e (power g h)

abbrev here : (c : Else-group-lt128) → (c.args.at + c.loop-g.g < length c.args.file.now) × (c.in_ok-byte_at.field-0 ≡ get_or c.args.file.now (c.args.at + c.loop-g.g) 0)
here c = byte_there c.args.file.now (c.args.at + c.loop-g.g) FileEnds _ c.in_ok-byte_at.ensures

byte : (c : Else-group-lt128) → c.from-group.result < 256
byte c = omega (arith, c.from-group.ensures, (here c).1, (c.type_inv.file (c.args.at + c.loop-g.g)).fits)

pub returns-in_err-byte_at : goal.returns-in_err-byte_at
returns-in_err-byte_at c =
    let a = c.args in
    let l = c.loop-g in
    let p = err_from_is_err_and c.from_residual.result c.from_residual.ensures.1 in
    let d = byte_due a.file.now (a.at + l.g) FileEnds _ c.in_err-byte_at.ensures in
    rw (p.1, p.2, d.1) (passed_end 3 a.file.now a.at l.g (a.at + l.g) l.value l.weight l.invariant.2 (omega arith) d.0)

pub returns-then-group-eq0 : goal.returns-then-group-eq0
returns-then-group-eq0 c =
    let a = c.args in
    let l = c.loop-g in
    let b = byte_there a.file.now (a.at + l.g) FileEnds _ c.in_ok-byte_at.ensures in
    passed_zero a.file.now a.at l.g (a.at + l.g) l.value l.weight c.from-group.result l.invariant.2 b.0 (c.from-group.ensures ∙ b.1) 3 (omega arith) (omega arith) c.if-group-eq0.true

pub overflow_mul-result : goal.overflow_mul-result
overflow_mul-result c =
    record { fits = omega (arith, weighs c.loop-g.g c.loop-g.weight c.from-group.result (omega arith) c.loop-g.invariant.2.weight (omega arith)) }

pub overflow_add-result : goal.overflow_add-result
overflow_add-result c =
    record { fits = omega (arith, c.loop-g.invariant.2.small, weighs c.loop-g.g c.loop-g.weight c.from-group.result (omega arith) c.loop-g.invariant.2.weight (omega arith)) }

pub overflow_add-result-then-group-lt128-2 : goal.overflow_add-result-then-group-lt128-2
overflow_add-result-then-group-lt128-2 c =
    let b = byte_there c.args.file.now (c.args.at + c.loop-g.g) FileEnds _ c.in_ok-byte_at.ensures in
    record { fits = omega arith }

pub returns-then-group-lt128 : goal.returns-then-group-lt128
returns-then-group-lt128 c =
    let a = c.args in
    let l = c.loop-g in
    let b = byte_there a.file.now (a.at + l.g) FileEnds _ c.in_ok-byte_at.ensures in
    passed_value a.file.now a.at l.g (a.at + l.g) l.value l.weight c.from-group.result l.invariant.2 b.0 (c.from-group.ensures ∙ b.1) 3 (omega arith) (omega arith)
    (⊎_elim (λ p h. p.1) (λ q h. absurd (omega (arith, q, h))) c.else-g-gt0.either)

pub overflow_mul-value : goal.overflow_mul-value
overflow_mul-value c =
    record { fits = omega (arith, weighs c.loop-g.g c.loop-g.weight (c.from-group.result - 128) (omega arith) c.loop-g.invariant.2.weight (omega (arith, byte c))) }

pub overflow_add-value : goal.overflow_add-value
overflow_add-value c =
    record { fits = omega (arith, c.loop-g.invariant.2.small, weighs c.loop-g.g c.loop-g.weight (c.from-group.result - 128) (omega arith) c.loop-g.invariant.2.weight (omega (arith, byte c))) }

pub overflow_mul-weight : goal.overflow_mul-weight
overflow_mul-weight c =
    record { fits = omega (arith, weighs c.loop-g.g c.loop-g.weight 127 (omega arith) c.loop-g.invariant.2.weight (omega arith)) }

pub loop-g-preserved : goal.loop-g-preserved
loop-g-preserved c =
    let a = c.args in
    let l = c.loop-g in
    let b = here c in
    let next : a.at + l.g + 1 ≡ a.at + (l.g + 1) = omega arith in
    (omega arith, λ h. omega (arith, b.0), rw next at (one_passed a.file.now a.at l.g (a.at + l.g) l.value l.weight c.from-group.result l.invariant.2 b.0 (c.from-group.ensures ∙ b.1) (omega arith) (byte c)))

pub returns : goal.returns
returns c =
    let a = c.args in
    let l = c.loop-g in
    passed_most 3 a.file.now a.at l.g (a.at + l.g) l.value l.weight l.invariant.2 (omega arith)
