-- One outcome, of the functions from which the ported sweep is built, and of `size`. Each contract is taken as the check reads it.
-- Assumes nothing.
use mathlib.Core.Path.{◌≡◌, refl, sym, ap, ap₂, ◌∙◌}
use mathlib.Core.Bool.{Bool}
use mathlib.Core.List.{List, []}
use mathlib.Core.Option.{none}
use Prim.Native.Nat.{ℕ, ◌≤◌}
use native.Mathlib.Omega.{arith}
use lib.ListN.{length, take, drop, length-take, length-drop}
use Rattle.charts.specs.Outcome.{OneResult, OneOutcome}
use Rattle.ported_arrays.specs.Event.{Sheet}
use Rattle.ported_arrays.specs.Ledger.{Ledger}
use Rattle.ported_pieces.specs.Table.{chart_in}
use Rattle.ported_passing.specs.Passing.{Passing}
use Rattle.ported_gather.specs.Joined.{Joined}
use Rattle.ported_ledger.specs.Books.{ledger_of}
use Rattle.integers.proofs.size.Reads as size
use Rattle.ported_heights.proofs.slope_order.Reads as slope_order
use Rattle.ported_heights.proofs.height_order.Reads as height_order
use Rattle.ported_table.proofs.fill.Reads as fill
use Rattle.ported_ends.proofs.order_ends.Reads as order_ends
use Rattle.ported_waiting.proofs.wait.Reads as wait
use Rattle.ported_queue.proofs.next_point.Reads as next_point
use Rattle.ported_passing.proofs.pass_ends.Reads as pass_ends
use Rattle.ported_passing.proofs.pass_crossings.Reads as pass_crossings
use Rattle.ported_gather.proofs.gather.Reads as gather
use Rattle.ported_active.proofs.leave.Reads as leave
use Rattle.ported_active.proofs.enter.Reads as enter
use Rattle.ported_active.proofs.resort.Reads as resort
use Rattle.ported_ledger.proofs.Book.mark_of.Reads as mark_of
use Rattle.ported_ledger.proofs.Book.list_pair.Reads as list_pair
use Rattle.ported_ledger.proofs.Book.wait_pair.Reads as wait_pair
use Rattle.ported_report.proofs.report_all.Reads as report_all
use Rattle.ported_examine.proofs.examine_all.Reads as examine_all
use Rattle.ported_step.proofs.step.Reads as step
use Rattle.one_outcome.specs.Once.{OneInUse}

-- ---- one result, and all of lent memory
pub size_once : OneResult size.Post
size_once κ a x y s t h k = h ∙ sym k

pub slope_order_once : OneResult slope_order.Post
slope_order_once κ a x y s t h k = h ∙ sym k

pub height_order_once : OneResult height_order.Post
height_order_once κ a x y s t h k = h ∙ sym k

pub mark_of_once : OneResult mark_of.Post
mark_of_once κ a x y s t h k = h ∙ sym k

pub next_point_once : OneResult next_point.Post
next_point_once κ a x y s t h k = h 0 ∙ sym (k 0)

pub fill_once : OneOutcome fill.Post (λ κ s. s.1.1.0.now)
fill_once κ a x y s t h k = (refl, h ∙ sym k)

pub order_ends_once : OneOutcome order_ends.Post (λ κ s. s.1.0.now)
order_ends_once κ a x y s t h k = (refl, h 0 ∙ sym (k 0))

pub list_pair_once : OneOutcome list_pair.Post {M = Ledger × List ℕ} (λ κ s. (ledger_of s.0.now s.1.0.now, s.0.now.waiting))
list_pair_once κ a x y s t h k = (refl, ap₂ {A = Ledger} {B = List ℕ} (λ l w. (l, w)) (h.0 ∙ sym k.0) (h.1 ∙ sym k.1))

pub report_all_once : OneOutcome report_all.Post {M = Ledger × List ℕ} (λ κ s. (ledger_of s.1.1.1.0.now s.1.1.1.1.0.now, s.1.1.1.0.now.waiting))
report_all_once κ a x y s t h k = (refl, ap₂ {A = Ledger} {B = List ℕ} (λ l w. (l, w)) (h.0 0 ∙ sym (k.0 0)) (h.1 ∙ sym k.1))

-- two loops that pass the front of one list pass as many
passed_once : {f : ℕ → Bool} {l : List ℕ} {from x y : ℕ} → Passing f l from x → Passing f l from y → x ≡ y
passed_once {l} {x} {y} p q =
    let e = ap length (p.left ∙ sym q.left) in
    omega (arith, length-drop x l, length-drop y l, e, p.within, q.within)

pub pass_ends_once : OneOutcome pass_ends.Post {M = List ℕ × List ℕ} (λ κ s. (s.1.1.1.1.0.now, s.1.1.1.1.1.0.now))
pass_ends_once κ a x y s t h k =
    let e = passed_once (h.passes 0) (k.passes 0) in
    (e, λ i. (((rw e at h.starts) ∙ sym k.starts) i, ((rw e at h.finishes) ∙ sym k.finishes) i))

pub pass_crossings_once : OneOutcome pass_crossings.Post {M = List ℕ × List ℕ} (λ κ s. (s.1.1.1.1.0.now, s.1.1.1.1.1.0.now))
pass_crossings_once κ a x y s t h k =
    let e = passed_once (h.passes 0) (k.passes 0) in
    (e, λ i. (((rw e at h.turns) ∙ sym k.turns) i, ((rw e at h.frees) ∙ sym k.frees) i))

-- ---- one result, and what is in use: places outside the lists that the arrays hold are spare
-- the pairs that wait, from the new head on
pub wait_once : OneInUse wait.Pre wait.Post (λ κ a s. Unit {0}) (λ κ a x s. drop x s.1.0.now)
wait_once κ a x y s t p u v h k = ((h 0).0 ∙ sym (k 0).0, (h 0).2 ∙ sym (k 0).2)

-- .. and the whole ledger that a book and the lent bytes hold
pub wait_pair_once : OneInUse wait_pair.Pre wait_pair.Post (λ κ a s. Unit {0}) (λ κ a x s. ledger_of s.0.now [])
wait_pair_once κ a x y s t p u v h k = (refl, h 0 [] ∙ sym (k 0 []))

pub examine_all_once : OneInUse examine_all.Pre examine_all.Post (λ κ a s. Unit {0}) (λ κ a x s. ledger_of s.1.1.1.1.0.now s.1.1.1.1.1.0.now)
examine_all_once κ a x y s t p u v h k = (refl, h 0 ∙ sym (k 0))

-- the pieces at p, from the place returned on
joined_once : {vs a b c : List ℕ} {h x y : ℕ} → h ≤ length a → Joined vs a h b x → Joined vs a h c y → (x ≡ y) × (drop x b ≡ drop y c)
joined_once {vs} {a} {b} {c} {h} {x} {y} l p q =
    let e = p.list ∙ sym q.list in
    (omega (arith, length-drop x b, length-drop y c, ap length e, p.long, q.long, p.within, q.within), e)

pub gather_once : OneInUse gather.Pre gather.Post (λ κ a s. Unit {0}) (λ κ a x s. drop x s.1.1.1.1.1.1.1.1.1.1.0.now)
gather_once κ a x y s t p u v h k = joined_once p.7 h k

-- the active list, in front of the place returned
taken_once : (b c l : List ℕ) (x y : ℕ) → x ≤ length b → y ≤ length c → take x b ≡ l → take y c ≡ l → (x ≡ y) × (take x b ≡ take y c)
taken_once b c l x y p q e f = (omega (arith, length-take x b, length-take y c, ap length e, ap length f), e ∙ sym f)

pub leave_once : OneInUse leave.Pre leave.Post (λ κ a s. length s.0.now ≡ length a.0.now) (λ κ a x s. take x s.0.now)
leave_once κ a x y s t p u v h k = taken_once _ _ _ x y (omega (arith, p, u, h.0)) (omega (arith, p, v, k.0)) h.1 k.1

pub enter_once : OneInUse enter.Pre enter.Post (λ κ a s. length s.0.now ≡ length a.0.now) (λ κ a x s. take x s.0.now)
enter_once κ a x y s t p u v h k = taken_once _ _ _ x y (omega (arith, u, h.0)) (omega (arith, v, k.0)) h.1 k.1

pub resort_once : OneInUse resort.Pre resort.Post (λ κ a s. Unit {0}) (λ κ a x s. take a.1.1.1.0 s.1.1.0.now)
resort_once κ a x y s t p u v h k = (refl, h ∙ sym k)

-- ---- a step: the ledger, and of the active pieces what is in use
pub record InUse : Type 0 where
  pub active : List ℕ
  pub ledger : Ledger

pub step_once :
    OneInUse step.Pre step.Post (λ κ a s. length s.1.1.1.1.0.now ≡ length a.1.1.1.1.0.now) {M = InUse}
    (λ κ a x s. record { active = take x.live s.1.1.1.1.0.now; ledger = ledger_of s.1.1.1.1.1.1.0.now s.1.1.1.1.1.1.1.0.now })
step_once κ a x y s t p u v h k =
    let C = chart_in 0 a.0.now in
    let e = h.1.does 0 none 0 ∙ sym (k.1.does 0 none 0) in
    let passed : x.passed ≡ y.passed =
    omega (arith, length-drop x.passed a.1.1.0.now, length-drop y.passed a.1.1.0.now, ap (λ (w : Sheet C). length w.ends) e, h.0.passed, k.0.passed) in
    let actives : take x.live s.1.1.1.1.0.now ≡ take y.live t.1.1.1.1.0.now = ap (λ (w : Sheet C). w.active) e in
    let live : x.live ≡ y.live =
    omega (arith, length-take x.live s.1.1.1.1.0.now, length-take y.live t.1.1.1.1.0.now, ap length actives, h.0.lives, k.0.lives, u, v) in (
      λ i. record { passed = passed i; stay = (h.1.stayed 0 none 0 ∙ sym (k.1.stayed 0 none 0)) i; live = live i },
      λ i. record { active = actives i; ledger = ap (λ (w : Sheet C). w.ledger) e i },
    )
