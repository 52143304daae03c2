-- A visit carries the arrays from one state of a run to the next.
use mathlib.Core.Path.{◌≡◌, refl, sym, ap, subst, ◌∙◌}
use mathlib.Core.List.{List, []}
use Prim.Native.Nat.{ℕ, suc, ◌+◌, ◌-◌}
use native.Mathlib.Omega.{arith}
use lib.IntN.{ℤ}
use lib.ListN.{length, get_or}
use Rattle.fractions.specs.Point.{point_order, lowest_of, whole_of}
use Rattle.fractions.specs.declared.Point.{Point}
use Rattle.fractions.proofs.LowestTerms.{lowest_same, lowest_lowest, whole_lowest, one_record}
use Rattle.line_segment.specs.Segment.{crossing_of}
use Rattle.sweep.specs.Ported.{kind_of}
use Rattle.ported_pieces.specs.Table.{rough_at}
use Rattle.ported_pieces.proofs.Crossings.{rough_before}
use Rattle.full_steps.specs.Steps.{State, step, move, move_to, run}
use Rattle.full_points.specs.declared.Spot.{Spot}
use Rattle.full_points.specs.Spot.{Fair, Marks}
use Rattle.full_points.proofs.Keys.{marks_lowest}
use Rattle.full_active.specs.Parts.{below_in, through_in, Edge, Down, Up}
use Rattle.full_active.specs.Ranks.{goes_on_in}
use Rattle.full_lanes.specs.Lanes.{meeting_at, pair_at}
use Rattle.full_step.specs.declared.At.{At}
use Rattle.full_step.specs.Halves.{new_block}
use Rattle.full_step.specs.Whole.{Stepped}
use Rattle.full_step.specs.Crossed.{Crossable, Crossed}
use Rattle.full_step.specs.Carried.{chart, Carried, StandsAt}
use Rattle.full_step.specs.Demand.{BlockAt, CarriesOn}
use Rattle.full_step.proofs.Carrying.{step_carries}
use Rattle.full_step.proofs.Crossing.{Turns, crossable, crossed_steps}
use Rattle.full_ahead.specs.Coming.{Known}
use Rattle.full_ahead.proofs.Block.{searched, widened_up, widened_down, crossing_block}
use Rattle.full_at_point.specs.AtPoint.{Awaits, CrossAt, crossing_at}

-- ---- the point that the code holds
pub crossing_stands : (table : List ℤ) (active : List ℕ) (k : ℕ) {q : Point} → q ≡ meeting_at table active k → {spot : Spot} → Fair spot × Marks spot q
    → StandsAt (crossing_at table active k) q spot
unfolding crossing_of rough_at
crossing_stands table active k {q} e {spot} f = record {
  fair = f.0;
  marks = marks_lowest spot (meeting_at table active k) (subst (Marks spot) e f.1);
  same_place = λ c. ap (λ (z : Point). point_order z c) e ∙ rough_before 0 table (pair_at active k) c;
}

pub end_stands : {p q : Point} → q ≡ p → {spot : Spot} → Fair spot × Marks spot q → {rough : Point} → rough ≡ p → StandsAt p rough spot
end_stands {p} {q} e {spot} f {rough} d = record {
  fair = f.0;
  marks = subst (Marks spot) e f.1;
  same_place = λ c. ap (λ (z : Point). point_order z c) d;
}

-- in lowest terms
pub crossing_lowest : (table : List ℤ) (active : List ℕ) (k : ℕ)
    → crossing_at table active k ≡ lowest_of (meeting_at table active k).x (meeting_at table active k).y (meeting_at table active k).d
unfolding crossing_of rough_at
crossing_lowest table active k = refl

pub end_lowest : (x y : ℤ) → whole_of x y ≡ lowest_of x y 1
end_lowest x y = sym (one_record (lowest_of x y 1) (whole_of x y) (lowest_lowest x y 1 (omega arith)) (whole_lowest x y) (lowest_same x y 1))

-- ---- the step at a point that is known
module _ {n : ℕ} {table : List ℤ} {lent : List ℕ} {m : ℕ} {p : Point} {keys active lanes : List ℕ} {live : ℕ} {bytes : List ℕ} {end : ℕ}
    (a : Awaits n table lent m p keys active lanes live bytes end) {rough : Point} {spot : Spot} (at : StandsAt p rough spot) where
  known : Known n table m active lanes live
  known = record { few = a.given.few; proper = a.given.proper; holds = a.carried.active_is; beside = a.carried.lanes_are }

  on : (lo hi : ℕ) → BlockAt n table (run (chart n table) m).active p lo hi → CarriesOn n table lent (run (chart n table) m) p rough spot active lanes live lo hi keys bytes end
  on lo hi B = step_carries n table lent a.given m p a.next_is active lanes live bytes end a.carried keys a.starting rough spot at lo hi B

  pub end_carries : {lo hi : ℕ} → ((q : Point) → Marks spot q → Edge (below_in table q) active live lo) → ((q : Point) → Marks spot q → Up (through_in table q) active live lo hi)
      → CarriesOn n table lent (run (chart n table) m) p rough spot active lanes live lo hi keys bytes end
  end_carries {lo} {hi} E U =
      let f = searched known p a.next_is lo (E p at.marks) in
      on lo hi (record { first = f; last = widened_up known p a.next_is lo (omega (arith, f)) (omega (arith, f)) hi (U p at.marks) })

  pub crossing_carries : (k : ℕ) → CrossAt table active live k → p ≡ crossing_at table active k
      → {lo hi : ℕ} → ((q : Point) → Marks spot q → Down (through_in table q) active k lo) → ((q : Point) → Marks spot q → Up (through_in table q) active live (k + 2) hi)
      → CarriesOn n table lent (run (chart n table) m) p rough spot active lanes live lo hi keys bytes end
  crossing_carries k X e {lo} {hi} D U =
      let b = crossing_block known p a.next_is k X.two (ap kind_of X.crosses) e in
      on lo hi
      (record {
        first = widened_down known p a.next_is k b.0 (omega (arith, b.1)) lo (D p at.marks);
        last = widened_up known p a.next_is (k + 2) (omega (arith, b.0)) b.1 hi (U p at.marks);
      })

  one_more : run (chart n table) (suc m) ≡ step (chart n table) (run (chart n table) m) p
  unfolding run move move_to
  one_more = rw a.next_is

  pub carries_to : {lo hi : ℕ} → CarriesOn n table lent (run (chart n table) m) p rough spot active lanes live lo hi keys bytes end
      → (active' lanes' bytes' : List ℕ) (r : At) → length active' ≡ length active → length lanes' ≡ length lanes
      → Stepped table p rough active lanes live lo hi keys bytes end active' lanes' bytes' r (new_block table p lo hi active keys)
      → Carried n table lent (run (chart n table) (suc m)) active' lanes' r.live bytes' r.end
  carries_to O active' lanes' bytes' r e d T =
      subst (λ (s : State (chart n table)). Carried n table lent s active' lanes' r.live bytes' r.end) (sym one_more)
      (O.carried active' lanes' bytes' r e d T)

-- ---- the step where two cross and no other piece goes through
module _ {n : ℕ} {table : List ℤ} {lent : List ℕ} {m : ℕ} {p : Point} {active lanes : List ℕ} {live : ℕ} {bytes : List ℕ} {end : ℕ}
    (a : Awaits n table lent m p [] active lanes live bytes end) {rough : Point} {spot : Spot} (at : StandsAt p rough spot)
    (k : ℕ) (X : CrossAt table active live k) (e : p ≡ crossing_at table active k) {lo hi : ℕ}
    (D : (q : Point) → Marks spot q → Down (through_in table q) active k lo) (U : (q : Point) → Marks spot q → Up (through_in table q) active live (k + 2) hi)
    (few : hi - lo ≡ 2) where
  on_two : CarriesOn n table lent (run (chart n table) m) p rough spot active lanes live k (k + 2) [] bytes end
  on_two =
      let d = (D p at.marks).within in
      let u = (U p at.marks).begun in
      let f : lo ≡ k = omega arith in
      let g : hi ≡ k + 2 = omega arith in
      subst (λ (z : ℕ). CarriesOn n table lent (run (chart n table) m) p rough spot active lanes live k z [] bytes end) g
      (subst (λ (z : ℕ). CarriesOn n table lent (run (chart n table) m) p rough spot active lanes live z hi [] bytes end) f (crossing_carries a at k X e D U))

  turns : Turns table p active k
  turns = record {
    inside = omega (arith, X.two, a.carried.lanes_are.places);
    crosses = X.crosses;
    first_on = ap (λ (z : Point). goes_on_in table z (get_or active k 0)) e ∙ X.first_on;
    second_on = ap (λ (z : Point). goes_on_in table z (get_or active (k + 1) 0)) e ∙ X.second_on;
    falls = X.falls;
  }

  pub two_cross : Crossable table active lanes live k bytes end
  two_cross = crossable table p active k turns on_two.steppable on_two.there X.two

  pub two_carry : (active' lanes' bytes' : List ℕ) (r : At) → length active' ≡ length active → length lanes' ≡ length lanes
      → Crossed table rough active lanes live k bytes end active' lanes' bytes' r → Carried n table lent (run (chart n table) (suc m)) active' lanes' r.live bytes' r.end
  two_carry active' lanes' bytes' r f g T =
      carries_to a at on_two active' lanes' bytes' r f g
      (crossed_steps table p active k turns (omega (arith, f, a.carried.lanes_are.places)) X.two T)
