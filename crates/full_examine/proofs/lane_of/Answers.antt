-- `full_examine::lane_of` meets its contract.
use mathlib.Core.Path.{◌≡◌, sym, ap, ◌∙◌}
use Rattle.sweep.specs.Lists.{Pair, lesser_first}
use Rattle.full_lanes.specs.Lanes.{keyed, lane_in}
use Rattle.full_lanes.proofs.Laning.{first_lesser, second_lesser, lane_steep, lane_flat}
use Rattle.full_examine.proofs.lane_of.Goals as goal
use Rattle.full_examine.proofs.lane_of.Goals.{Joined-i-j, then-i-j, else-i-j}

pub returns-then-not-is_steeper : goal.returns-then-not-is_steeper
returns-then-not-is_steeper c = lane_flat _ _ _ _ (sym c.is_steeper.ensures ∙ c.if-not-is_steeper.true)

pub lane_between-requires : goal.lane_between-requires
lane_between-requires c =
    let P = c.requires in
    elim c.if-i-j.branch [ then-i-j w ↦ rw (w.a-is, w.b-is) P | else-i-j w ↦ rw (w.a-is, w.b-is) (P.1, P.0) ]

-- the lesser number first
two : (c : Joined-i-j) → let s = c.args in ◌≡◌ {A = Pair} (c.if-i-j.a, c.if-i-j.b) (lesser_first s.i s.j)
two c =
    let s = c.args in
    elim c.if-i-j.branch [
      | then-i-j w ↦ rw (w.a-is, w.b-is) (first_lesser s.i s.j w.if-i-j.true)
      | else-i-j w ↦ rw (w.a-is, w.b-is) (second_lesser s.i s.j w.if-i-j.false)
    ]

pub returns : goal.returns
returns c =
    let s = c.args in
    c.lane_between.ensures
    ∙ ap (λ (q : Pair). keyed (lane_in s.table.now s.p q)) (two c.before)
    ∙ lane_steep _ _ _ _ (sym c.is_steeper.ensures ∙ c.if-not-is_steeper.false)
