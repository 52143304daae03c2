-- The promises of specs/Demand.antt, kept.
use mathlib.Core.Path.{◌≡◌, ap}
use mathlib.Core.Logic.{◌↔◌}
use mathlib.Core.Bool.{Bool, true, false}
use Prim.Native.Nat.{ℕ, ◌<◌}
use lib.IntN.{pos}
use Rattle.fractions.specs.Order.{order}
use Rattle.fractions.specs.Point.{point_order}
use Rattle.std.specs.declared.cmp.Ordering.TheVariants.{Less, Equal, Greater}
use Rattle.fractions.specs.declared.Point.{Point}
use Rattle.line_segment.specs.declared.LineSegment.{LineSegment}
use Rattle.line_segment.specs.Piece.{point_of, HasLength}
use Rattle.line_segment.proofs.Lying.{closed_of, closed_line}
use Rattle.sweep.specs.Chart.{Chart}
use Rattle.sweep.specs.Ported.{is_less}
use Rattle.sweep.specs.Geometry.{Occurs, Under, CrossBetween, Geometry}
use Rattle.sweep_geometry.specs.Demand.{AllProper}
use Rattle.sweep_geometry.proofs.Ranking.{less_is}
use Rattle.sweep_geometry.proofs.Points.{at_most, up_to}
use Rattle.sweep_geometry.proofs.Supply.{On, geometry, positive, between}
use Rattle.full_steps.specs.InPlace.{InPlaceFacts}
use Rattle.full_order.specs.Demand.{FinerSupplies, AheadSteeper}
use Rattle.full_order.specs.Finer.{aside, finer_order, through_order, finer, sides_of}
use Rattle.full_order.proofs.Slants.{finer_ranks, below_aside, on_aside, above_aside, aside_below, aside_on, aside_above}
use Rattle.full_order.proofs.Persisting.{Stays, stays}
use Rattle.full_order.proofs.Ahead.{steeper}
use Rattle.full_order.proofs.Through.{both_through, below_first, above_last}

module _ (n : ℕ) (piece : ℕ → LineSegment) (ok : AllProper n piece) where
  abbrev before : Point → ℕ → ℕ → Bool
  before p i j = is_less (finer_order piece p i j)

  abbrev C : Chart
  C = finer n piece

  unfoldable pub finer_geometry : Geometry C
  finer_geometry = geometry n piece ok before (finer_ranks n piece ok)

  len : (i : ℕ) → i < n → HasLength (piece i)
  len i h = (ok i h).length

  above_zero : (p : Point) → Occurs C p → 0 < p.d
  above_zero = positive n piece ok before

  begun : (p : Point) (i : ℕ) → is_less (point_order p (point_of (piece i).min)) ≡ false → ¬ (point_order (point_of (piece i).min) p ≡ Greater)
  begun p i = at_most (point_of (piece i).min) p

  reached : (p : Point) (i : ℕ) → is_less (point_order (point_of (piece i).max) p) ≡ false → ¬ (point_order p (point_of (piece i).max) ≡ Greater)
  reached p i = at_most p (point_of (piece i).max)

  on_exactly : (p : Point) (i : ℕ) → is_less (point_order p (point_of (piece i).min)) ≡ false → is_less (point_order (point_of (piece i).max) p) ≡ false → (aside p (piece i) ≡ Equal) ↔ On (piece i) p
  on_exactly p i e f = (
    λ o. closed_of (piece i) p (aside_on p (piece i) o) (begun p i e) (reached p i f),
    λ o. on_aside p (piece i) (closed_line (piece i) p o),
  )

  -- i before j at l, no crossing of theirs up to p
  module _ (l p : Point) (ol : Occurs C l) (op : Occurs C p) (lp : is_less (point_order l p) ≡ true) (i j : ℕ) (ui : Under C l i) (uj : Under C l j)
      (mi : ¬ (point_order p (point_of (piece i).max) ≡ Greater)) (mj : ¬ (point_order p (point_of (piece j).max) ≡ Greater))
      (e : before l i j ≡ true) (apart : ¬ CrossBetween C l p i j) where
    go_on : Stays p (piece i) (piece j) (order (pos i) (pos j))
    unfolding finer_order
    go_on =
        stays (piece i) (piece j) (len i ui.0) (len j uj.0) l p (above_zero l ol) (above_zero p op) (begun l i ui.1) (begun l j uj.1) mi mj
        (order (pos i) (pos j)) (less_is _ e) (less_is _ lp) (λ x. apart (between n piece ok before l p i j x))

    stays_below : aside p (piece i) ≡ Less → aside p (piece j) ≡ Less
    stays_below o = below_aside p (piece j) (go_on.below (aside_below p (piece i) o))

    stays_above : aside p (piece j) ≡ Greater → aside p (piece i) ≡ Greater
    stays_above o = above_aside p (piece i) (go_on.above (aside_above p (piece j) o))

    stays_before : ¬ ((aside p (piece i) ≡ Equal) × (aside p (piece j) ≡ Equal)) → before p i j ≡ true
    unfolding finer_order
    stays_before not = ap is_less (go_on.ordered (λ z. not (on_aside p (piece i) z.0, on_aside p (piece j) z.1)))

  -- both under the sweep at p
  module _ (p : Point) (o : Occurs C p) (i j : ℕ) (ui : Under C p i) (uj : Under C p j) where
    by_slope : On (piece i) p → On (piece j) p → before p i j ≡ is_less (through_order piece i j)
    unfolding finer_order through_order
    by_slope oi oj =
        ap is_less (both_through (piece i) (piece j) p (above_zero p o) (len i ui.0) (len j uj.0) (closed_line (piece i) p oi) (closed_line (piece j) p oj) (order (pos i) (pos j)))

    comes_first : aside p (piece i) ≡ Greater → On (piece j) p → before p i j ≡ true
    unfolding finer_order
    comes_first a oj =
        rw (below_first (piece i) (piece j) p (above_zero p o) (len i ui.0) (len j uj.0) (begun p i ui.1) (up_to p (point_of (piece i).max) ui.2) (aside_above p (piece i) a) (closed_line (piece j) p oj))

    comes_last : On (piece i) p → aside p (piece j) ≡ Less → before p i j ≡ true
    unfolding finer_order
    comes_last oi a =
        rw (above_last (piece i) (piece j) p (above_zero p o) (len i ui.0) (len j uj.0) (begun p j uj.1) (up_to p (point_of (piece j).max) uj.2) (closed_line (piece i) p oi) (aside_below p (piece j) a))

  pub in_place_facts : InPlaceFacts C (sides_of n piece) finer_geometry
  unfolding finer_geometry geometry
  in_place_facts =
      record {
        aside_on = λ p i o h e f. on_exactly p i e f;
        below_stays = λ l p ol op lp i j ui uj mi mj. stays_below l p ol op lp i j ui uj (reached p i mi) (reached p j mj);
        above_stays = λ l p ol op lp i j ui uj mi mj. stays_above l p ol op lp i j ui uj (reached p i mi) (reached p j mj);
        persists = λ l p ol op lp i j ui uj mi mj. stays_before l p ol op lp i j ui uj (up_to p (point_of (piece i).max) mi) (up_to p (point_of (piece j).max) mj);
        on_rises = by_slope;
        below_first = comes_first;
        above_last = comes_last;
      }

pub finer_supplies : FinerSupplies
finer_supplies n piece ok = (finer_geometry n piece ok, in_place_facts n piece ok)

pub ahead_steeper : AheadSteeper
unfolding finer_order
ahead_steeper n piece ok p o i j ui uj e =
    steeper (piece i) (piece j) (len n piece ok i ui.0) (len n piece ok j uj.0) p (above_zero n piece ok p o) (order (pos i) (pos j)) e (begun n piece ok p j uj.1)
