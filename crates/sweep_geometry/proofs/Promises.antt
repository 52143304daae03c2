-- The promises of specs/Demand.antt, kept: by the full order on every chart, and so by the ported one where no piece is
-- upright, since there the two are one.
use mathlib.Core.Path.{◌≡◌, sym, ap, ◌∙◌}
use mathlib.Core.Bool.{Bool, false}
use Prim.Native.Nat.{ℕ, ◌<◌}
use lib.IntN.{pos}
use Rattle.fractions.specs.Order.{order}
use Rattle.fractions.specs.declared.Point.{Point}
use Rattle.line_segment.specs.declared.LineSegment.{LineSegment}
use Rattle.line_segment.proofs.Along.{Leads, leads}
use Rattle.charts.specs.Piece.{is_upright}
use Rattle.sweep.specs.Geometry.{Geometry}
use Rattle.sweep.specs.Ported.{is_less, height_above, height_below, height_order, rank_order, ported}
use Rattle.sweep.proofs.Promises.{promises}
use Rattle.sweep.proofs.Always.{always}
use Rattle.sweep_geometry.specs.Full.{full_above, full_below, full_height_order, full_order, full}
use Rattle.sweep_geometry.specs.Demand.{AllProper, NoneUpright, PortedSweeps, PortedAlways, FullSweeps}
use Rattle.sweep_geometry.proofs.Heights.{full_irr, full_trans, full_total, ported_irr}
use Rattle.sweep_geometry.proofs.Ranking.{less_is}
use Rattle.sweep_geometry.proofs.Preceding.{full_precedes}
use Rattle.sweep_geometry.proofs.Supply.{Ranks, points_ordered, geometry}

-- ---- without upright pieces the two orders are one
module _ (s : LineSegment) (p : Point) (e : is_upright s ≡ false) where
  same_above : full_above s p ≡ height_above s p
  unfolding full_above
  same_above = rw e

  same_below : full_below s p ≡ height_below s p
  unfolding full_below
  same_below = rw e

module _ (piece : ℕ → LineSegment) (p : Point) where
  same_order : (i j : ℕ) → is_upright (piece i) ≡ false → is_upright (piece j) ≡ false → full_order piece p i j ≡ rank_order piece p i j
  unfolding full_order rank_order full_height_order height_order
  same_order i j e f = rw (same_above (piece i) p e, same_above (piece j) p f, same_below (piece i) p e, same_below (piece j) p f)

-- ---- what geometry asks of the full order, and so of any that agrees with it
module _ (n : ℕ) (piece : ℕ → LineSegment) (ok : AllProper n piece) where
  lies : (i : ℕ) → i < n → Leads (piece i)
  lies i h = leads (piece i) (ok i h).length

  full_ranks : Ranks n piece (λ p i j. is_less (full_order piece p i j))
  full_ranks =
      record {
        irr = full_irr piece;
        trans = λ p d i j k hi hj hk. full_trans piece p d i j (lies i hi) (lies j hj) k (lies k hk);
        total = λ p d i j hi hj. full_total piece p d i j (lies i hi) (lies j hj);
        precedes = λ p d i j hi hj e. full_precedes (piece i) (piece j) p d (order (pos i) (pos j)) (unfold full_order in less_is (full_order piece p i j) e);
      }

  agreeing : (before : Point → ℕ → ℕ → Bool) → ((p : Point) (i : ℕ) → before p i i ≡ false)
      → ((p : Point) (i j : ℕ) → i < n → j < n → is_less (full_order piece p i j) ≡ before p i j) → Ranks n piece before
  agreeing before irr agree =
      record {
        irr = irr;
        trans = λ p d i j k hi hj hk e f. sym (agree p i k hi hk) ∙ full_ranks.trans p d i j k hi hj hk (agree p i j hi hj ∙ e) (agree p j k hj hk ∙ f);
        total = λ p d i j hi hj ne e. sym (agree p j i hj hi) ∙ full_ranks.total p d i j hi hj ne (agree p i j hi hj ∙ e);
        precedes = λ p d i j hi hj e. full_ranks.precedes p d i j hi hj (agree p i j hi hj ∙ e);
      }

pub full_sweeps : FullSweeps
full_sweeps n piece ok = promises (full n piece) (geometry n piece ok (λ p i j. is_less (full_order piece p i j)) (full_ranks n piece ok))

pub ported_geometry : (n : ℕ) (piece : ℕ → LineSegment) → AllProper n piece → NoneUpright n piece → Geometry (ported n piece)
ported_geometry n piece ok flat =
    geometry n piece ok (λ p i j. is_less (rank_order piece p i j))
    (agreeing n piece ok (λ p i j. is_less (rank_order piece p i j)) (ported_irr piece) (λ p i j hi hj. ap is_less (same_order piece p i j (flat i hi) (flat j hj))))

pub ported_sweeps : PortedSweeps
ported_sweeps n piece ok flat = promises (ported n piece) (ported_geometry n piece ok flat)

pub ported_always : PortedAlways
ported_always n piece ok = always (ported n piece) (points_ordered n piece ok (λ p i j. is_less (rank_order piece p i j)))
