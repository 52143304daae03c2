-- The points that occur on a chart, and the pieces at each, are ordered: what the sweep on arrays asks of it.
-- Lowest terms are all that a point needs for that.
use mathlib.Core.Path.{◌≡◌, refl, sym, ap, ◌∙◌}
use mathlib.Core.Bool.{false}
use Prim.Native.Nat.{ℕ, ◌<◌}
use native.Mathlib.Omega.{arith}
use Rattle.fractions.specs.Order.{turned}
use Rattle.fractions.specs.Point.{Lowest, point_order}
use Rattle.std.specs.declared.cmp.Ordering.{Ordering}
use Rattle.std.specs.declared.cmp.Ordering.TheVariants.{Less, Equal, Greater}
use Rattle.fractions.specs.declared.Point.{Point}
use Rattle.fractions.proofs.Points.{point_itself, point_turned, point_trans}
use Rattle.fractions.proofs.LowestTerms.{whole_lowest, one_record}
use Rattle.line_segment.specs.declared.EndPoint.{EndPoint}
use Rattle.line_segment.specs.declared.LineSegment.{LineSegment}
use Rattle.line_segment.specs.Piece.{HasLength, point_of}
use Rattle.line_segment.proofs.Along.{Leads, leads}
use Rattle.line_segment.proofs.Promises.{crossing_is_cramers}
use Rattle.sweep.specs.Ported.{is_less, ported}
use Rattle.sweep.proofs.Tests.{clash}
use Rattle.ported_arrays.specs.Agreement.{Ordered}
use Rattle.sweep_geometry.proofs.Ranking.{less_is}
use Rattle.sweep_geometry.proofs.Heights.{ported_trans, ported_total}
use Rattle.sweep_geometry.proofs.Supply.{kind_crosses}

end_lowest : (e : EndPoint) → Lowest (point_of e)
unfolding point_of
end_lowest e = whole_lowest e.x e.y

less_same : (p q : Point) → Lowest p → Lowest q → is_less (point_order p q) ≡ false → is_less (point_order q p) ≡ false → p ≡ q
less_same p q lp lq e f = one_record p q lp lq (go (point_order p q) e (ap is_less (sym (point_turned p q)) ∙ f))
  where
    go : (o : Ordering) → is_less o ≡ false → is_less (turned o) ≡ false → o ≡ Equal
    go Less e f = clash refl e
    go Equal e f = refl
    go Greater e f = clash refl f

module _ (n : ℕ) (piece : ℕ → LineSegment) (long : (i : ℕ) → i < n → HasLength (piece i)) where
  pub ordered : Ordered (ported n piece)
  ordered =
      record {
        Fit = Lowest;
        fit_min = λ i h. end_lowest (piece i).min;
        fit_max = λ i h. end_lowest (piece i).max;
        fit_at = λ q v k. (crossing_is_cramers (piece q.0) (piece q.1) (long q.0 (omega arith)) (long q.1 v.1) (kind_crosses _ k)).1.lowest;
        less_irr = λ p l. ap is_less (point_itself p);
        less_trans = λ p q r lp lq lr e f. ap is_less (point_trans p q r lp.positive lq.positive lr.positive (less_is _ e) (less_is _ f));
        less_same = less_same;
        before_trans = λ p l i j k hi hj hk. ported_trans piece p l.positive i j (lead i hi) (lead j hj) k (lead k hk);
        before_total = λ p l i j hi hj. ported_total piece p l.positive i j (lead i hi) (lead j hj);
      }
    where
      lead : (i : ℕ) → i < n → Leads (piece i)
      lead i h = leads (piece i) (long i h)
