-- Where two pieces of a chart cross is within its bounds, by Cramer's rule and not in lowest terms; and so is every end.
use mathlib.Core.Path.{◌≡◌, refl, sym, subst}
use mathlib.Core.List.{[], ◌∷◌}
use Prim.Native.Nat.{ℕ, ◌<◌, ◌^◌}
use native.Mathlib.Nat.{pos_of_div-pos}
use native.Mathlib.Omega.{arith}
use lib.IntN.{ℤ, pos, negsuc, neg_ℤ, nat_abs, ◌+ℤ◌, ◌-ℤ◌, ◌*ℤ◌}
use lib.Signed.{◌≤ℤ◌, ◌<ℤ◌}
use mir.Syntax.{w16}
use mir.Val.{SFits}
use Rattle.integers.specs.Size.{Small}
use Rattle.integers.proofs.Factors.{n/p, p/p}
use Rattle.integers.proofs.Identity.{terms}
use Rattle.integers.proofs.Machine.{m_bound}
use Rattle.integers.proofs.Naturals.{pos-<, pos-≤}
use Rattle.integers.proofs.Order.{≤_cert, <_cert, ≡→≤, ≤_antisym, <→≢}
use Rattle.integers.proofs.Signs.{≤_diff, <_diff, diff-≡, <→≤, n+n, n+p, n*n, p*p, z→n, nat}
use Rattle.integers.proofs.Sizes.{small_lo, small_hi, small_of}
use Rattle.integers.proofs.Tests.{sized}
use Rattle.fractions.specs.Point.{point_order, lowest_of}
use Rattle.std.specs.declared.cmp.Ordering.{Ordering}
use Rattle.std.specs.declared.cmp.Ordering.TheVariants.{Greater}
use Rattle.fractions.specs.declared.Point.{Point}
use Rattle.fractions.proofs.Points.{Places, left, below, same, above, right, places}
use Rattle.line_segment.specs.declared.LineSegment.{LineSegment}
use Rattle.line_segment.specs.declared.Meeting.TheVariants.{Crossing}
use Rattle.line_segment.specs.Geometry.{run, rise, side, LiesOn}
use Rattle.line_segment.specs.Piece.{point_of}
use Rattle.line_segment.specs.Segment.{intersect_of, over, cramer_of, crossing_of}
use Rattle.line_segment.proofs.Along.{Leads, rightward, upward, leads}
use Rattle.line_segment.proofs.CramersPoint.{crossing_same}
use Rattle.line_segment.proofs.Lying.{not_after, same_lies}
use Rattle.line_segment.proofs.Promises.{crossing_is_cramers}
use Rattle.sweep_geometry.specs.Demand.{Proper}
use Rattle.full_points.specs.Spot.{Charted, ChartPoint}
use Rattle.full_points.proofs.Spots.{from_least, up_to_most}

-- ---- a point at most another, by x, and where x is the same by y
module _ (p q : Point) where
  at_most_x : ¬ (point_order p q ≡ Greater) → (p.x *ℤ pos q.d) ≤ℤ (q.x *ℤ pos p.d)
  at_most_x = go (places p q)
    where
      go : {o : Ordering} → Places p q o → ¬ (o ≡ Greater) → (p.x *ℤ pos q.d) ≤ℤ (q.x *ℤ pos p.d)
      go (left h) f = <→≤ h
      go (below e h) f = ≡→≤ e
      go (same e h) f = ≡→≤ e
      go (above e h) f = absurd (f refl)
      go (right h) f = absurd (f refl)

  at_most_y : p.x *ℤ pos q.d ≡ q.x *ℤ pos p.d → ¬ (point_order p q ≡ Greater) → (p.y *ℤ pos q.d) ≤ℤ (q.y *ℤ pos p.d)
  at_most_y e = go (places p q)
    where
      go : {o : Ordering} → Places p q o → ¬ (o ≡ Greater) → (p.y *ℤ pos q.d) ≤ℤ (q.y *ℤ pos p.d)
      go (left h) f = absurd (<→≢ h e)
      go (below _ h) f = <→≤ h
      go (same _ h) f = ≡→≤ h
      go (above _ h) f = absurd (f refl)
      go (right h) f = absurd (f refl)

-- ---- a coordinate between those of two ends
module _ (x : ℤ) (d : ℕ) (up : 0 < d) (small : d < 2 ^ 33) where
  sized_by : pos 0 ≤ℤ (x +ℤ pos 32768 *ℤ pos d) → (x +ℤ pos 32768 *ℤ pos d) <ℤ (pos 65536 *ℤ pos d) → nat_abs x < 2 ^ 48
  sized_by h k =
      let s : Small 281474976677888 x = small_of (lo (pos d) h (pos-≤ {m = d} {n = 8589934591} (omega arith))) (hi (pos d) k (pos-≤ {m = d} {n = 8589934591} (omega arith))) in
      omega (arith, s.small)
    where
      lo : (D : ℤ) → pos 0 ≤ℤ (x +ℤ pos 32768 *ℤ D) → D ≤ℤ pos 8589934591 → neg_ℤ (pos 281474976677888) ≤ℤ x
      lo D h k = ≤_cert (x ∷ D ∷ []) (n+n h (n*n (nat 32768) (≤_diff k))) (search terms depth 60 fits 20000) tt

      hi : (D : ℤ) → (x +ℤ pos 32768 *ℤ D) <ℤ (pos 65536 *ℤ D) → D ≤ℤ pos 8589934591 → x ≤ℤ pos 281474976677888
      hi D h k = ≤_cert (x ∷ D ∷ []) (n+n (<→≤ (<_diff h)) (n*n (nat 32768) (≤_diff k))) (search terms depth 60 fits 20000) tt

  charted_by : pos 0 ≤ℤ (x +ℤ pos 32768 *ℤ pos d) → (x +ℤ pos 32768 *ℤ pos d) <ℤ (pos 65536 *ℤ pos d) → Charted x d
  charted_by h k = record { positive = up; small = small; size = sized_by h k; from = h; upto = k }

  pub charted_between : {m M : ℤ} → Small 32767 m → Small 32767 M → (m *ℤ pos d) ≤ℤ (x *ℤ pos 1) → (x *ℤ pos 1) ≤ℤ (M *ℤ pos d) → Charted x d
  charted_between {m} {M} sm sM h k = charted_by (lo m (pos d) (pos-< up) sm h) (hi M (pos d) (pos-< up) sM k)
    where
      lo : (m D : ℤ) → pos 0 <ℤ D → Small 32767 m → (m *ℤ D) ≤ℤ (x *ℤ pos 1) → pos 0 ≤ℤ (x +ℤ pos 32768 *ℤ D)
      lo m D u s h = ≤_cert (x ∷ m ∷ D ∷ []) (n+n (≤_diff h) (n+n (n*n (≤_diff (small_lo s)) (<→≤ u)) (<→≤ u))) (search terms depth 60 fits 20000) tt

      hi : (M D : ℤ) → pos 0 <ℤ D → Small 32767 M → (x *ℤ pos 1) ≤ℤ (M *ℤ D) → (x +ℤ pos 32768 *ℤ D) <ℤ (pos 65536 *ℤ D)
      hi M D u s h = <_cert (x ∷ M ∷ D ∷ []) (n+p (≤_diff h) (n+p (n*n (≤_diff (small_hi s)) (<→≤ u)) u)) (search terms depth 60 fits 20000) tt

  -- y along a piece that runs: between those of its ends as x is
  along_piece : (X m n M N : ℤ) → Small 32767 n → Small 32767 N → pos 0 <ℤ (M -ℤ m) → (m *ℤ pos d) ≤ℤ (X *ℤ pos 1) → (X *ℤ pos 1) ≤ℤ (M *ℤ pos d)
      → (M -ℤ m) *ℤ (x -ℤ n *ℤ pos d) -ℤ (N -ℤ n) *ℤ (X -ℤ m *ℤ pos d) ≡ pos 0 → Charted x d
  along_piece X m n M N sn sN r h k e = charted_by (lo (pos d) (pos-< up) h k e) (hi (pos d) (pos-< up) h k e)
    where
      lo : (D : ℤ) → pos 0 <ℤ D → (m *ℤ D) ≤ℤ (X *ℤ pos 1) → (X *ℤ pos 1) ≤ℤ (M *ℤ D) → (M -ℤ m) *ℤ (x -ℤ n *ℤ D) -ℤ (N -ℤ n) *ℤ (X -ℤ m *ℤ D) ≡ pos 0
          → pos 0 ≤ℤ (x +ℤ pos 32768 *ℤ D)
      lo D u h k e =
          n/p (x +ℤ pos 32768 *ℤ D) r
          (≤_cert (x ∷ X ∷ m ∷ n ∷ M ∷ N ∷ D ∷ [])
          (n+n (z→n e)
          (n+n (n+n (n*n (≤_diff (small_lo sn)) (≤_diff k)) (n*n (≤_diff (small_lo sN)) (≤_diff h))) (n*n (<→≤ r) (<→≤ u))))
          (search terms depth 60 fits 20000) tt)

      hi : (D : ℤ) → pos 0 <ℤ D → (m *ℤ D) ≤ℤ (X *ℤ pos 1) → (X *ℤ pos 1) ≤ℤ (M *ℤ D) → (M -ℤ m) *ℤ (x -ℤ n *ℤ D) -ℤ (N -ℤ n) *ℤ (X -ℤ m *ℤ D) ≡ pos 0
          → (x +ℤ pos 32768 *ℤ D) <ℤ (pos 65536 *ℤ D)
      hi D u h k e =
          <_cert (x ∷ D ∷ [])
          (p/p (pos 32768 *ℤ D -ℤ x) r
          (<_cert (x ∷ X ∷ m ∷ n ∷ M ∷ N ∷ D ∷ [])
          (n+p (z→n (neg_zero e))
          (n+p (n+n (n*n (≤_diff (small_hi sn)) (≤_diff k)) (n*n (≤_diff (small_hi sN)) (≤_diff h))) (p*p r u)))
          (search terms depth 60 fits 20000) tt))
          (search terms depth 60 fits 20000) tt
        where
          neg_zero : {z : ℤ} → z ≡ pos 0 → neg_ℤ z ≡ pos 0
          neg_zero e i = neg_ℤ (e i)

-- ---- a coordinate of an end
pub end_charted : (x : ℤ) → SFits w16 x → Charted x 1
end_charted x h = charted_by x 1 (omega arith) (omega arith) (from_least h) (up_to_most h)

-- ---- a point on a piece
module _ (s : LineSegment) (h : Proper s) (p : Point) (up : 0 < p.d) (small : p.d < 2 ^ 33) (on : LiesOn s p) where
  lies_charted : ChartPoint p
  unfolding point_of side run rise
  lies_charted =
      let a = at_most_x (point_of s.min) p (not_after _ _ on.from) in
      let b = at_most_x p (point_of s.max) (not_after _ _ on.upto) in
      record { along = charted_between p.x p.d up small h.charted.min_x h.charted.max_x a b; up = go (leads s h.length) }
    where
      go : Leads s → Charted p.y p.d
      go (rightward r) =
          along_piece p.y p.d up small p.x s.min.x s.min.y s.max.x s.max.y h.charted.min_y h.charted.max_y r
          (at_most_x (point_of s.min) p (not_after _ _ on.from)) (at_most_x p (point_of s.max) (not_after _ _ on.upto)) on.line
      go (upward z r) =
          let a = at_most_x (point_of s.min) p (not_after _ _ on.from) in
          let b = at_most_x p (point_of s.max) (not_after _ _ on.upto) in
          let one : s.min.x ≡ s.max.x = diff-≡ s.min.x s.max.x z in
          let e = ≤_antisym a (subst (λ (z : ℤ). (p.x *ℤ pos 1) ≤ℤ (z *ℤ pos p.d)) (sym one) b) in
          let f = ≤_antisym b (subst (λ (z : ℤ). (z *ℤ pos p.d) ≤ℤ (p.x *ℤ pos 1)) one a) in
          charted_between p.y p.d up small h.charted.min_y h.charted.max_y
          (at_most_y (point_of s.min) p e (not_after _ _ on.from)) (at_most_y p (point_of s.max) f (not_after _ _ on.upto))

-- ---- Cramer's point
over_small : (x y z : ℤ) → Small 8589410312 z → (over x y z).d < 2 ^ 33
unfolding over
over_small x y (pos d) s = omega (arith, s.small)
over_small x y (negsuc d) s = omega (arith, s.small)

module _ (a b : LineSegment) (pa : Proper a) (pb : Proper b) where
  cramer_small : (cramer_of a b).d < 2 ^ 33
  unfolding cramer_of run rise
  cramer_small =
      let ha = pa.charted in
      let hb = pb.charted in
      let ax = ha.min_x in let ay = ha.min_y in let au = ha.max_x in let av = ha.max_y in
      let bx = hb.min_x in let by = hb.min_y in let bu = hb.max_x in let bv = hb.max_y in
      let s : Small 8589410312 ((a.max.x -ℤ a.min.x) *ℤ (b.max.y -ℤ b.min.y) -ℤ (a.max.y -ℤ a.min.y) *ℤ (b.max.x -ℤ b.min.x)) = m_bound (search sized depth 60 fits 20000) tt in
      over_small _ _ _ s

  cramer_above : intersect_of a b ≡ Crossing → 0 < (cramer_of a b).d
  unfolding crossing_of lowest_of
  cramer_above e = pos_of_div-pos _ (crossing_is_cramers a b pa.length pb.length e).1.lowest.positive

  pub cramer_charted : intersect_of a b ≡ Crossing → ChartPoint (cramer_of a b)
  cramer_charted e =
      let o = (crossing_is_cramers a b pa.length pb.length e).1 in
      lies_charted a pa (cramer_of a b) (cramer_above e) cramer_small
      (same_lies a (crossing_of a b) (cramer_of a b) o.lowest.positive (cramer_above e) (crossing_same a b) o.common.first)
