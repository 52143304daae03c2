-- What each branch says of the next point.
use mathlib.Core.Path.{◌≡◌, sym, ap, ◌∙◌}
use mathlib.Core.Bool.{Bool, true, false}
use mathlib.Core.List.{List}
use Prim.Native.Nat.{ℕ, ◌<◌, ◌≤◌}
use native.Mathlib.Omega.{arith}
use lib.IntN.{ℤ}
use Rattle.fractions.specs.Point.{point_order}
use Rattle.fractions.specs.declared.Point.{Point}
use Rattle.sweep.specs.Ported.{is_less}
use Rattle.full_lanes.specs.Lanes.{meeting_at, Keyed, LeastLane}
use Rattle.full_lanes.proofs.Least.{not_less_trans}
use Rattle.full_ends.specs.Demand.{standing}
use Rattle.full_next.specs.Next.{Next}

module _ (table : List ℤ) (active lanes : List ℕ) (live key k : ℕ) (K : Keyed table active lanes live) (L : LeastLane table active lanes live k) where
  pub no_lane : live ≤ k → Next table active lanes live key live
  no_lane h = record {
    within = omega arith;
    lane = λ l. absurd (omega arith);
    end = λ _ j i l. absurd (let b = L.none (omega (arith, L.within)) j i in omega arith);
  }

  module _ (h : k < live) {t : Bool} {e : Point} (is : t ≡ is_less (point_order (meeting_at table active k) e)) (at : e ≡ standing key) where
    decided : is_less (point_order (meeting_at table active k) (standing key)) ≡ t
    decided = sym (is ∙ ap (λ (p : Point). is_less (point_order (meeting_at table active k) p)) at)

    pub lane_next : t ≡ true → Next table active lanes live key k
    lane_next y = record { within = omega arith; lane = λ _. (L, decided ∙ y); end = λ z. absurd (omega arith) }

    pub end_next : t ≡ false → Next table active lanes live key live
    end_next y = record {
      within = omega arith;
      lane = λ l. absurd (omega arith);
      end = λ _ j i l.
          not_less_trans _ (meeting_at table active k) (standing key) (K.taken j i l).charted.along.positive (K.taken k h (L.taken h)).charted.along.positive (omega arith)
          (L.least h j i l) (decided ∙ y);
    }
