-- Of two neighbours that cross ahead the one in front is the steeper: so no others need be examined.
use mathlib.Core.Path.{◌≡◌, refl, sym, ap, ◌∙◌}
use mathlib.Core.Logic.{◌≢◌, ⊎_elim}
use mathlib.Core.Bool.{Bool, true, false, cond}
use mathlib.Core.List.{List, [], ◌∷◌}
use mathlib.Core.List.{Memᴰ as In}
use mathlib.Core.Option.{none, some}
use Prim.Native.Nat.{ℕ, zero, suc, ◌+◌, ◌<◌, ◌≤◌}
use native.Mathlib.Omega.{arith}
use lib.IntN.{ℤ}
use lib.ListN.{length, take, get_or}
use lib.Seq.{length-take-le, get_or-take}
use Rattle.fractions.specs.Point.{point_order}
use Rattle.fractions.specs.declared.Point.{Point}
use Rattle.line_segment.specs.Segment.{intersect_of, crossing_of}
use Rattle.sweep.specs.Lists.{Pairwise, lesser_first}
use Rattle.sweep.specs.Chart.{Chart, crosses, at}
use Rattle.sweep.specs.Queue.{beyond}
use Rattle.sweep.specs.Geometry.{Occurs, Under, Geometry}
use Rattle.sweep.specs.Ported.{is_less, kind_of}
use Rattle.sweep.proofs.Occurring.{min_occurs, max_occurs}
use Rattle.sweep.proofs.Ranked.{Ranked, ranked, less_yes, less_no}
use Rattle.sweep.proofs.Between.{Lined, which, bound_some}
use Rattle.sweep.proofs.First.{pair_kind, pair_at_lem}
use Rattle.sweep_geometry.specs.Demand.{AllProper}
use Rattle.sweep_geometry.proofs.Supply.{kind_crosses}
use Rattle.ported_pieces.specs.Table.{piece_in}
use Rattle.full_steps.specs.InPlace.{is_greater_lem, lane}
use Rattle.full_steps.proofs.Placed.{get_d_in}
use Rattle.full_steps.proofs.Sides.{is_less_lem}
use Rattle.full_order.specs.Finer.{finer, finer_order}
use Rattle.full_order.proofs.Promises.{ahead_steeper}
use Rattle.full_lanes.specs.Lanes.{no_key, keyed, pair_at, steeper}
use Rattle.full_lanes.proofs.Promises.{some_open}

-- of two members of a list, by their places
pub at_two : (R : ℕ → ℕ → Type 0) (l : List ℕ) → Pairwise R l → (i j : ℕ) → i < j → j < length l → R (get_or l i 0) (get_or l j 0)
at_two R [] u i j h k = absurd (omega arith)
at_two R (x ∷ l) u i zero h k = absurd (omega arith)
at_two R (x ∷ l) u zero (suc j) h k = u.0 (get_or l j 0) (get_d_in l j 0 (omega arith))
at_two R (x ∷ l) u (suc i) (suc j) h k = at_two R l u.1 i j (omega arith) (omega arith)

module _ (n : ℕ) (table : List ℤ) (ok : AllProper n (piece_in table)) (G : Geometry (finer n (piece_in table))) where
  abbrev C : Chart
  C = finer n (piece_in table)

  abbrev F : Ranked C
  F = ranked C G

  -- l is the last point, and the pieces are active after it
  module _ (pieces : List ℕ) (l : Point) (L : Lined C F pieces (some l)) where
    open F.keyed use {key}

    occurs : Occurs C l
    occurs = L.last_occurs l refl

    under : (i : ℕ) → In i pieces → Under C l i
    under i m =
        let o = L.active_out i m in
        let b = bound_some key l in
        (o.0, less_no C F.keyed l (C.min i) occurs (min_occurs C i o.0) (omega arith), less_yes C F.keyed l (C.max i) occurs (max_occurs C i o.0) (omega arith))

    in_front : (i j : ℕ) → In i pieces → In j pieces → i ≢ j → is_less (finer_order (piece_in table) l i j) ≡ true
        → {c : Point} → lane C (some l) (lesser_first i j) ≡ some c → steeper table i j ≡ true
    unfolding beyond
    in_front i j mi mj ne b e =
        let ui = under i mi in
        let uj = under j mj in
        let o = (some_open n table (some l) (lesser_first i j) e).0 in
        let t : C.test i j ≡ crosses = sym (pair_kind C F i j ui.0 uj.0 ne) ∙ ap kind_of o.crosses in
        let c : at C (lesser_first i j) ≡ crossing_of (piece_in table i) (piece_in table j) = pair_at_lem C F i j ui.0 uj.0 ne t in
        ap is_greater_lem
        (ahead_steeper n (piece_in table) ok l occurs i j ui uj (is_less_lem _ b) (kind_crosses (intersect_of (piece_in table i) (piece_in table j)) t)
        (is_less_lem _ (ap (λ (z : Point). is_less (point_order l z)) (sym c) ∙ o.beyond_last)))

  -- the pieces stand in the first `live` places of an array
  module _ (active : List ℕ) (live : ℕ) (places : live ≤ length active) (l : Point) (L : Lined C F (take live active) (some l)) (k : ℕ) (h : k + 1 < live) where
    long : length (take live active) ≡ live
    long = length-take-le live active places

    piece_at' : (j : ℕ) → j < live → get_or (take live active) j 0 ≡ get_or active j 0
    piece_at' j g = get_or-take live active j 0 g

    pub open_steeper : {c : Point} → lane C (some l) (pair_at active k) ≡ some c → steeper table (get_or active k 0) (get_or active (k + 1) 0) ≡ true
    unfolding pair_at
    open_steeper =
        rw (← piece_at' k (omega arith), ← piece_at' (k + 1) h)
        (in_front (take live active) l L (get_or (take live active) k 0) (get_or (take live active) (k + 1) 0)
        (get_d_in (take live active) k 0 (omega (arith, long))) (get_d_in (take live active) (k + 1) 0 (omega (arith, long)))
        (at_two (λ i j. i ≢ j) (take live active) L.once k (k + 1) (omega arith) (omega (arith, long)))
        (at_two (λ i j. is_less (finer_order (piece_in table) l i j) ≡ true) (take live active) (L.line l refl) k (k + 1) (omega arith) (omega (arith, long))))

    -- so the slope decides nothing that the crossing does not
    pub slope_enough : cond (steeper table (get_or active k 0) (get_or active (k + 1) 0)) (keyed (lane C (some l) (pair_at active k))) no_key ≡ keyed (lane C (some l) (pair_at active k))
    slope_enough =
        ⊎_elim
        (λ (e : lane C (some l) (pair_at active k) ≡ none). rw e (either (steeper table (get_or active k 0) (get_or active (k + 1) 0))))
        (λ (e : (c : Point) × (lane C (some l) (pair_at active k) ≡ some c)). rw (open_steeper e.1))
        (which (lane C (some l) (pair_at active k)))
      where
        either : (t : Bool) → cond t no_key no_key ≡ no_key
        either true = refl
        either false = refl
