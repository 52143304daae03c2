-- A block renewed: how many pieces it has, and that a step does no more than what it says over the arrays.
use mathlib.Core.Path.{◌≡◌, ap, subst, ◌∙◌}
use mathlib.Core.List.{List, ◌++◌}
use mathlib.Core.List.{Memᴰ as In}
use Prim.Native.Nat.{ℕ, ◌+◌, ◌-◌, ◌≤◌}
use native.Mathlib.Omega.{arith}
use lib.IntN.{ℤ}
use lib.ListN.{length, get_or, take, replicate, length-append, length-take, length-replicate}
use lib.Seq.{slice, length-slice, length-take-le, get_or-take}
use Rattle.fractions.specs.declared.Point.{Point}
use Rattle.sweep.specs.Lists.{keep, pairs}
use Rattle.sweep_geometry.specs.Demand.{Proper}
use Rattle.ported_pieces.specs.Table.{piece_in}
use Rattle.full_steps.proofs.Placed.{get_d_in}
use Rattle.full_lanes.specs.Lanes.{no_key, ProperPlaces}
use Rattle.full_list.specs.Listed.{fresh_in, Listed}
use Rattle.full_step.specs.Halves.{InBounds, Turnable, Turned, at_point}
use Rattle.full_step.specs.Whole.{outer_examined, Stepped}
use Rattle.full_step.proofs.Outer.{outer_take}

-- the pieces of an array have some length, where those of its first places do
pub proper_places : (table : List ℤ) (active l : List ℕ) (live : ℕ) → live ≤ length active → take live active ≡ l → ((i : ℕ) → In i l → Proper (piece_in table i)) → ProperPlaces table active live
proper_places table active l live w e f k h =
    f (get_or active k 0)
    (subst (λ (z : List ℕ). In (get_or active k 0) z) e
    (subst (λ (i : ℕ). In i (take live active)) (get_or-take live active k 0 h)
    (get_d_in (take live active) k 0 (omega (arith, length-take-le live active w)))))

module _ (table : List ℤ) (active lanes : List ℕ) (live lo hi : ℕ) (ends : List ℕ) (B : InBounds lo hi active ends) (U : Turnable active lanes live hi ends)
    (new active' lanes₁ : List ℕ) (m : ℕ) (T : Turned active lanes live lo hi new active' lanes₁ m)
    (same : length active' ≡ length active) (beside : length lanes₁ ≡ length lanes) where
  abbrev count : ℕ
  count = lo + m + (live - hi)

  pub turned_fits : count ≤ length active
  turned_fits =
      let front : length (take lo lanes) ≡ lo = length-take-le lo lanes (omega (arith, B.ordered, B.within, U.alike)) in
      let back : length (slice hi live lanes) ≡ live - hi = length-slice hi live lanes (omega (arith, U.fits, U.alike)) in
      omega (
        arith,
        ap length T.lanes_are,
        length-append (take lo lanes) (replicate m no_key ++ slice hi live lanes),
        length-append (replicate m no_key) (slice hi live lanes),
        length-replicate m no_key,
        length-take count lanes₁,
        U.alike,
      )

  pub turned_count : m ≡ length new
  turned_count =
      let front : length (take lo active) ≡ lo = length-take-le lo active (omega (arith, B.ordered, B.within)) in
      let back : length (slice hi live active) ≡ live - hi = length-slice hi live active (omega (arith, U.fits)) in
      let whole : length (take count active') ≡ count = length-take-le count active' (omega (arith, turned_fits)) in
      omega (arith, ap length T.pieces_are, length-append (take lo active) (new ++ slice hi live active), length-append new (slice hi live active))

  pub turned_proper : ((i : ℕ) → In i (take lo active ++ (new ++ slice hi live active)) → Proper (piece_in table i)) → ProperPlaces table active' count
  turned_proper = proper_places table active' _ count (omega (arith, turned_fits)) T.pieces_are

  pub stepped : (q p : Point) (bytes : List ℕ) (end : ℕ) (lanes' bytes' : List ℕ) (to : ℕ)
      → Listed (keep (fresh_in table q) (pairs (at_point lo hi active ends))) bytes end bytes' to
      → lanes' ≡ outer_examined table active' count lo m p lanes₁
      → Stepped table q p active lanes live lo hi ends bytes end active' lanes' bytes' (record { live = count; end = to }) new
  stepped q p bytes end lanes' bytes' to L e =
      record {
        live_is = ap (λ (k : ℕ). lo + k + (live - hi)) turned_count;
        fits = omega (arith, turned_fits);
        pieces_are = T.pieces_are;
        lanes_are =
            ap (take count) e
            ∙ outer_take table active' count lo m p (omega arith) lanes₁
            ∙ ap (outer_examined table active' count lo m p) T.lanes_are
            ∙ ap (λ (k : ℕ). outer_examined table active' count lo k p (take lo lanes ++ (replicate k no_key ++ slice hi live lanes))) turned_count;
        pairs_are = L;
      }
