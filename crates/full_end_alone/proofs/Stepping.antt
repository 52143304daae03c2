-- Where an end stands alone, its piece that comes in or goes out is the whole step: no pair is new there.
use mathlib.Core.Path.{◌≡◌, refl, sym, ap, ap₂, subst, ◌∙◌}
use mathlib.Core.Bool.{not}
use mathlib.Core.List.{List, [], ◌∷◌, ◌++◌}
use mathlib.Core.List.Memᴰ.{head as here}
use mathlib.Core.List.{Memᴰ as In}
use Prim.Native.Nat.{ℕ, suc, ◌+◌, ◌-◌, ◌≤◌, ◌<◌}
use native.Mathlib.Omega.{arith}
use lib.Dec.{ltb}
use lib.IntN.{ℤ}
use lib.ListN.{length, get_or, take}
use lib.Seq.{slice, slice-cons, slice_empty}
use Rattle.fractions.specs.declared.Point.{Point}
use Rattle.sweep.specs.Lists.{Pair, keep, pairs}
use Rattle.sweep.proofs.Lists.{keep_no}
use Rattle.ported_arrays.specs.Insertion.{back, insert, insert_all}
use Rattle.ported_arrays.specs.Agreement.{flat}
use Rattle.full_active.specs.Ranks.{rises_in, goes_on_in, backwards}
use Rattle.full_list.specs.Listed.{fresh_in, Listed}
use Rattle.full_points.specs.declared.Spot.{Spot}
use Rattle.full_step.specs.Halves.{at_point, new_block}
use Rattle.full_step.specs.Whole.{Steppable, Stepped}
use Rattle.full_end_alone.specs.Alone.{first_of, Coming, Going, Settleable, Settled}

-- one piece has no pair
pairs_one : (i : ℕ) → pairs (insert_all ltb [] (i ∷ [])) ≡ []
unfolding insert_all insert back pairs
pairs_one i = refl

none_listed : (bytes : List ℕ) (end : ℕ) → Listed [] bytes end bytes end
unfolding flat
none_listed bytes end = record { bytes_are = refl; end_is = omega arith }

module _ (table : List ℤ) (q : Point) (lo hi : ℕ) (active ends : List ℕ) where
  -- ---- it comes in
  coming_block : Coming table q lo hi active ends → new_block table q lo hi active ends ≡ first_of ends ∷ []
  unfolding insert_all insert back keep backwards
  coming_block C =
      ap₂ (λ (l : List ℕ) (new : List ℕ). insert_all (rises_in table) [] (keep (goes_on_in table q) (backwards l) ++ new))
      (ap (λ (k : ℕ). slice lo k active) C.none_through ∙ slice_empty lo active) C.starts_alone

  coming_pairs : Coming table q lo hi active ends → keep (fresh_in table q) (pairs (at_point lo hi active ends)) ≡ []
  unfolding keep
  coming_pairs C =
      ap₂ (λ (l : List ℕ) (new : List ℕ). keep (fresh_in table q) (pairs (insert_all ltb [] (l ++ new))))
      (ap (λ (k : ℕ). slice lo k active) C.none_through ∙ slice_empty lo active) C.starts_alone
      ∙ ap (keep (fresh_in table q)) (pairs_one (first_of ends))

  -- ---- it goes out
  one : hi ≡ lo + 1 → hi ≤ length active → slice lo hi active ≡ get_or active lo 0 ∷ []
  one e w =
      let next : suc lo ≡ hi = omega arith in
      slice-cons lo hi active 0 (omega arith) w ∙ ap (λ (l : List ℕ). get_or active lo 0 ∷ l) (ap (λ (k : ℕ). slice k hi active) next ∙ slice_empty hi active)

  going_block : Going table q lo hi active ends → hi ≤ length active → new_block table q lo hi active ends ≡ []
  unfolding insert_all keep backwards
  going_block G w =
      ap₂ (λ (l : List ℕ) (new : List ℕ). insert_all (rises_in table) [] (keep (goes_on_in table q) (backwards l) ++ new)) (one G.one_through w) G.none_starts
      ∙ ap (λ (l : List ℕ). insert_all (rises_in table) [] (l ++ [])) (keep_no (goes_on_in table q) (get_or active lo 0) [] (ap not G.finishes))

  going_pairs : Going table q lo hi active ends → hi ≤ length active → keep (fresh_in table q) (pairs (at_point lo hi active ends)) ≡ []
  unfolding keep
  going_pairs G w =
      ap₂ (λ (l : List ℕ) (new : List ℕ). keep (fresh_in table q) (pairs (insert_all ltb [] (l ++ new)))) (one G.one_through w) G.none_starts
      ∙ ap (keep (fresh_in table q)) (pairs_one (get_or active lo 0))

-- ---- the step can be done so
module _ (table : List ℤ) (lo hi : ℕ) (active lanes : List ℕ) (live : ℕ) (ends : List ℕ) (spot : Spot) (bytes : List ℕ) (end : ℕ)
    (S : Steppable table spot active lanes live lo hi ends bytes end) where
  abbrev q : Point
  q = S.roomy.point

  can_settle : (new : List ℕ) → new_block table q lo hi active ends ≡ new → lo + length new + (live - hi) ≤ length active → Settleable table active lanes live lo hi new
  can_settle new e w =
      record {
        movable = record { inside = S.turnable.inside; within = omega (arith, S.turnable.fits); fits = w; alike = S.turnable.alike };
        proper = λ i m. S.proper i (subst (λ (l : List ℕ). In i (take lo active ++ (l ++ slice hi live active))) (sym e) m);
      }

  pub coming_fits : Coming table q lo hi active ends → (first_of ends < 256) × (live < length active)
  coming_fits C =
      (S.bounds.small (first_of ends) (subst (In (first_of ends)) (sym C.starts_alone) (here refl)), omega (arith, S.turnable.fits, ap length C.starts_alone))

  pub coming_settles : Coming table q lo hi active ends → Settleable table active lanes live lo lo (first_of ends ∷ [])
  coming_settles C =
      subst (λ (k : ℕ). Settleable table active lanes live lo k (first_of ends ∷ [])) C.none_through
      (can_settle (first_of ends ∷ []) (coming_block table q lo hi active ends C) (omega (arith, C.none_through, S.turnable.inside, (coming_fits C).1)))

  pub going_settles : Going table q lo hi active ends → Settleable table active lanes live lo (lo + 1) []
  going_settles G =
      subst (λ (k : ℕ). Settleable table active lanes live lo k []) G.one_through
      (can_settle [] (going_block table q lo hi active ends G S.bounds.within) (omega (arith, G.one_through, S.turnable.inside, S.turnable.fits)))

  -- ---- and then it is done
  module _ (active' lanes' : List ℕ) (live' : ℕ) (same : length active' ≡ length active) (z p : Point) where
    steps : (new : List ℕ) → new_block table z lo hi active ends ≡ new → keep (fresh_in table z) (pairs (at_point lo hi active ends)) ≡ []
        → lo + length new + (live - hi) ≤ length active → Settled table p active lanes live lo hi new active' lanes' live'
        → Stepped table z p active lanes live lo hi ends bytes end active' lanes' bytes (record { live = live'; end = end }) (new_block table z lo hi active ends)
    steps new e d w T =
        subst (λ (l : List ℕ). Stepped table z p active lanes live lo hi ends bytes end active' lanes' bytes (record { live = live'; end = end }) l) (sym e)
        (record {
          live_is = T.live_is;
          fits = omega (arith, T.live_is);
          pieces_are = T.pieces_are;
          lanes_are = T.lanes_are;
          pairs_are = subst (λ (l : List Pair). Listed l bytes end bytes end) (sym d) (none_listed bytes end);
        })

    pub coming_steps : Coming table q lo hi active ends → Coming table z lo hi active ends → Settled table p active lanes live lo lo (first_of ends ∷ []) active' lanes' live'
        → Stepped table z p active lanes live lo hi ends bytes end active' lanes' bytes (record { live = live'; end = end }) (new_block table z lo hi active ends)
    coming_steps C D T =
        steps (first_of ends ∷ []) (coming_block table z lo hi active ends D) (coming_pairs table z lo hi active ends D)
        (omega (arith, C.none_through, S.turnable.inside, (coming_fits C).1))
        (subst (λ (k : ℕ). Settled table p active lanes live lo k (first_of ends ∷ []) active' lanes' live') (sym C.none_through) T)

    pub going_steps : Going table z lo hi active ends → Settled table p active lanes live lo (lo + 1) [] active' lanes' live'
        → Stepped table z p active lanes live lo hi ends bytes end active' lanes' bytes (record { live = live'; end = end }) (new_block table z lo hi active ends)
    going_steps G T =
        steps [] (going_block table z lo hi active ends G S.bounds.within) (going_pairs table z lo hi active ends G S.bounds.within)
        (omega (arith, G.one_through, S.turnable.inside, S.turnable.fits))
        (subst (λ (k : ℕ). Settled table p active lanes live lo k [] active' lanes' live') (sym G.one_through) T)
