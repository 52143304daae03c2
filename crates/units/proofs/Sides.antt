-- The whole unit not above a fraction and the one not below it, from a whole part and a rest.
-- Assumes nothing.
use mathlib.Core.Path.{◌≡◌, refl, sym, subst, ◌∙◌}
use Prim.Native.Nat.{ℕ, zero, suc, ◌*◌, ◌<◌, ◌≤◌}
use native.Mathlib.Nat.{zero-lt-suc}
use native.Mathlib.Omega.{arith}
use lib.Dec.{lit<}
use lib.IntN.{ℤ, pos, neg_ℤ, nat_abs, ◌+ℤ◌, ◌*ℤ◌}
use lib.Signed.{◌≤ℤ◌, ◌<ℤ◌}
use Rattle.integers.specs.Size.{Small}
use Rattle.integers.proofs.Signs.{nat}
use Rattle.integers.proofs.Order.{Tri, less, same, more, tri, ≤_antisym, ≮→≥}
use Rattle.integers.proofs.Factors.{*_mono-≤}
use Rattle.integers.proofs.Sizes.{small_of, small_lo, small_hi, abs_neg}
use Rattle.integers.proofs.Linear.{linear, unknown, ≤_fact, <_fact, ≡_fact, ≤_goal, <_goal, ≡_goal}
use Rattle.units.specs.Units.{low_of, high_of, units_of, Divided}
use Rattle.units.specs.Demand.{Low, LowExactly, High, HighExactly, EqualWhenWhole, NoneBetween, WholeStays, StaysWithin}
use Rattle.units.proofs.Division.{divided}

-- so much and one more, times d
step : {v w : ℤ} (d : ℕ) → v <ℤ w → ((v +ℤ pos 1) *ℤ pos d) ≤ℤ (w *ℤ pos d)
step {v} {w} d h =
    let v' = unknown v in let w' = unknown w in
    *_mono-≤ (v +ℤ pos 1) w (nat d) (≤_goal (search linear depth 60 fits 20000) (omega (arith, <_fact h (search linear depth 60 fits 20000))))

-- ---- a unit, of a whole part and a rest
pub low_of_lem : {x w : ℤ} {d r : ℕ} → Divided x d w r → Low x d w
low_of_lem {x} {w} {d} {r} h =
    let x' = unknown x in let w' = unknown w in
    let e = ≡_fact h.is (search linear depth 60 fits 20000) in
    let l = h.rest_below in
    record { not_above = ≤_goal (search linear depth 60 fits 20000) (omega arith); greatest = <_goal (search linear depth 60 fits 20000) (omega arith) }

pub high_even : {x w : ℤ} {d : ℕ} → Divided x d w 0 → High x d w
high_even {x} {w} {d} h =
    let x' = unknown x in let w' = unknown w in
    let e = ≡_fact h.is (search linear depth 60 fits 20000) in
    let l = h.rest_below in
    record { not_below = ≤_goal (search linear depth 60 fits 20000) (omega arith); least = <_goal (search linear depth 60 fits 20000) (omega arith) }

pub high_next : {x w : ℤ} {d r : ℕ} → Divided x d w r → 0 < r → High x d (w +ℤ pos 1)
high_next {x} {w} {d} {r} h p =
    let x' = unknown x in let w' = unknown w in
    let e = ≡_fact h.is (search linear depth 60 fits 20000) in
    let l = h.rest_below in
    record { not_below = ≤_goal (search linear depth 60 fits 20000) (omega arith); least = <_goal (search linear depth 60 fits 20000) (omega arith) }

-- turned round
turned : {x w : ℤ} {d : ℕ} → Low (neg_ℤ x) d w → High x d (neg_ℤ w)
turned {x} {w} {d} h =
    let x' = unknown x in let w' = unknown w in
    let a = ≤_fact h.not_above (search linear depth 60 fits 20000) in
    let b = <_fact h.greatest (search linear depth 60 fits 20000) in
    record { not_below = ≤_goal (search linear depth 60 fits 20000) (omega arith); least = <_goal (search linear depth 60 fits 20000) (omega arith) }

-- ---- and only one
module _ (x : ℤ) (d : ℕ) where
  low_not_less : (v w : ℤ) → Low x d v → Low x d w → ¬ (v <ℤ w)
  low_not_less v w h k l =
      let x' = unknown x in let v' = unknown v in let w' = unknown w in
      let s = ≤_fact (step d l) (search linear depth 60 fits 20000) in
      omega (arith, <_fact h.greatest (search linear depth 60 fits 20000), ≤_fact k.not_above (search linear depth 60 fits 20000))

  high_not_less : (v w : ℤ) → High x d v → High x d w → ¬ (v <ℤ w)
  high_not_less v w h k l =
      let x' = unknown x in let v' = unknown v in let w' = unknown w in
      let s = ≤_fact (step d l) (search linear depth 60 fits 20000) in
      omega (arith, ≤_fact h.not_below (search linear depth 60 fits 20000), <_fact k.least (search linear depth 60 fits 20000))

  only : (R : ℤ → Type 0) → ((v w : ℤ) → R v → R w → ¬ (v <ℤ w)) → (v w : ℤ) → R v → R w → v ≡ w
  only R f v w h k = go (tri v w)
    where
      go : Tri v w → v ≡ w
      go (less l) = absurd (f v w h k l)
      go (same e) = e
      go (more g) = absurd (f w v k h g)

  pub only_low : (v w : ℤ) → Low x d v → Low x d w → v ≡ w
  only_low = only (Low x d) low_not_less

  pub only_high : (v w : ℤ) → High x d v → High x d w → v ≡ w
  only_high = only (High x d) high_not_less

pub low_is : (x : ℤ) (d : ℕ) → 0 < d → Low x d (low_of x d)
low_is x d h = low_of_lem (divided x d h).1

pub high_is : (x : ℤ) (d : ℕ) → 0 < d → High x d (high_of x d)
unfolding high_of
high_is x d h = turned (low_is (neg_ℤ x) d h)

-- ---- what is promised
pub low_exactly : LowExactly
low_exactly x d h w = (λ e. subst (Low x d) e (low_is x d h), λ k. only_low x d (low_of x d) w (low_is x d h) k)

pub high_exactly : HighExactly
high_exactly x d h w = (λ e. subst (High x d) e (high_is x d h), λ k. only_high x d (high_of x d) w (high_is x d h) k)

pub equal_when_whole : EqualWhenWhole
equal_when_whole x d h = (there, back)
  where
    there : low_of x d ≡ high_of x d → (w : ℤ) × (x ≡ w *ℤ pos d)
    there e =
        let l = low_is x d h in
        let u = subst (High x d) (sym e) (high_is x d h) in
        (low_of x d, ≤_antisym u.not_below l.not_above)

    back : (w : ℤ) × (x ≡ w *ℤ pos d) → low_of x d ≡ high_of x d
    back (w, e) =
        let w' = unknown w in
        let p : Divided x d w 0 = record { is = e ∙ ≡_goal (search linear depth 60 fits 20000) (omega arith); rest_below = h } in
        only_low x d (low_of x d) w (low_is x d h) (low_of_lem p) ∙ only_high x d w (high_of x d) (high_even p) (high_is x d h)

pub none_between : NoneBetween
none_between x d h v l u =
    let x' = unknown x in let v' = unknown v in let a' = unknown (low_of x d) in let b' = unknown (high_of x d) in
    let s = ≤_fact (step d l) (search linear depth 60 fits 20000) in
    let t = ≤_fact (step d u) (search linear depth 60 fits 20000) in
    omega (arith, <_fact (low_is x d h).greatest (search linear depth 60 fits 20000), <_fact (high_is x d h).least (search linear depth 60 fits 20000))

pub whole_stays : WholeStays
whole_stays x =
    let x' = unknown x in
    let p : Divided x 1 x 0 = record { is = ≡_goal (search linear depth 60 fits 20000) (omega arith); rest_below = lit< tt } in
    (only_low x 1 (low_of x 1) x (low_is x 1 (lit< tt)) (low_of_lem p), only_high x 1 (high_of x 1) x (high_is x 1 (lit< tt)) (high_even p))

-- no larger than a whole number that x / d does not pass
module _ (x : ℤ) (d m : ℕ) (w : ℤ) (p : 0 < d) (h : Low x d w) (k : Small (m * d) x) where
  not_over : ¬ (pos m <ℤ w)
  not_over l =
      let x' = unknown x in let w' = unknown w in
      let a = ≤_fact h.not_above (search linear depth 60 fits 20000) in
      let b = ≤_fact (step d l) (search linear depth 60 fits 20000) in
      omega (arith, ≤_fact (small_hi k) (search linear depth 60 fits 20000))

  not_under : ¬ (w <ℤ neg_ℤ (pos m))
  not_under l =
      let x' = unknown x in let w' = unknown w in
      let a = <_fact h.greatest (search linear depth 60 fits 20000) in
      let b = ≤_fact (step d l) (search linear depth 60 fits 20000) in
      omega (arith, ≤_fact (small_lo k) (search linear depth 60 fits 20000))

low_within : (x : ℤ) (d m : ℕ) → nat_abs x ≤ m * d → nat_abs (low_of x d) ≤ m
unfolding low_of
low_within x zero m k = omega arith
low_within x (suc d) m k =
    let h = low_is x (suc d) (zero-lt-suc d) in
    let s : Small (m * suc d) x = record { small = k } in
    (small_of (≮→≥ (not_under x (suc d) m _ (zero-lt-suc d) h s)) (≮→≥ (not_over x (suc d) m _ (zero-lt-suc d) h s))).small

pub stays_within : StaysWithin
unfolding high_of
stays_within x d m k = (low_within x d m k, rw abs_neg (low_within (neg_ℤ x) d m (rw abs_neg k)))

-- ---- what the code answers
pub none_under : (x : ℤ) (d : ℕ) → d ≡ 0 → record { low = pos 0; high = pos 0 } ≡ units_of x d
unfolding low_of high_of units_of
none_under x d e = rw e refl

pub are_units : (x l h : ℤ) (d : ℕ) → 0 < d → Low x d l → High x d h → record { low = l; high = h } ≡ units_of x d
unfolding units_of
are_units x l h d p a b = rw (only_low x d l (low_of x d) a (low_is x d p), only_high x d h (high_of x d) b (high_is x d p))
