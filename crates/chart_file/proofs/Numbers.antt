-- One number at a place, by the tests on the way to it, and that no refusal is 0.
use mathlib.Core.Path.{◌≡◌, refl}
use mathlib.Core.Bool.{Bool, true, false, cond, ◌&&◌}
use mathlib.Core.List.{List}
use Prim.Native.Nat.{ℕ, suc, ◌+◌, ◌≤◌, ◌<◌}
use native.Mathlib.Omega.{arith}
use borrow.Author.Tests.{le-leb, lt-leb, lt-ltb, le-ltb}
use lib.Dec.{leb, ltb, eqb}
use lib.IntN.{pos, neg_ℤ}
use lib.ListN.{length, get_or, take, drop}
use Rattle.charts.specs.Chart.{most}
use Rattle.charts.specs.Fault.{range, outside}
use Rattle.chart_file.specs.Found.{Groups, Value, Fault, Read, Refused}
use Rattle.chart_file.specs.Groups.{value, marked, groups_at}
use Rattle.chart_file.specs.Coordinate.{signed_of}
use Rattle.chart_file.specs.Format.{groups}
use Rattle.chart_file.specs.Reading.{limited, count_at, kind_at, turned, coordinate_at}
use Rattle.chart_file.proofs.Turned.{outside_stored}

module _ (s : List ℕ) where
  pub count_refused : (f : ℕ) → groups_at groups s 0 ≡ Fault f → count_at s ≡ Fault f
  unfolding count_at limited
  count_refused f e = rw e

  pub count_many : (n next : ℕ) → groups_at groups s 0 ≡ Value n next → most < n → count_at s ≡ Fault 3
  unfolding count_at limited
  count_many n next e h = rw (e, lt-ltb most n h)

  pub count_few : (n next : ℕ) → groups_at groups s 0 ≡ Value n next → n ≤ most → count_at s ≡ Value n next
  unfolding count_at limited
  count_few n next e h = rw (e, le-ltb most n h)

module _ (s : List ℕ) (at : ℕ) where
  pub kind_due : length s ≤ at → kind_at s at ≡ Refused 1
  unfolding kind_at
  kind_due h = rw (le-leb _ _ h)

  pub kind_wrong : at < length s → 3 < get_or s at 0 → kind_at s at ≡ Refused 4
  unfolding kind_at outside
  kind_wrong h g = rw (lt-leb _ _ h, le-ltb (get_or s at 0) 0 (omega arith), lt-ltb 3 (get_or s at 0) g)

  pub kind_right : at < length s → get_or s at 0 ≤ 3 → kind_at s at ≡ Read (pos (get_or s at 0)) (at + 1)
  unfolding kind_at outside
  kind_right h g = rw (lt-leb _ _ h, le-ltb (get_or s at 0) 0 (omega arith), le-ltb 3 (get_or s at 0) g)

  pub coordinate_fault : (f : ℕ) → groups_at groups s at ≡ Fault f → coordinate_at s at ≡ Refused f
  unfolding coordinate_at turned
  coordinate_fault f e = rw e

  pub coordinate_wrong : (u next : ℕ) → groups_at groups s at ≡ Value u next → 65534 < u → coordinate_at s at ≡ Refused 5
  unfolding coordinate_at turned
  coordinate_wrong u next e g = rw (e, outside_stored u, lt-ltb 65534 u g)

  pub coordinate_right : (u next : ℕ) → groups_at groups s at ≡ Value u next → u ≤ 65534 → coordinate_at s at ≡ Read (signed_of u) next
  unfolding coordinate_at turned
  coordinate_right u next e g = rw (e, outside_stored u, le-ltb 65534 u g)

  pub kind_numbered : (f : ℕ) → kind_at s at ≡ Refused f → 0 < f
  unfolding kind_at
  kind_numbered f = go (leb (length s) at) (outside (pos 0) (pos 3) (pos (get_or s at 0)))
    where
      go : (x y : Bool) → cond x (Refused 1) (cond y (Refused 4) (Read (pos (get_or s at 0)) (at + 1))) ≡ Refused f → 0 < f
      go true y e = let z : 1 ≡ f = cc in omega arith
      go false true e = let z : 4 ≡ f = cc in omega arith
      go false false e = let z : ◌≡◌ {A = ℕ} 0 1 = cc in omega arith

  groups_numbered : (k f : ℕ) → groups_at k s at ≡ Fault f → 0 < f
  unfolding groups_at
  groups_numbered k f = go (leb k (marked (drop at s))) (leb (length (drop at s)) (marked (drop at s))) (ltb 0 (marked (drop at s)) && eqb (get_or (drop at s) (marked (drop at s)) 0) 0)
    where
      go : (x y z : Bool) → cond x (Fault 2) (cond y (Fault 1) (cond z (Fault 2) (Value (value (take (suc (marked (drop at s))) (drop at s))) (at + suc (marked (drop at s)))))) ≡ Fault f → 0 < f
      go true y z e = let q : 2 ≡ f = cc in omega arith
      go false true z e = let q : 1 ≡ f = cc in omega arith
      go false false true e = let q : 2 ≡ f = cc in omega arith
      go false false false e = let q : ◌≡◌ {A = ℕ} 0 1 = cc in omega arith

  pub coordinate_numbered : (f : ℕ) → coordinate_at s at ≡ Refused f → 0 < f
  unfolding coordinate_at turned
  coordinate_numbered f = go (groups_at groups s at) refl
    where
      out : (u next : ℕ) (x : Bool) → cond x (Refused 5) (Read (signed_of u) next) ≡ Refused f → 0 < f
      out u next true e = let q : 5 ≡ f = cc in omega arith
      out u next false e = let q : ◌≡◌ {A = ℕ} 0 1 = cc in omega arith

      go : (g : Groups) → groups_at groups s at ≡ g → turned g ≡ Refused f → 0 < f
      go (Value u next) q e = out u next (outside (neg_ℤ range) range (signed_of u)) e
      go (Fault h) q e = let z : h ≡ f = cc in omega (arith, groups_numbered groups h q)
