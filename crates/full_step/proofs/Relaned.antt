-- The lanes after a step, place by place: below the block and above it those that stood there, none inside it, and the outer
-- ones examined.
use mathlib.Core.Path.{◌≡◌, sym, ap, ◌∙◌}
use mathlib.Core.List.{List, ◌++◌}
use Prim.Native.Nat.{ℕ, ◌+◌, ◌-◌, ◌≤◌, ◌<◌}
use native.Mathlib.Omega.{arith}
use lib.IntN.{ℤ}
use lib.ListN.{length, get_or, take, replicate, length-append, length-replicate, get_or-replicate, get_or-append}
use lib.Seq.{slice, get_or-take, get_or-drop, get_or-append-add, length-take-le, length-slice}
use Rattle.fractions.specs.declared.Point.{Point}
use Rattle.full_lanes.specs.Lanes.{no_key, examined}
use Rattle.full_step.specs.Whole.{lower_examined, outer_examined}
use Rattle.full_step.proofs.Outer.{lower_length, lower_other, lower_at, upper_other, upper_at}

module _ (table : List ℤ) (active' lanes lanes' : List ℕ) (live lo hi m count : ℕ) (p : Point) (ordered : lo ≤ hi) (inside : hi ≤ live) (long : live ≤ length lanes)
    (count_is : count ≡ lo + m + (live - hi))
    (is : take count lanes' ≡ outer_examined table active' count lo m p (take lo lanes ++ (replicate m no_key ++ slice hi live lanes))) where
  abbrev base : List ℕ
  base = take lo lanes ++ (replicate m no_key ++ slice hi live lanes)

  abbrev lower : List ℕ
  lower = lower_examined table active' count lo m p base

  front_long : length (take lo lanes) ≡ lo
  front_long = length-take-le lo lanes (omega arith)

  base_long : length base ≡ count
  base_long =
      omega (
        arith,
        front_long,
        length-append (take lo lanes) (replicate m no_key ++ slice hi live lanes),
        length-append (replicate m no_key) (slice hi live lanes),
        length-replicate m no_key,
        length-slice hi live lanes long,
      )

  lower_long : length lower ≡ count
  lower_long = lower_length table active' count lo m p base ∙ base_long

  -- what stands at a place that is not examined
  base_below : (k : ℕ) → k < lo → get_or base k 0 ≡ get_or lanes k 0
  base_below k h = get_or-append (take lo lanes) _ 0 k (omega (arith, front_long)) ∙ get_or-take lo lanes k 0 h

  base_past : (j : ℕ) → get_or base (lo + j) 0 ≡ get_or (replicate m no_key ++ slice hi live lanes) j 0
  base_past j = ap (λ (z : ℕ). get_or base (z + j) 0) (sym front_long) ∙ get_or-append-add (take lo lanes) _ j 0

  base_inside : (j : ℕ) → j < m → get_or base (lo + j) 0 ≡ no_key
  base_inside j h = base_past j ∙ get_or-append (replicate m no_key) _ 0 j (omega (arith, length-replicate m no_key)) ∙ get_or-replicate m j no_key 0 h

  base_above : (j : ℕ) → hi + j < live → get_or base (lo + (m + j)) 0 ≡ get_or lanes (hi + j) 0
  base_above j h =
      base_past (m + j)
      ∙ ap (λ (z : ℕ). get_or (replicate m no_key ++ slice hi live lanes) (z + j) 0) (sym (length-replicate m no_key))
      ∙ get_or-append-add (replicate m no_key) (slice hi live lanes) j 0
      ∙ get_or-drop hi (take live lanes) j 0
      ∙ get_or-take live lanes (hi + j) 0 h

  at : (k : ℕ) → k < count → get_or lanes' k 0 ≡ get_or (outer_examined table active' count lo m p base) k 0
  at k h = sym (get_or-take count lanes' k 0 h) ∙ ap (λ (l : List ℕ). get_or l k 0) is

  pub at_below : (k : ℕ) → k + 1 < lo → get_or lanes' k 0 ≡ get_or lanes k 0
  at_below k h =
      at k (omega arith)
      ∙ upper_other table active' count lo m p lower k (λ e. absurd (omega arith))
      ∙ lower_other table active' count lo m p base k (λ e. omega arith)
      ∙ base_below k (omega arith)

  pub at_lower : (k : ℕ) → k + 1 ≡ lo → get_or lanes' k 0 ≡ examined table active' count k p
  at_lower k e =
      at k (omega arith)
      ∙ upper_other table active' count lo m p lower k (λ d. omega arith)
      ∙ lower_at table active' count lo m p base k e (omega (arith, base_long))

  pub at_inside : (j : ℕ) → j + 1 < m → get_or lanes' (lo + j) 0 ≡ no_key
  at_inside j h =
      at (lo + j) (omega arith)
      ∙ upper_other table active' count lo m p lower (lo + j) (λ d. absurd (omega arith))
      ∙ lower_other table active' count lo m p base (lo + j) (λ e. omega arith)
      ∙ base_inside j (omega arith)

  pub at_upper : (k : ℕ) → lo ≤ k → k + 1 ≡ lo + m → get_or lanes' k 0 ≡ examined table active' count k p
  at_upper k h e =
      at k (omega arith)
      ∙ upper_at table active' count lo m p lower k e (omega arith) (omega (arith, lower_long))

  pub at_above : (j : ℕ) → hi + j < live → get_or lanes' (lo + (m + j)) 0 ≡ get_or lanes (hi + j) 0
  at_above j h =
      at (lo + (m + j)) (omega arith)
      ∙ upper_other table active' count lo m p lower (lo + (m + j)) (λ d. absurd (omega arith))
      ∙ lower_other table active' count lo m p base (lo + (m + j)) (λ e. omega arith)
      ∙ base_above j h
