-- The numbers of a list put into bytes one by one: each is in range, and what is left to put ends as all of it does.
use mathlib.Core.Path.{◌≡◌, refl, sym, ap, ◌∙◌}
use mathlib.Core.List.{List, [], ◌∷◌, ◌++◌}
use Prim.Native.Nat.{ℕ, zero, suc, ◌+◌, ◌%◌, ◌^◌, ◌≤◌, ◌<◌}
use native.Mathlib.Omega.{arith}
use borrow.Author.Tests.{ltb-false}
use lib.IntN.{ℤ, pos, neg_ℤ, nat_abs}
use lib.ListN.{length, get_or, drop, set, length-append}
use lib.Seq.{sets, length-sets, drop-cons, drop-length}
use Rattle.charts.specs.Fault.{range, outside}
use Rattle.charts.proofs.Rows.{is_false, says_outside}
use Rattle.charts.proofs.Ranges.{kind_in}
use Rattle.charts.proofs.Stores.{sets_append}
use Rattle.chart_file.specs.Groups.{spelled}
use Rattle.chart_file.specs.Coordinate.{stored}
use Rattle.chart_file.specs.Format.{groups, bytes_of, bytes_from}
use Rattle.chart_file.specs.Demand.{InRange}
use Rattle.chart_file.proofs.Turned.{signed_stored, outside_stored}

-- ---- one number

kind_bytes : (c : ℕ) (v : ℤ) → c ≡ 0 → bytes_of c v ≡ nat_abs v ∷ []
unfolding bytes_of
kind_bytes zero v e = refl
kind_bytes (suc c) v e = absurd (omega arith)

pub kind_small : (c : ℕ) (v : ℤ) → c ≡ 0 → InRange c v → (v ≡ pos (nat_abs v)) × (nat_abs v ≤ 3)
kind_small zero v e r = kind_in v (is_false (says_outside (pos 0) (pos 3) v) r)
kind_small (suc c) v e r = absurd (omega arith)

pub coordinate_bytes : (c : ℕ) (v : ℤ) → (c ≡ 0 → ⊥) → bytes_of c v ≡ spelled groups (stored v)
unfolding bytes_of
coordinate_bytes zero v e = absurd (e refl)
coordinate_bytes (suc c) v e = refl

pub coordinate_small : (c : ℕ) (v : ℤ) → (c ≡ 0 → ⊥) → InRange c v → stored v < 128 ^ groups
coordinate_small zero v e r = absurd (e refl)
coordinate_small (suc c) v e r =
    let u = stored v in
    let l : u ≤ 65534 = ltb-false 65534 u (sym (outside_stored u) ∙ ap (outside (neg_ℤ range) range) (signed_stored v) ∙ is_false (says_outside (neg_ℤ range) range v) r) in
    omega arith

-- ---- the numbers of a list

-- from number i on: that number, and those after it
pub one_of : (list : List ℤ) (i : ℕ) → i < length list → bytes_from i (drop i list) ≡ bytes_of (i % 5) (get_or list i (pos 0)) ++ bytes_from (suc i) (drop (suc i) list)
unfolding bytes_from
one_of list i h = rw (drop-cons list i (pos 0) h)

-- i numbers have gone into `before` from a place on, which made it `now`; the others are due at `next`
pub record Rest (list : List ℤ) (at : ℕ) (before : List ℕ) (i next : ℕ) (now : List ℕ) : Type 0 where
  pub place : next + length (bytes_from i (drop i list)) ≡ at + length (bytes_from 0 list)
  pub ends : sets now next (bytes_from i (drop i list)) ≡ sets before at (bytes_from 0 list)
  pub size : length now ≡ length before

pub all_rest : (list : List ℤ) (at : ℕ) (before : List ℕ) → Rest list at before 0 at before
all_rest list at before = record { place = refl; ends = refl; size = refl }

-- whatever led to one state leads on to the other
abbrev pub Onward : List ℤ → ℕ → ℕ → List ℕ → ℕ → ℕ → List ℕ → Type 0
Onward list i next now j next' now' = (at : ℕ) (before : List ℕ) → Rest list at before i next now → Rest list at before j next' now'

module _ (list : List ℤ) (at : ℕ) (before : List ℕ) (i next : ℕ) (now : List ℕ) (w : Rest list at before i next now) where
  abbrev number : ℤ
  number = get_or list i (pos 0)

  room_of : i < length list → at + length (bytes_from 0 list) ≤ length before → next + length (bytes_of (i % 5) number) ≤ length now
  room_of h r = omega (arith, w.place, w.size, ap length (one_of list i h), length-append (bytes_of (i % 5) number) (bytes_from (suc i) (drop (suc i) list)))

  rest_of : i < length list → (j next' : ℕ) (now' : List ℕ) → j ≡ suc i → next' ≡ next + length (bytes_of (i % 5) number) → now' ≡ sets now next (bytes_of (i % 5) number)
      → Rest list at before j next' now'
  rest_of h j next' now' e p q = record {
    place = rw e (omega (arith, p, w.place, ap length (one_of list i h), length-append (bytes_of (i % 5) number) (bytes_from (suc i) (drop (suc i) list))));
    ends = rw (e, p, q, ← sets_append) (rw (one_of list i h) at w.ends);
    size = ap length q ∙ length-sets now next (bytes_of (i % 5) number) ∙ w.size;
  }

  -- a kind has room where all numbers have, and goes out
  pub kind_room : i % 5 ≡ 0 → i < length list → at + length (bytes_from 0 list) ≤ length before → next < length now
  kind_room c h r = omega (arith, room_of h r, ap length (kind_bytes (i % 5) number c))

  pub kind_rest : i % 5 ≡ 0 → i < length list → (j : ℕ) → j ≡ suc i → Rest list at before j (next + 1) (set now next (nat_abs number))
  kind_rest c h j e =
      let b = kind_bytes (i % 5) number c in
      rest_of h j (next + 1) (set now next (nat_abs number)) e (rw b refl) (rw b refl)

  -- and so a coordinate
  pub coordinate_room : (i % 5 ≡ 0 → ⊥) → i < length list → at + length (bytes_from 0 list) ≤ length before → next + length (spelled groups (stored number)) ≤ length now
  coordinate_room c h r = omega (arith, room_of h r, ap length (coordinate_bytes (i % 5) number c))

  pub coordinate_rest : (i % 5 ≡ 0 → ⊥) → i < length list → (j next' : ℕ) (now' : List ℕ) → j ≡ suc i
      → next' ≡ next + length (spelled groups (stored number)) → now' ≡ sets now next (spelled groups (stored number)) → Rest list at before j next' now'
  coordinate_rest c h j next' now' e p q =
      let b = coordinate_bytes (i % 5) number c in
      rest_of h j next' now' e (rw b p) (rw b q)

  -- none is left
  pub no_rest : i ≡ length list → (next ≡ at + length (bytes_from 0 list)) × (now ≡ sets before at (bytes_from 0 list))
  unfolding bytes_from
  no_rest e =
      let d : drop i list ≡ [] = rw e (drop-length list) in
      (omega (arith, rw d at w.place), rw d at w.ends)
