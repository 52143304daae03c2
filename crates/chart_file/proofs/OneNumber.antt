-- Number c of a piece at a place: it stands there well and in range, or it is refused for one reason.
use mathlib.Core.Path.{◌≡◌, refl, sym, ap, ◌∙◌, subst}
use mathlib.Core.Bool.{Bool, true, false, cond}
use mathlib.Core.List.{List, ◌∷◌, ◌++◌}
use Prim.Native.Nat.{ℕ, zero, suc, ◌+◌, ◌^◌, ◌≤◌, ◌<◌}
use native.Mathlib.Decide.{dec_lt}
use native.Mathlib.Omega.{arith}
use borrow.Author.Tests.{lt-leb, ltb-true, ltb-false}
use lib.IntN.{ℤ, pos, neg_ℤ, nat_abs}
use lib.ListN.{length, get_or, drop, length-drop, drop_of_length-le}
use lib.Seq.{drop-cons}
use Rattle.charts.specs.Fault.{range, outside}
use Rattle.charts.specs.Demand.{Outside}
use Rattle.charts.proofs.Rows.{is_true, is_false, says_outside}
use Rattle.charts.proofs.Ranges.{kind_in}
use Rattle.chart_file.specs.Found.{Groups, Value, Fault, Number, Read, Refused}
use Rattle.chart_file.specs.Groups.{groups_at, spelled, Bytes}
use Rattle.chart_file.specs.Coordinate.{stored, signed_of}
use Rattle.chart_file.specs.Format.{groups, bytes_of}
use Rattle.chart_file.specs.Reading.{kind_at, turned, coordinate_at, stands_at}
use Rattle.chart_file.specs.Demand.{InGroups, number, ends, unended, padded, InRange, Amiss, kind_due, kind, groups_fault, coordinate}
use Rattle.chart_file.proofs.Turned.{signed_stored, stored_signed, outside_stored}
use Rattle.chart_file.proofs.Numbers.{kind_due as kind_absent, kind_right, coordinate_fault, coordinate_wrong, coordinate_right}
use Rattle.chart_file.proofs.AtPlace.{spelled_read}
use Rattle.chart_file.proofs.Marks.{groups_exactly}

pub data Stands (s : List ℕ) (at : ℕ) : ℕ → Number → Type 0 where
  well : (c : ℕ) (v : ℤ) (rest : List ℕ) → InRange c v → drop at s ≡ bytes_of c v ++ rest → Stands s at c (Read v (at + length (bytes_of c v)))
  ill : (c f : ℕ) → Amiss (drop at s) at c f → Stands s at c (Refused f)

module _ (s : List ℕ) (at : ℕ) where
  -- ---- the kind
  here : at < length s → drop at s ≡ get_or s at 0 ∷ drop (suc at) s
  here h = drop-cons s at 0 h

  within : (b : ℕ) (rest : List ℕ) → drop at s ≡ b ∷ rest → (at < length s) × (get_or s at 0 ≡ b)
  within b rest e =
      let h : at < length s = omega (arith, length-drop at s, ap length e) in
      let q : get_or s at 0 ∷ drop (suc at) s ≡ b ∷ rest = sym (here h) ∙ e in
      (h, cc)

  kind_row : Stands s at 0 (kind_at s at)
  unfolding kind_at bytes_of
  kind_row = elim (dec_lt at (length s)) [
    | yes h ↦ rw (lt-leb (length s) at h) (go (outside (pos 0) (pos 3) (pos (get_or s at 0))) refl h)
    | no h ↦ subst (Stands s at 0) (sym (kind_absent s at (omega arith))) (ill 0 1 (kind_due (drop_of_length-le s {i = at} (omega arith))))
  ]
    where
      go : (t : Bool) → outside (pos 0) (pos 3) (pos (get_or s at 0)) ≡ t → at < length s → Stands s at 0 (cond t (Refused 4) (Read (pos (get_or s at 0)) (at + 1)))
      go true e h = ill 0 4 (kind (get_or s at 0) (drop (suc at) s) (here h) ((says_outside (pos 0) (pos 3) (pos (get_or s at 0))).yes e))
      go false e h = well 0 (pos (get_or s at 0)) (drop (suc at) s) ((says_outside (pos 0) (pos 3) (pos (get_or s at 0))).no e) (here h)

  -- ---- a coordinate
  coordinate_row : (c : ℕ) → Bytes s → Stands s at (suc c) (coordinate_at s at)
  unfolding coordinate_at turned bytes_of
  coordinate_row c b = go (groups_at groups s at) ((groups_exactly groups s at (omega arith) b (groups_at groups s at)).0 refl)
    where
      ranged : (t : Bool) (u : ℕ) (rest : List ℕ) → u < 128 ^ groups → drop at s ≡ spelled groups u ++ rest → outside (neg_ℤ range) range (signed_of u) ≡ t
          → Stands s at (suc c) (cond t (Refused 5) (Read (signed_of u) (at + length (spelled groups u))))
      ranged true u rest h e o = ill (suc c) 5 (coordinate c (signed_of u) rest (rw (stored_signed u) h) (rw (stored_signed u) e) ((says_outside (neg_ℤ range) range (signed_of u)).yes o))
      ranged false u rest h e o =
          subst (λ (x : ℕ). Stands s at (suc c) (Read (signed_of u) (at + length (spelled groups x)))) (stored_signed u)
          (well (suc c) (signed_of u) rest ((says_outside (neg_ℤ range) range (signed_of u)).no o) (rw (stored_signed u) e))

      go : (g : Groups) → InGroups groups (drop at s) at g → Stands s at (suc c) (turned g)
      go g (number u rest h e) = ranged (outside (neg_ℤ range) range (signed_of u)) u rest h e refl
      go g (ends n h l m) = ill (suc c) 1 (groups_fault c 1 (ends n h l m))
      go g (unended m) = ill (suc c) 2 (groups_fault c 2 (unended m))
      go g (padded n p h l m z) = ill (suc c) 2 (groups_fault c 2 (padded n p h l m z))

  pub number_row : (c : ℕ) → Bytes s → Stands s at c (stands_at s c at)
  unfolding stands_at
  number_row zero b = kind_row
  number_row (suc c) b = coordinate_row c b

  kind_out : (k : ℕ) → at < length s → get_or s at 0 ≡ k → Outside (pos 0) (pos 3) (pos k) → kind_at s at ≡ Refused 4
  unfolding kind_at
  kind_out k h e o = rw (lt-leb (length s) at h, e, is_true (says_outside (pos 0) (pos 3) (pos k)) o)

  read_there : (u : ℕ) (rest : List ℕ) → u < 128 ^ groups → drop at s ≡ spelled groups u ++ rest → groups_at groups s at ≡ Value u (at + length (spelled groups u))
  read_there u rest h e = spelled_read groups s at u rest (omega arith) h e

  pub number_back : (c : ℕ) (r : Number) → Bytes s → Stands s at c r → stands_at s c at ≡ r
  unfolding stands_at bytes_of
  number_back c r b (well zero v rest h e) =
      let k = kind_in v (is_false (says_outside (pos 0) (pos 3) v) h) in
      let w = within (nat_abs v) rest e in
      kind_right s at w.0 (omega (arith, w.1, k.1)) ∙ ap (λ (n : ℕ). Read (pos n) (at + 1)) w.1 ∙ ap (λ (z : ℤ). Read z (at + 1)) (sym k.0)
  number_back c r b (well (suc d) v rest h e) =
      let u = stored v in
      let l : u ≤ 65534 = ltb-false 65534 u (sym (outside_stored u) ∙ ap (outside (neg_ℤ range) range) (signed_stored v) ∙ is_false (says_outside (neg_ℤ range) range v) h) in
      coordinate_right s at u (at + length (spelled groups u)) (read_there u rest (omega arith) e) l ∙ ap (λ (z : ℤ). Read z (at + length (spelled groups u))) (signed_stored v)
  number_back c r b (ill d f (kind_due e)) = kind_absent s at (omega (arith, length-drop at s, ap length e))
  number_back c r b (ill d f (kind k rest e o)) =
      let w = within k rest e in
      kind_out k w.0 w.1 o
  number_back c r b (ill d f (groups_fault a q g)) = coordinate_fault s at q ((groups_exactly groups s at (omega arith) b (Fault q)).1 g)
  number_back c r b (ill d f (coordinate a v rest h e o)) =
      let u = stored v in
      let l : 65534 < u = ltb-true 65534 u (sym (outside_stored u) ∙ ap (outside (neg_ℤ range) range) (signed_stored v) ∙ is_true (says_outside (neg_ℤ range) range v) o) in
      coordinate_wrong s at u (at + length (spelled groups u)) (read_there u rest h e) l
