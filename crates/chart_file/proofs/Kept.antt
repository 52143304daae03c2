-- The list that the reader of pieces fills: what stands there after each number and each piece, and what each way out leaves.
use mathlib.Core.Path.{◌≡◌, refl, sym, ap, ◌∙◌}
use mathlib.Core.Bool.{true, false}
use mathlib.Core.List.{List, [], ◌∷◌, ◌++◌}
use Prim.Native.Nat.{ℕ, suc, ◌+◌, ◌*◌, ◌≤◌, ◌<◌}
use native.Mathlib.Numerals.{add-one}
use native.Mathlib.Omega.{arith}
use lib.IntN.{ℤ, pos}
use lib.ListN.{length, get_or, set, take}
use lib.Seq.{take-suc-set, length-take-le, take_all}
use Rattle.std.proofs.Common.{append_assoc, append-nil}
use Rattle.std.proofs.lemmas.List.{get_or-append-add}
use Rattle.std.specs.Prelude.{Option, Some, None, Err}
use Rattle.std.specs.Option.{is_some}
use Rattle.charts.specs.declared.Reason.{Reason}
use Rattle.charts.specs.declared.Reason.TheVariants.{NoLength}
use Rattle.charts.specs.declared.Refusal.{Refusal}
use Rattle.charts.specs.Refusal.{number, fault_number}
use Rattle.charts.specs.Fault.{fault_of}
use Rattle.charts.specs.Chart.{most, number_at, fault_at}
use Rattle.charts.proofs.Refusals.{numbered}
use Rattle.chart_file.specs.Found.{Read, Refused}
use Rattle.chart_file.specs.Reading.{Reading, due, stopped, stands_at, kind_at, coordinate_at, numbers, pieces, Left}
use Rattle.chart_file.proofs.Steps.{number_read, piece_read, piece_short, pieces_stay, refused_stays}

left_stopped : (n : ℕ) (w : Reading) (list : List ℤ) (reason : Reason) (place : ℕ) (r : Refusal) → w ≡ stopped (number reason) place
    → r ≡ record { reason = reason; place = place } → length list ≡ 5 * most → Left n w (Err r) list
left_stopped n w list reason place r e q l = rw (e, q) (refl, l)

-- ---- a fault asked of the five numbers

no_fault : (o : Option Reason) → is_some o ≡ false → fault_number o ≡ 0
no_fault None e = refl
no_fault (Some reason) e = cc

some_fault : (o : Option Reason) → is_some o ≡ true → fault_number o ≡ 0 → ⊥
some_fault None e = cc
some_fault (Some reason) e = numbered reason

-- the kind, and the four coordinates as they are stored
pub record Five (k : ℤ) (ends : List ℤ) (a b c d e : ℤ) : Type 0 where
  pub kind : a ≡ k
  pub first_x : b ≡ get_or ends 0 (pos 0)
  pub first_y : c ≡ get_or ends 1 (pos 0)
  pub second_x : d ≡ get_or ends 2 (pos 0)
  pub second_y : e ≡ get_or ends 3 (pos 0)

five_are : (k : ℤ) (ends : List ℤ) (a b c d e : ℤ) → length ends ≡ 4 → Five k ends a b c d e → (k ∷ []) ++ ends ≡ a ∷ b ∷ c ∷ d ∷ e ∷ []
five_are k (x ∷ y ∷ z ∷ w ∷ []) a b c d e h f = rw (f.kind, f.first_x, f.first_y, f.second_x, f.second_y)
five_are k [] a b c d e h f = absurd (omega arith)
five_are k (x ∷ []) a b c d e h f = absurd (omega arith)
five_are k (x ∷ y ∷ []) a b c d e h f = absurd (omega arith)
five_are k (x ∷ y ∷ z ∷ []) a b c d e h f = absurd (omega arith)
five_are k (x ∷ y ∷ z ∷ w ∷ v ∷ vs) a b c d e h f = absurd (omega arith)

last_fault : (xs : List ℤ) (p : ℕ) (a b c d e : ℤ) → length xs ≡ 5 * p → fault_at (xs ++ (a ∷ b ∷ c ∷ d ∷ e ∷ [])) p ≡ fault_of a b c d e
unfolding fault_at number_at
last_fault xs p a b c d e h =
    let five = a ∷ b ∷ c ∷ d ∷ e ∷ [] in
    rw (← h, get_or-append-add xs five 0 (pos 0), get_or-append-add xs five 1 (pos 0), get_or-append-add xs five 2 (pos 0), get_or-append-add xs five 3 (pos 0), get_or-append-add xs five 4 (pos 0))

-- ---- p pieces are read into the front of the list

module _ (s : List ℕ) (from n p : ℕ) (list : List ℤ) (start : ℕ) (l : length list ≡ 5 * most) (h : p < n) (read : pieces s from p ≡ due (take (5 * p) list) start) where
  abbrev front : List ℤ
  front = take (5 * p) list

  pub kind_kept : (v : ℤ) (next : ℕ) → Read v next ≡ kind_at s start → numbers s 1 (pieces s from p) ≡ due (front ++ (v ∷ []) ++ []) next
  unfolding numbers stands_at
  kind_kept v next e = rw append-nil (number_read s 0 (pieces s from p) front start v next read (sym e))

  pub kind_ends : (reason : Reason) (r : Refusal) → Refused (number reason) ≡ kind_at s start → r ≡ record { reason = reason; place = start } → Left n (pieces s from n) (Err r) list
  unfolding numbers stands_at
  kind_ends reason r e q =
      left_stopped n (pieces s from n) list reason start r (refused_stays s from p n 0 (number reason) start front start front read read (sym e) (omega arith) h) q l

  module _ (k : ℤ) (ends : List ℤ) (c at : ℕ) (by : numbers s (c + 1) (pieces s from p) ≡ due (front ++ (k ∷ []) ++ take c ends) at) where
    pub coordinate_kept : (v : ℤ) (next : ℕ) → Read v next ≡ coordinate_at s at → c < length ends
        → numbers s (c + 1 + 1) (pieces s from p) ≡ due (front ++ (k ∷ []) ++ take (c + 1) (set ends c v)) next
    unfolding stands_at
    coordinate_kept v next e h =
        rw (add-one (c + 1), add-one c, take-suc-set ends c v h, ← append_assoc) (number_read s (suc c) (pieces s from p) (front ++ (k ∷ []) ++ take c ends) at v next (rw add-one at by) (sym e))

    pub coordinate_ends : (reason : Reason) (r : Refusal) → Refused (number reason) ≡ coordinate_at s at → c < 4 → r ≡ record { reason = reason; place = at } → Left n (pieces s from n) (Err r) list
    unfolding stands_at
    coordinate_ends reason r e few q =
        left_stopped n (pieces s from n) list reason at r (refused_stays s from p n (suc c) (number reason) start front at (front ++ (k ∷ []) ++ take c ends) read (rw add-one at by) (sym e) (omega arith) h) q l

    -- all five are read, and their fault is asked
    module _ (four : c ≡ 4) (long : length ends ≡ 4) (few : n ≤ most) (fault : Option Reason) (v0 v1 v2 v3 v4 : ℤ) (five : Five k ends v0 v1 v2 v3 v4) (asked : fault_number fault ≡ fault_of v0 v1 v2 v3 v4) where
      abbrev ys : List ℤ
      ys = front ++ (v0 ∷ v1 ∷ v2 ∷ v3 ∷ v4 ∷ [])

      whole : numbers s 5 (pieces s from p) ≡ due ys at
      whole =
          let z : 5 ≡ c + 1 = omega arith in
          let all : take c ends ≡ ends = take_all c ends (omega arith) in
          let e : front ++ (k ∷ []) ++ take c ends ≡ ys = rw (all, append_assoc) (ap (λ (t : List ℤ). front ++ t) (five_are k ends v0 v1 v2 v3 v4 long five)) in
          ap (λ (j : ℕ). numbers s j (pieces s from p)) z ∙ by ∙ ap (λ (t : List ℤ). due t at) e

      judged : fault_at ys p ≡ fault_number fault
      judged = last_fault front p v0 v1 v2 v3 v4 (length-take-le (5 * p) list (omega arith)) ∙ sym asked

      pub piece_kept : is_some fault ≡ false → (new : List ℤ) → new ≡ v0 ∷ v1 ∷ v2 ∷ v3 ∷ v4 ∷ [] → pieces s from (p + 1) ≡ due (front ++ new) at
      piece_kept none new e = rw (add-one p, e) (piece_read s from p front start read ys at whole (judged ∙ no_fault fault none))

      pub piece_ends : is_some fault ≡ true → (r : Refusal) → r ≡ record { reason = NoLength; place = start } → Left n (pieces s from n) (Err r) list
      piece_ends some r q =
          left_stopped n (pieces s from n) list NoLength start r
          (pieces_stay s from (suc p) n 6 start (piece_short s from p front start read ys at whole (λ z. some_fault fault some (sym judged ∙ z))) h)
          q l
