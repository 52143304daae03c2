-- The numbers of a list without a piece are those of the others, and the list stays a chart.
-- Assumes nothing.
use mathlib.Core.Path.{◌≡◌, refl, sym, ap, ◌∙◌, subst}
use mathlib.Core.Logic.{◌⊎◌, inl, inr, ⊎_elim}
use mathlib.Core.List.{List, [], ◌∷◌, ◌++◌, append_assoc}
use Prim.Native.Nat.{ℕ, suc, ◌+◌, ◌*◌, ◌-◌, ◌<◌, ◌≤◌}
use native.Mathlib.Omega.{arith}
use lib.IntN.{ℤ, pos}
use lib.ListN.{length, get_or, take, drop, length-append, length-drop, get_or-append, take-append-drop}
use lib.Seq.{length-take-le, get_or-take, get_or-drop, get_or-append-add, take_at, drop_at}
use Rattle.line_segment.specs.declared.LineSegment.{LineSegment}
use Rattle.line_segment.specs.Piece.{piece_of}
use Rattle.charts.specs.Chart.{most, number_at, verdict_of}
use Rattle.charts.specs.Demand.{Fault, FaultOf, Due, done}
use Rattle.charts.specs.Piece.{kind_of, coordinate_of, piece_at}
use Rattle.charts.specs.Verdict.{Accepted}
use Rattle.charts.proofs.Exactly.{refuses_exactly}
use Rattle.charts.proofs.Accepted.{accepted_most, accepted_sound}
use Rattle.piece_out.specs.Cut.{cut_out, put_in, raised}
use Rattle.piece_out.proofs.Numbers.{raised_is, raised_below}

-- an accepted list has five numbers a piece
pub accepted_length : (list : List ℤ) (n : ℕ) → verdict_of list ≡ Accepted n → length list ≡ 5 * n
accepted_length list n e = go ((refuses_exactly list (Accepted n)).0 e)
  where
    go : Due list (Accepted n) → length list ≡ 5 * n
    go (done n q h s) = q

module _ (list : List ℤ) (i : ℕ) (long : 5 * i + 5 ≤ length list) where
  front : length (take (5 * i) list) ≡ 5 * i
  front = length-take-le (5 * i) list (omega arith)

  cut_length : length (cut_out i list) ≡ length list - 5
  unfolding cut_out
  cut_length = omega (arith, length-append (take (5 * i) list) (drop (5 * i + 5) list), length-drop (5 * i + 5) list, front)

  -- number k of piece j is that of the piece whose number was raised j
  number_is : (j k : ℕ) → k < 5 → number_at (cut_out i list) j k ≡ number_at list (raised i j) k
  unfolding cut_out number_at
  number_is j k h =
      ⊎_elim
      (λ (t : (j < i) × (raised i j ≡ j)).
      get_or-append (take (5 * i) list) (drop (5 * i + 5) list) (pos 0) (5 * j + k) (omega (arith, t.0, front))
      ∙ get_or-take (5 * i) list (5 * j + k) (pos 0) (omega (arith, t.0))
      ∙ ap (λ (m : ℕ). get_or list (5 * m + k) (pos 0)) (sym t.1))
      (λ (t : (i ≤ j) × (raised i j ≡ suc j)).
      let at : length (take (5 * i) list) + (5 * j + k - 5 * i) ≡ 5 * j + k = omega (arith, t.0, front) in
      let to : 5 * i + 5 + (5 * j + k - 5 * i) ≡ 5 * suc j + k = omega (arith, t.0) in
      ap (λ (m : ℕ). get_or (take (5 * i) list ++ drop (5 * i + 5) list) m (pos 0)) (sym at)
      ∙ get_or-append-add (take (5 * i) list) (drop (5 * i + 5) list) (5 * j + k - 5 * i) (pos 0)
      ∙ get_or-drop (5 * i + 5) list (5 * j + k - 5 * i) (pos 0)
      ∙ ap (λ (m : ℕ). get_or list m (pos 0)) to
      ∙ ap (λ (m : ℕ). get_or list (5 * m + k) (pos 0)) (sym t.1))
      (raised_is i j)

  pub piece_is : (j : ℕ) → piece_at (cut_out i list) j ≡ piece_at list (raised i j)
  unfolding piece_at
  piece_is j =
      rw (number_is j 0 (omega arith), number_is j 1 (omega arith), number_is j 2 (omega arith), number_is j 3 (omega arith), number_is j 4 (omega arith))

  sound_is : (j : ℕ) → FaultOf list (raised i j) 0 → FaultOf (cut_out i list) j 0
  sound_is j s =
      rw (number_is j 0 (omega arith), number_is j 1 (omega arith), number_is j 2 (omega arith), number_is j 3 (omega arith), number_is j 4 (omega arith)) s

module _ (list : List ℤ) (n i : ℕ) (e : verdict_of list ≡ Accepted n) (h : i < n) where
  pub long_enough : 5 * i + 5 ≤ length list
  long_enough = omega (arith, accepted_length list n e)

  pub cut_accepted : verdict_of (cut_out i list) ≡ Accepted (n - 1)
  cut_accepted =
      (refuses_exactly (cut_out i list) (Accepted (n - 1))).1
      (done (n - 1) (omega (arith, cut_length list i long_enough, accepted_length list n e)) (omega (arith, accepted_most list n e))
      (λ j g. sound_is list i long_enough j (accepted_sound list n (raised i j) e (raised_below i j n h g))))

-- what was put in is cut out again
pub cut_put : (list five : List ℤ) (i : ℕ) → 5 * i ≤ length list → length five ≡ 5 → cut_out i (put_in i five list) ≡ list
unfolding cut_out put_in
cut_put list five i h l =
    let f = take (5 * i) list in
    let d = drop (5 * i) list in
    let long : length f ≡ 5 * i = length-take-le (5 * i) list h in
    ap (λ (m : List ℤ). m ++ drop (5 * i + 5) (f ++ (five ++ d))) (take_at f (five ++ d) (5 * i) long)
    ∙ ap (λ (m : List ℤ). f ++ drop (5 * i + 5) m) (sym (append_assoc f five d))
    ∙ ap (λ (m : List ℤ). f ++ m) (drop_at (f ++ five) d (5 * i + 5) (omega (arith, length-append f five)))
    ∙ take-append-drop (5 * i) list
