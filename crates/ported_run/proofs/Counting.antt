-- The pairs that a step on arrays examines are those of the sweep's step.
use mathlib.Core.Path.{◌≡◌, sym, ap, ◌∙◌}
use mathlib.Core.List.{List}
use mathlib.Core.Option.{Option, none, some}
use Prim.Native.Nat.{ℕ, ◌+◌, ◌-◌, ◌≤◌, ◌<◌}
use native.Mathlib.Omega.{arith}
use lib.IntN.{ℤ}
use lib.ListN.{length}
use Rattle.fractions.specs.declared.Point.{Point}
use Rattle.line_segment.specs.Piece.{HasLength}
use Rattle.charts.specs.Chart.{most}
use Rattle.charts.specs.Answer.{room}
use Rattle.sweep.specs.Chart.{Chart}
use Rattle.sweep.specs.State.{State}
use Rattle.sweep.specs.State.{start as begin}
use Rattle.sweep.specs.Queue.{next as next_of}
use Rattle.sweep.specs.Run.{run}
use Rattle.sweep.specs.Run.{onwards as going}
use Rattle.ported_arrays.specs.Event.{Sheet, stay, ranged}
use Rattle.ported_arrays.specs.Run.{next, onwards, start}
use Rattle.ported_arrays.proofs.Nexts.{next_agrees}
use Rattle.ported_arrays.proofs.Taking.{stay_is}
use Rattle.ported_arrays.proofs.Ranging.{ranged_is}
use Rattle.ported_pieces.specs.Table.{piece_in, chart_in}
use Rattle.ported_pieces.proofs.Ordering.{ordered}
use Rattle.examinations.specs.Examined.{examined_at, examined_on, examined_in, examined}
use Rattle.examinations.proofs.Few.{counts_skipped}
use Rattle.examinations.proofs.Idle.{still_to}
use Rattle.ported_run.specs.Running.{places}
use Rattle.ported_run.proofs.Agreeing.{has_room, agrees}

module _ (n : ℕ) (table : List ℤ) (lent : List ℕ) (few : n ≤ most) (long : (i : ℕ) → i < n → HasLength (piece_in table i)) (lists : room n ≤ length lent) (m : ℕ) where
  abbrev C : Chart
  C = chart_in n table

  abbrev a : Sheet C
  a = onwards C m (start C places lent)

  abbrev s : State C
  s = going C m (begin C)

  next_same : next C a ≡ next_of C s
  next_same = next_agrees C (ordered n (piece_in table) long) places lent (has_room n table lent few long lists) a s (agrees n table lent few long lists m)

  in_one : (p : Point) → next_of C s ≡ some p → examined_in C m ≡ examined_at C s p
  unfolding examined_in examined_on run
  in_one p t = ap (λ (o : Option Point). examined_on C s o) t

  pub one_more : (p : Point) → next C a ≡ some p → examined_in C m ≡ (length (stay C a p) - 1) + (length (ranged C a p) - 1)
  one_more p e =
      let t : next_of C s ≡ some p = sym next_same ∙ e in
      let u = ap length (stay_is C (ordered n (piece_in table) long) places lent (has_room n table lent few long lists) a s (agrees n table lent few long lists m) p t) in
      let v = ap length (ranged_is C (ordered n (piece_in table) long) places lent (has_room n table lent few long lists) a s (agrees n table lent few long lists m) p t) in
      omega (arith, in_one p t, u, v, counts_skipped C s p)

  pub none_more : next C a ≡ none → (k : ℕ) → m ≤ k → examined C k ≡ examined C m
  none_more e k h = still_to C m (sym next_same ∙ e) k h
