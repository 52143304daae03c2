-- What a run tells where it stops is the sweep's answer.
use mathlib.Core.Path.{◌≡◌, refl, sym, ap, ◌∙◌}
use mathlib.Core.Bool.{Bool, true, false, not, ◌&&◌, ◌||◌}
use mathlib.Core.List.{List, [], ◌∷◌, ◌++◌}
use Prim.Native.Nat.{ℕ, zero, suc, ◌*◌, ◌/◌, ◌≤◌, ◌<◌}
use native.Mathlib.Omega.{arith}
use lib.IntN.{ℤ, pos}
use lib.ListN.{length, replicate, length-replicate}
use Rattle.line_segment.specs.declared.LineSegment.{LineSegment}
use Rattle.line_segment.specs.Piece.{HasLength}
use Rattle.charts.specs.Chart.{most, verdict_of}
use Rattle.charts.specs.Answer.{room, listing_of}
use Rattle.charts.specs.Demand.{Due, done}
use Rattle.charts.specs.Verdict.{Accepted, Refused}
use Rattle.charts.proofs.Exactly.{refuses_exactly}
use Rattle.charts.proofs.Accepted.{accepted_most, pieces_have_length}
use Rattle.charts.specs.Piece.{piece_at, is_upright, no_upright}
use Rattle.naive.specs.Pairs.{over}
use Rattle.sweep.specs.Lists.{upto, any}
use Rattle.sweep.specs.Chart.{Chart}
use Rattle.sweep.specs.State.{State}
use Rattle.sweep.specs.State.{start as begin}
use Rattle.sweep.specs.Queue.{next as next_of}
use Rattle.sweep.specs.Run.{is_none, run, answer_of, answer}
use Rattle.sweep.specs.Run.{onwards as going}
use Rattle.ported_arrays.specs.Run.{onwards, start}
use Rattle.ported_arrays.specs.Agreement.{Agrees}
use Rattle.ported_arrays.proofs.Flat.{flat_length}
use Rattle.ported_arrays.proofs.Nexts.{next_agrees}
use Rattle.ported_pieces.specs.Table.{piece_in, chart_in}
use Rattle.ported_table.specs.Filled.{filled}
use Rattle.ported_pieces.proofs.Ordering.{ordered}
use Rattle.ported_table.proofs.Filling.{filled_pieces}
use Rattle.ported_run.specs.declared.Stop.{Stop}
use Rattle.bentley_ottmann.specs.declared.Swept.{Swept}
use Rattle.ported_run.specs.Last.{as_last}
use Rattle.bentley_ottmann.specs.Swept.{swept_by, listed_over, refused_with, sweep_of, lent_after}
use Rattle.ported_run.specs.Running.{places, Stopped}
use Rattle.ported_run.proofs.Agreeing.{has_room, agrees}

-- ---- the two tests for a chart with no upright piece
any_append : (f : ℕ → Bool) (l m : List ℕ) → any f (l ++ m) ≡ (any f l || any f m)
unfolding any
any_append f [] m = refl
any_append f (x ∷ l) m = rw (any_append f l m) (either (f x) (any f l) (any f m))
  where
    either : (a b c : Bool) → (a || (b || c)) ≡ ((a || b) || c)
    either true b c = refl
    either false b c = refl

neither : (a b : Bool) → (not a && not b) ≡ not (a || (b || false))
neither true b = refl
neither false true = refl
neither false false = refl

pub none_upright : (list : List ℤ) (n : ℕ) → no_upright list n ≡ not (any (λ i. is_upright (piece_at list i)) (upto n))
unfolding no_upright any upto
none_upright list zero = refl
none_upright list (suc n) =
    rw (any_append (λ i. is_upright (piece_at list i)) (upto n) (n ∷ []), none_upright list n)
    (neither (any (λ i. is_upright (piece_at list i)) (upto n)) (is_upright (piece_at list n)))

-- ---- a run that stopped
module _ (n : ℕ) (table : List ℤ) (lent : List ℕ) (few : n ≤ most) (long : (i : ℕ) → i < n → HasLength (piece_in table i)) (lists : room n ≤ length lent)
    (budget : ℕ) {stop : Stop} {after : List ℕ}
    (S : Stopped n table budget lent stop after) where
  abbrev C : Chart
  C = chart_in n table

  abbrev reached : State C
  reached = going C budget (begin C)

  A : Agrees C (ordered n (piece_in table) long) places lent (onwards C budget (start C places lent)) reached
  A = agrees n table lent few long lists budget

  counted : stop.end / 2 ≡ length reached.marks.listed
  counted = let e = S.end_is ∙ A.holds.end_is ∙ flat_length reached.marks.listed in omega (arith, e)

  ended : stop.ended ≡ is_none C (next_of C reached)
  ended = S.ended_is ∙ ap (is_none C) (next_agrees C (ordered n (piece_in table) long) places lent (has_room n table lent few long lists) (onwards C budget (start C places lent)) reached A)

  pub says : {c : Bool} → c ≡ not (any (λ i. is_upright (piece_in table i)) (upto n))
      → ◌≡◌ {A = Swept} (record { number = 0; place = 0; pairs = stop.end / 2; steps = stop.steps; ended = stop.ended; complete = c; last = stop.last; examined = stop.examined })
      (swept_by n (piece_in table) budget)
  unfolding swept_by answer answer_of run
  says e k =
      record {
        number = 0;
        place = 0;
        pairs = counted k;
        steps = (S.steps_are ∙ A.steps_are) k;
        ended = ended k;
        complete = e k;
        last = (S.last_is ∙ ap as_last A.last_is) k;
        examined = S.examined_are k;
      }

  pub leaves : after ≡ listed_over n (piece_in table) budget lent
  unfolding listed_over over answer answer_of run
  leaves = S.bytes_are ∙ A.holds.bytes_are

-- ---- an accepted list
module _ (list : List ℤ) (n : ℕ) (e : verdict_of list ≡ Accepted n) where
  list_long : length list ≡ 5 * n
  list_long = go ((refuses_exactly list (Accepted n)).0 e)
    where
      go : Due list (Accepted n) → length list ≡ 5 * n
      go (done n q h s) = q

  module _ (table : List ℤ) (f : table ≡ filled list n (replicate (5 * most) (pos 0))) where
    pub its_pieces : piece_in table ≡ piece_at list
    its_pieces = ap piece_in f ∙ filled_pieces list n (5 * most) list_long (omega (arith, accepted_most list n e, length-replicate {A = ℤ} (5 * most) (pos 0)))

    pub its_length : (i : ℕ) → i < n → HasLength (piece_in table i)
    its_length i h = rw (ap (λ (piece : ℕ → LineSegment). piece i) its_pieces) (pieces_have_length list n i e h)

    pub swept : (lent : List ℕ) → room n ≤ length lent → (budget : ℕ) {stop : Stop} {after : List ℕ}
        → Stopped n table budget lent stop after
        → {c : Bool} → c ≡ no_upright list n
        → (◌≡◌ {A = Swept} (record { number = 0; place = 0; pairs = stop.end / 2; steps = stop.steps; ended = stop.ended; complete = c; last = stop.last; examined = stop.examined }) (swept_by n (piece_at list) budget))
        × (after ≡ listed_over n (piece_at list) budget lent)
    swept lent r budget S g =
        let m = accepted_most list n e in (
          says n table lent m its_length r budget S (g ∙ none_upright list n ∙ ap (λ (piece : ℕ → LineSegment). not (any (λ i. is_upright (piece i)) (upto n))) (sym its_pieces))
              ∙ ap (λ (piece : ℕ → LineSegment). swept_by n piece budget) its_pieces,
          leaves n table lent m its_length r budget S ∙ ap (λ (piece : ℕ → LineSegment). listed_over n piece budget lent) its_pieces,
        )

-- ---- the call
module _ (list : List ℤ) (budget : ℕ) (lent : List ℕ) where
  pub refused_outcome : (k p : ℕ) → listing_of list (length lent) ≡ Refused k p
      → (refused_with k p ≡ sweep_of list budget (length lent)) × (lent ≡ lent_after list budget lent)
  unfolding sweep_of lent_after
  refused_outcome k p e = (rw e refl, rw e refl)

  pub done_outcome : (n : ℕ) → listing_of list (length lent) ≡ Accepted n
      → (swept_by n (piece_at list) budget ≡ sweep_of list budget (length lent)) × (listed_over n (piece_at list) budget lent ≡ lent_after list budget lent)
  unfolding sweep_of lent_after
  done_outcome n e = (rw e refl, rw e refl)
