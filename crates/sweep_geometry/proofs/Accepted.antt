-- The pieces of an accepted list are proper, and none is upright where its test finds none: so all promises hold of it.
use mathlib.Core.Path.{◌≡◌, refl, sym, ◌∙◌}
use mathlib.Core.Logic.{◌↔◌, inl, inr, ⊎_elim}
use mathlib.Core.Bool.{Bool, true, false}
use mathlib.Core.List.{List}
use mathlib.Core.List.{Memᴰ as In}
use Prim.Native.Nat.{ℕ, ◌<◌}
use native.Mathlib.Omega.{arith}
use lib.IntN.{ℤ, neg_ℤ}
use Rattle.integers.specs.Size.{Small}
use Rattle.integers.proofs.Order.{≮→≥}
use Rattle.integers.proofs.Sizes.{small_of}
use Rattle.std.specs.declared.cmp.Ordering.{Ordering}
use Rattle.std.specs.declared.cmp.Ordering.TheVariants.{Less, Equal, Greater}
use Rattle.fractions.specs.declared.Point.{Point}
use Rattle.line_segment.specs.declared.EndPoint.{EndPoint}
use Rattle.line_segment.specs.Piece.{join_by, join_of, piece_of}
use Rattle.line_segment.specs.declared.Meeting.{Meeting}
use Rattle.line_segment.specs.declared.Meeting.TheVariants.{Nothing, Crossing, Overlap}
use Rattle.line_segment.specs.Segment.{intersect_of}
use Rattle.line_segment.specs.Demand.{says_yes, Meet, OnChart}
use Rattle.line_segment.proofs.Promises.{says_yes_exactly}
use Rattle.charts.specs.Fault.{range, outside}
use Rattle.charts.specs.Chart.{verdict_of}
use Rattle.charts.specs.Piece.{coordinate_of, piece_at, is_upright, no_upright}
use Rattle.charts.specs.Verdict.{Accepted}
use Rattle.charts.proofs.Rows.{says_outside}
use Rattle.charts.proofs.Accepted.{pieces_have_length}
use Rattle.charts.proofs.Upright.{upright_found}
use Rattle.sweep.specs.Chart.{Chart, meets, kind}
use Rattle.sweep.specs.Sought.{all, meeting}
use Rattle.sweep.specs.Demand.{Run, ListsAll, ported_run, reordered}
use Rattle.sweep.specs.Ported.{kind_of, ported}
use Rattle.sweep.proofs.Lists.{keep_in, keep_out}
use Rattle.sweep.proofs.Occurring.{all_in, all_out}
use Rattle.sweep.proofs.Tests.{ask, clash}
use Rattle.sweep_geometry.specs.Demand.{AllProper, NoneUpright, ListSweeps, ListsMeetings}
use Rattle.sweep_geometry.proofs.Promises.{ported_sweeps}

small : (v : ℤ) → Small 32767 (coordinate_of v)
unfolding coordinate_of
small v =
    ⊎_elim
    (λ (e : outside (neg_ℤ range) range v ≡ true). rw e (record { small = omega arith }))
    (λ (e : outside (neg_ℤ range) range v ≡ false).
    rw e (small_of (≮→≥ (λ h. (says_outside (neg_ℤ range) range v).no e (inl h))) (≮→≥ (λ h. (says_outside (neg_ℤ range) range v).no e (inr h)))))
    (ask (outside (neg_ℤ range) range v))

join_on : (o : Ordering) (a b : EndPoint) → Small 32767 a.x → Small 32767 a.y → Small 32767 b.x → Small 32767 b.y → OnChart (join_by o a b)
unfolding join_by
join_on Less a b ax ay bx by = record { min_x = ax; min_y = ay; max_x = bx; max_y = by }
join_on Equal a b ax ay bx by = record { min_x = bx; min_y = by; max_x = ax; max_y = ay }
join_on Greater a b ax ay bx by = record { min_x = bx; min_y = by; max_x = ax; max_y = ay }

piece_on : (list : List ℤ) (i : ℕ) → OnChart (piece_at list i)
unfolding piece_at piece_of join_of
piece_on list i = join_on _ _ _ (small _) (small _) (small _) (small _)

pub list_proper : (list : List ℤ) (n : ℕ) → verdict_of list ≡ Accepted n → AllProper n (piece_at list)
list_proper list n e i h = record { length = pieces_have_length list n i e h; charted = piece_on list i }

pub list_flat : (list : List ℤ) (n : ℕ) → no_upright list n ≡ true → NoneUpright n (piece_at list)
list_flat list n e i h =
    ⊎_elim
    (λ (t : is_upright (piece_at list i) ≡ true). clash e (upright_found list i n h t))
    (λ (t : is_upright (piece_at list i) ≡ false). t)
    (ask (is_upright (piece_at list i)))

pub list_sweeps : ListSweeps
list_sweeps list n e f = ported_sweeps n (piece_at list) (list_proper list n e) (list_flat list n f)

-- ---- the full list
yes_meets : (m : Meeting) → meets (kind_of m) ≡ says_yes m
unfolding meets
yes_meets Nothing = refl
yes_meets Crossing = refl
yes_meets (Overlap s) = refl

-- of any run that lists all, whatever the order of the active list
module _ (list : List ℤ) (n : ℕ) (e : verdict_of list ≡ Accepted n) (before : Point → ℕ → ℕ → Bool) where
  abbrev C : Chart
  C = reordered (ported n (piece_at list)) before

  test : (i j : ℕ) → i < j → j < n → (says_yes (intersect_of (piece_at list i) (piece_at list j)) ≡ true) ↔ Meet (piece_at list i) (piece_at list j)
  test i j u v = says_yes_exactly (piece_at list i) (piece_at list j) (pieces_have_length list n i e (omega arith)) (pieces_have_length list n j e v)

  pub run_meetings : (R : Run C) → ListsAll C R → (budget : ℕ) → (R.answer budget).ended ≡ true
      → (i j : ℕ) → In (i, j) (R.answer budget).listed ↔ ((i < j) × (j < n) × Meet (piece_at list i) (piece_at list j))
  unfolding meeting
  run_meetings R all_listed budget g i j =
      let a = all_listed budget g (i, j) in (
        (λ h.
            let r = keep_out (λ q. meets (kind C q)) (all C) (a.0 h) in
            let v = all_out C r.0 in
            (v.0, v.1, (test i j v.0 v.1).0 (sym (yes_meets (intersect_of (piece_at list i) (piece_at list j))) ∙ r.1))),
        (λ h. a.1 (keep_in (λ q. meets (kind C q)) (all_in C (i, j) (h.0, h.1)) (yes_meets (intersect_of (piece_at list i) (piece_at list j)) ∙ (test i j h.0 h.1).1 h.2))),
      )

pub lists_meetings : ListsMeetings
lists_meetings list n e f = run_meetings list n e (ported n (piece_at list)).before (ported_run (ported n (piece_at list))) (list_sweeps list n e f).lists_all
