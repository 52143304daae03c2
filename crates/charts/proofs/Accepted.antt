-- What is known of an accepted list: its count, its numbers, and that each piece has some length.
-- Assumes nothing.
use mathlib.Core.Path.{◌≡◌, sym, ◌∙◌}
use mathlib.Core.List.{List}
use mathlib.Core.Logic.{inl, inr}
use Prim.Native.Nat.{ℕ, ◌≤◌, ◌<◌}
use lib.IntN.{ℤ, pos, neg_ℤ, nat_abs}
use Rattle.integers.proofs.Order.{Tri, less, same, more, tri, ≡→≤}
use Rattle.std.specs.declared.cmp.Ordering.TheVariants.{Less, Greater}
use Rattle.line_segment.specs.declared.EndPoint.{EndPoint}
use Rattle.line_segment.specs.Piece.{end_order, join_by, join_of, piece_of, HasLength, first_included, second_included}
use Rattle.fractions.specs.Order.{order}
use Rattle.line_segment.proofs.Ends.{end_order_is, less_first, greater_first, less_second, greater_second}
use Rattle.charts.specs.Fault.{range}
use Rattle.charts.specs.Chart.{most, number_at, verdict_of}
use Rattle.charts.specs.Piece.{kind_of, coordinate_of, piece_at}
use Rattle.charts.specs.Demand.{Off, Due, done, FaultOf, Fault, none, PiecesAsGiven, PiecesHaveLength}
use Rattle.charts.specs.Verdict.{Accepted}
use Rattle.charts.proofs.Rows.{is_false, says_outside}
use Rattle.charts.proofs.Ranges.{kind_in, kind_kept, coordinate_kept}
use Rattle.charts.proofs.Exactly.{refuses_exactly}

pub accepted_most : (list : List ℤ) (n : ℕ) → verdict_of list ≡ Accepted n → n ≤ most
accepted_most list n e = go ((refuses_exactly list (Accepted n)).0 e)
  where
    go : Due list (Accepted n) → n ≤ most
    go (done n q h s) = h

pub accepted_sound : (list : List ℤ) (n i : ℕ) → verdict_of list ≡ Accepted n → i < n → FaultOf list i 0
accepted_sound list n i e l = go ((refuses_exactly list (Accepted n)).0 e) l
  where
    go : Due list (Accepted n) → i < n → FaultOf list i 0
    go (done n q h s) = s i

-- two ends apart make a piece of some length, whichever comes first
pub apart : (a b : EndPoint) → ¬ ((a.x ≡ b.x) × (a.y ≡ b.y)) → HasLength (join_of a b)
unfolding join_of join_by
apart a b d = go (tri a.x b.x) (tri a.y b.y)
  where
    forth : end_order a b ≡ Less → HasLength (join_by (end_order a b) a b)
    forth e = rw (e, e)

    back : end_order a b ≡ Greater → end_order b a ≡ Less → HasLength (join_by (end_order a b) a b)
    back e f = rw (e, f)

    go : Tri a.x b.x → Tri a.y b.y → HasLength (join_by (end_order a b) a b)
    go (less h) _ = forth (end_order_is a b ∙ sym (less_first (order a.y b.y) h))
    go (more h) _ =
        back (end_order_is a b ∙ sym (greater_first (order a.y b.y) h)) (end_order_is b a ∙ sym (less_first (order b.y a.y) h))
    go (same e) (less h) = forth (end_order_is a b ∙ sym (less_second (≡→≤ e) (≡→≤ (sym e)) h))
    go (same e) (more h) =
        back (end_order_is a b ∙ sym (greater_second (≡→≤ e) (≡→≤ (sym e)) h)) (end_order_is b a ∙ sym (less_second (≡→≤ (sym e)) (≡→≤ e) h))
    go (same e) (same f) = absurd (d (e, f))

pub in_range : (v : ℤ) → ¬ Off v → coordinate_of v ≡ v
in_range v d = coordinate_kept v (is_false (says_outside (neg_ℤ range) range v) d)

-- a piece without fault, of five numbers
module _ (kind x1 y1 x2 y2 : ℤ) where
  as_given : Fault kind x1 y1 x2 y2 0 → (k : ℕ) × (kind ≡ pos k) × (piece_of (kind_of kind) (coordinate_of x1) (coordinate_of y1) (coordinate_of x2) (coordinate_of y2) ≡ piece_of k x1 y1 x2 y2)
  as_given (none n4 n5 n6) =
      let e = is_false (says_outside (pos 0) (pos 3) kind) n4 in (
        nat_abs kind,
        (kind_in kind e).0,
        rw (kind_kept kind e, in_range x1 (λ h. n5 (inl (inl h))), in_range y1 (λ h. n5 (inl (inr h))), in_range x2 (λ h. n5 (inr (inl h))), in_range y2 (λ h. n5 (inr (inr h)))),
      )

  has_length : Fault kind x1 y1 x2 y2 0 → (k : ℕ) → HasLength (piece_of k x1 y1 x2 y2)
  unfolding piece_of
  has_length (none n4 n5 n6) k = apart (record { x = x1; y = y1; included = first_included k }) (record { x = x2; y = y2; included = second_included k }) n6

pub pieces_as_given : PiecesAsGiven
unfolding piece_at
pieces_as_given list n i e h = as_given (number_at list i 0) (number_at list i 1) (number_at list i 2) (number_at list i 3) (number_at list i 4) (accepted_sound list n i e h)

pub pieces_have_length : PiecesHaveLength
pieces_have_length list n i e h =
    let g = pieces_as_given list n i e h in
    rw g.2 (has_length (number_at list i 0) (number_at list i 1) (number_at list i 2) (number_at list i 3) (number_at list i 4) (accepted_sound list n i e h) g.0)
