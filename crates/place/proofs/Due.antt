-- The place is what is due to the two pieces: specs/Demand.
-- Assumes nothing.
use mathlib.Core.Path.{◌≡◌, refl, sym, subst}
use mathlib.Core.List.{List, [], ◌∷◌}
use Prim.Native.Nat.{ℕ}
use native.Mathlib.Omega.{arith}
use lib.IntN.{ℤ}
use lib.ListN.{length}
use Rattle.std.specs.declared.cmp.Ordering.{Ordering}
use Rattle.std.specs.declared.cmp.Ordering.TheVariants.{Less, Equal, Greater}
use Rattle.line_segment.specs.declared.Meeting.{Meeting}
use Rattle.line_segment.specs.Piece.{HasLength, end_order, point_of}
use Rattle.line_segment.specs.Segment.{intersect_of, crossing_of}
use Rattle.line_segment.proofs.Promises.{crossing_is_cramers}
use Rattle.charts.specs.Verdict.{Verdict}
use Rattle.charts.specs.Piece.{piece_at}
use Rattle.charts.specs.Demand as Charts
use Rattle.charts.specs.Demand.{PairDue}
use Rattle.charts.proofs.Exactly.{refuses_exactly}
use Rattle.charts.proofs.Accepted.{pieces_have_length}
use Rattle.charts.proofs.Ten.{pair_refuses_exactly}
use Rattle.place.specs.Binary64.{nearest}
use Rattle.place.specs.Place.{along_by, along_of, where_by, where_of, nearest_point, in_binary64, place_of, values_of}
use Rattle.place.specs.Pair.{place_answer, place_answer_of}
use Rattle.place.specs.Demand.{Due, nothing, at, at_end, along, PlaceIsDue, AnswerDue, AnswerIsDue}
use Rattle.place.proofs.Given.{given_in_range}
use Rattle.place.proofs.Promises.{near, same}
use Rattle.place.proofs.Inside.{x_inside, y_inside}
use Rattle.place.proofs.Held.{StretchInRange, overlap, meeting_in, crossing_held}
use Rattle.place.proofs.Sharing.{no_back}

pub place_is_due : PlaceIsDue
unfolding place_of where_of where_by along_of along_by in_binary64 nearest_point point_of
place_is_due a b h k r s = go (intersect_of a b) refl (meeting_in a b r s)
  where
    crossed : intersect_of a b ≡ Meeting.Crossing → Due a b (nearest (crossing_of a b).x (crossing_of a b).d ∷ nearest (crossing_of a b).y (crossing_of a b).d ∷ [])
    crossed e =
        let c = crossing_of a b in
        let on = (crossing_is_cramers a b h k e).1.common.first in
        let held = crossing_held a b r s e in
        at e
        (near c.x c.d held.positive held.d (x_inside a c on r))
        (near c.y c.d held.positive held.d (y_inside a c on r h))

    go : (m : Meeting) → intersect_of a b ≡ m → StretchInRange m → Due a b (values_of (in_binary64 (where_by m (crossing_of a b))))
    go Meeting.Nothing e _ = nothing e
    go Meeting.Crossing e _ = crossed e
    go (Meeting.Overlap t) e (overlap i) = stretched (end_order t.min t.max) refl
      where
        stretched : (o : Ordering) → end_order t.min t.max ≡ o → Due a b (values_of (in_binary64 (along_by o (point_of t.min) (point_of t.max))))
        stretched Less o =
            along e o
            (same t.min.x i.min.x.small) (same t.min.y i.min.y.small)
            (same t.max.x i.max.x.small) (same t.max.y i.max.y.small)
        stretched Equal o = at_end e o (same t.min.x i.min.x.small) (same t.min.y i.min.y.small)
        stretched Greater o = absurd (no_back a b h k t e o)

-- ---- the pair call
two : {list : List ℤ} {n : ℕ} → length list ≡ 10 → Charts.Due list (Verdict.Accepted n) → n ≡ 2
two e (Charts.done n l _ _) = omega arith

accepted : (list : List ℤ) (n : ℕ) → PairDue list (Verdict.Accepted n) → HasLength (piece_at list 0) × HasLength (piece_at list 1)
accepted list n (Charts.ten e v d) =
    let n2 : n ≡ 2 = two e d in
    let a = (refuses_exactly list (Verdict.Accepted n)).1 d in
    (pieces_have_length list n 0 a (omega arith), pieces_have_length list n 1 a (omega arith))

pub answer_is_due : AnswerIsDue
unfolding place_answer_of
answer_is_due list v due =
    subst (λ (w : Verdict). AnswerDue list v (place_answer (place_of (piece_at list 0) (piece_at list 1)) w)) (sym ((pair_refuses_exactly list v).1 due)) (go v due)
  where
    go : (v : Verdict) → PairDue list v → AnswerDue list v (place_answer (place_of (piece_at list 0) (piece_at list 1)) v)
    go (Verdict.Refused k i) d = record { number = refl; place = refl; values = refl }
    go (Verdict.Accepted n) d =
        let h = accepted list n d in
        record { number = refl; place = refl; values = place_is_due (piece_at list 0) (piece_at list 1) h.0 h.1 (given_in_range list 0) (given_in_range list 1) }
