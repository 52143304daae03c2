-- What is sought does not hang on the order of the active list, so two runs that find it say the same.
use mathlib.Core.Path.{◌≡◌, refl, sym, ap, ◌∙◌}
use mathlib.Core.Bool.{Bool, ◌&&◌}
use mathlib.Core.List.{List, [], ◌∷◌, ◌++◌, map}
use Prim.Native.Nat.{ℕ, suc}
use lib.ListN.{length, take}
use Rattle.sweep.specs.Lists.{Pair, upto, keep, last_of}
use Rattle.sweep.specs.Chart.{Kind, nothing, crosses, overlaps, Chart, meets, same, kind, at}
use Rattle.sweep.specs.Queue.{ends}
use Rattle.sweep.specs.Sought.{is_crossing, all, later, first_by, first, occurring, settle, settled, points, pairs_at, pairs_along}
use Rattle.sweep.specs.Demand.{Run, Tells, SweepsAlways, reordered, SameAnswers}
use Rattle.sweep.proofs.Tests.{same_test}
use Rattle.sweep.proofs.Lists.{keep_same}

module _ (C : Chart) (before : C.Point → ℕ → ℕ → Bool) where
  abbrev D : Chart
  D = reordered C before

  settle_alike : (p : C.Point) (l : List C.Point) → settle C p l ≡ settle D p l
  unfolding settle
  settle_alike p [] = refl
  settle_alike p (q ∷ l) = rw (settle_alike p l)

  settled_alike : (l : List C.Point) → settled C l ≡ settled D l
  unfolding settled
  settled_alike [] = refl
  settled_alike (p ∷ l) = ap (settle C p) (settled_alike l) ∙ settle_alike p (settled D l)

  ends_alike : (l : List ℕ) → ends C l ≡ ends D l
  unfolding ends
  ends_alike [] = refl
  ends_alike (i ∷ l) = ap (λ (z : List C.Point). C.min i ∷ C.max i ∷ z) (ends_alike l)

  occurring_alike : occurring C ≡ occurring D
  unfolding occurring all
  occurring_alike = ap (λ (z : List C.Point). z ++ map (at C) (keep (λ q. is_crossing (kind C q)) (all C))) (ends_alike (upto C.n))

  pub points_alike : points C ≡ points D
  unfolding points
  points_alike = settled_alike (occurring C) ∙ ap (settled D) occurring_alike

  first_alike : (q : Pair) → first C q ≡ first D q
  unfolding first later
  first_alike q = go (kind C q)
    where
      go : (k : Kind) → first_by C k q ≡ first_by D k q
      go nothing = unfold first_by in refl
      go crosses = unfold first_by in refl
      go overlaps = unfold first_by in refl

  at_alike : (p : C.Point) → pairs_at C p ≡ pairs_at D p
  unfolding pairs_at all same
  at_alike p = keep_same (λ q. meets (kind C q) && same C (first C q) p) (λ q. meets (kind C q) && same C (first D q) p) (all C) (λ q m. rw (first_alike q))

  pub along_alike : (l : List C.Point) → pairs_along C l ≡ pairs_along D l
  unfolding pairs_along
  along_alike [] = refl
  along_alike (p ∷ l) = rw (at_alike p, along_alike l)

  pub same_answers : (R : Run C) (T : Run D) → Tells C R → Tells D T → SweepsAlways C R → SweepsAlways D T → SameAnswers C before R T
  same_answers R T r t v w =
      record {
        visited = visited;
        listed = λ m. (v m).lists ∙ along_alike (take m (points C)) ∙ ap (λ (z : List C.Point). pairs_along D (take m z)) points_alike ∙ sym (w m).lists;
        steps = λ m. r.counts_visited m ∙ ap length (visited m) ∙ sym (t.counts_visited m);
        ended = λ m.
            same_test _ _
            (λ h. (t.ends_visited m).1 (sym (visited (suc m)) ∙ (r.ends_visited m).0 h ∙ visited m))
            (λ h. (r.ends_visited m).1 (visited (suc m) ∙ (t.ends_visited m).0 h ∙ sym (visited m)));
        last = λ m. r.last_visited m ∙ ap last_of (visited m) ∙ sym (t.last_visited m);
      }
    where
      visited : (m : ℕ) → R.visited m ≡ T.visited m
      visited m = (v m).visits ∙ ap (λ (z : List C.Point). take m z) points_alike ∙ sym (w m).visits
