-- The least of a queue that holds every end and every crossing of neighbours from the bound on, and no other points, is the
-- least point that is left; where it is empty, none is. Of whichever mode.
use mathlib.Core.Path.{◌≡◌}
use mathlib.Core.Logic.{by_cases}
use mathlib.Core.Option.{Option, none, some}
use mathlib.Core.List.{List}
use mathlib.Core.List.{Memᴰ as In}
use Prim.Native.Nat.{ℕ, suc, ◌≤◌, ◌<◌}
use native.Mathlib.Omega.{arith}
use native.Mathlib.Decide.{dec_lt}
use Rattle.sweep.specs.Lists.{Pair, adjacent}
use Rattle.sweep.specs.Chart.{crosses, Chart, kind, at}
use Rattle.sweep.specs.Queue.{least}
use Rattle.sweep.specs.Geometry.{Occurs}
use Rattle.sweep.proofs.Least.{least_some, least_none}
use Rattle.sweep.proofs.Ranked.{Ranked}
use Rattle.sweep.proofs.Between.{bound, Lined, Soonest, no_point}

module _ (C : Chart) (F : Ranked C) (active : List ℕ) (last : Option C.Point) (L : Lined C F active last) (queue : List C.Point) where
  open C use {Point, n, min, max}
  open F.keyed use {key}

  pub record Queued : Type 0 where
    pub a_min : (i : ℕ) → i < n → bound key last ≤ key (min i) → In (min i) queue
    pub a_max : (i : ℕ) → i < n → bound key last ≤ key (max i) → In (max i) queue
    pub beside : (q : Pair) → In q (adjacent active) → kind C q ≡ crosses → bound key last ≤ key (at C q) → In (at C q) queue
    pub only : (p : Point) → In p queue → Occurs C p × (bound key last ≤ key p)

  module _ (Q : Queued) where
    pub queued_none : least C queue ≡ none → (x : Point) → Occurs C x → key x < bound key last
    queued_none e x o =
        by_cases (dec_lt (key x) (bound key last))
        (λ (h : key x < bound key last). h)
        (λ (h : ¬ (key x < bound key last)).
        absurd
        (omega (
          arith,
          no_point C F active last L (suc (key x))
              (λ i g d. absurd (least_none C queue e (min i) (Q.a_min i g d)))
              (λ i g d. absurd (least_none C queue e (max i) (Q.a_max i g d)))
              (λ q m k d. absurd (least_none C queue e (at C q) (Q.beside q m k d)))
              x o (omega arith),
        )))

    module _ (p : Point) (hp : least C queue ≡ some p) where
      pub queued_least : In p queue × ((x : Point) → In x queue → key p ≤ key x)
      queued_least = least_some C F.keyed queue p (λ x m. (Q.only x m).0) hp

      pub queued_soonest : Soonest C F last p
      queued_soonest =
          record {
            occurs = (Q.only p queued_least.0).0;
            new = (Q.only p queued_least.0).1;
            least = no_point C F active last L (key p)
                (λ i h b. queued_least.1 (min i) (Q.a_min i h b))
                (λ i h b. queued_least.1 (max i) (Q.a_max i h b))
                (λ q m k b. queued_least.1 (at C q) (Q.beside q m k b));
          }
