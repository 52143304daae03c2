-- What the ported mode keeps between two steps beside its active list: a neighbours' pair is listed, or waits, or does not
-- meet.
use mathlib.Core.Path.{◌≡◌}
use mathlib.Core.Logic.{◌⊎◌}
use mathlib.Core.List.{Memᴰ as In}
use Prim.Native.Nat.{ℕ, ◌≤◌}
use Rattle.sweep.specs.Lists.{Pair, adjacent}
use Rattle.sweep.specs.Chart.{nothing, crosses, Chart, kind, at}
use Rattle.sweep.specs.State.{Marks, State, start}
use Rattle.sweep.specs.Demand.{Pieces}
use Rattle.sweep.proofs.Ranked.{Ranked}
use Rattle.sweep.proofs.Between.{bound, Met, Lined, lined_none, met_none}

module _ (C : Chart) where
  abbrev pub Known : Marks → Pair → Type 0
  Known m q = In q m.listed ⊎ (In q m.waiting ⊎ (kind C q ≡ nothing))

  module _ (F : Ranked C) where
    open F.keyed use {key}

    -- the pairs listed are those that met below t; those that wait cross at t or later
    pub record Good (t : ℕ) (m : Marks) : Type 0 where
      pub pairs_met : Met C F t m.listed
      pub ahead : (q : Pair) → In q m.waiting → Pieces C q × (kind C q ≡ crosses) × (t ≤ key (at C q))

    pub record Inv (s : State C) : Type 0 where
      pub lined : Lined C F s.active s.last
      pub good : Good (bound key s.last) s.marks
      pub known : (q : Pair) → In q (adjacent s.active) → Known s.marks q

    pub inv_start : Inv (start C)
    unfolding start
    inv_start =
        record {
          lined = lined_none C F;
          good = record { pairs_met = met_none C F; ahead = λ q m. elim m [ ] };
          known = λ q m. unfold adjacent in elim m [ ];
        }
