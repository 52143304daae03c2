-- New pieces in their places and the outer pairs examined: they are settled.
use mathlib.Core.Path.{◌≡◌, ap, ◌∙◌}
use mathlib.Core.List.{List, ◌++◌}
use Prim.Native.Nat.{ℕ, ◌≤◌}
use native.Mathlib.Omega.{arith}
use lib.IntN.{ℤ}
use lib.ListN.{length, take}
use lib.Seq.{slice, take_all}
use Rattle.fractions.specs.declared.Point.{Point}
use Rattle.full_lanes.specs.Lanes.{ProperPlaces}
use Rattle.full_active.specs.Replaced.{Replaced}
use Rattle.full_step.specs.Whole.{outer_examined}
use Rattle.full_step.proofs.Outer.{outer_take}
use Rattle.full_step.proofs.Turning.{proper_places}
use Rattle.full_end_alone.specs.Alone.{Settleable, Settled}

module _ (table : List ℤ) (p : Point) (active lanes : List ℕ) (live lo hi : ℕ) (new active' lanes₁ : List ℕ) (live' : ℕ)
    (R : Replaced active lanes live lo hi new (length new) active' lanes₁ live') where
  pieces : take live' active' ≡ take lo active ++ (new ++ slice hi live active)
  pieces = R.pieces_are ∙ ap (λ (l : List ℕ). take lo active ++ (l ++ slice hi live active)) (take_all (length new) new (omega arith))

  pub proper_now : Settleable table active lanes live lo hi new → live' ≤ length active' → ProperPlaces table active' live'
  proper_now S w = proper_places table active' _ live' w pieces S.proper

  pub settled : (lanes' : List ℕ) → lanes' ≡ outer_examined table active' live' lo (length new) p lanes₁ → Settled table p active lanes live lo hi new active' lanes' live'
  settled lanes' e =
      record {
        live_is = R.count;
        pieces_are = pieces;
        lanes_are =
            ap (take live') e
            ∙ outer_take table active' live' lo (length new) p (omega (arith, R.count)) lanes₁
            ∙ ap (outer_examined table active' live' lo (length new) p) R.lanes_are;
      }
