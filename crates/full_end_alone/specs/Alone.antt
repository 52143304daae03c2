-- An end that stands alone at a point, and its piece that comes in or goes out there, over the arrays.
use Rattle.std.specs.Prelude.{◌≡◌, true, List, [], ◌∷◌, ◌++◌, ℕ, ◌+◌, ◌-◌, ◌/◌, ◌%◌, ℤ, length, get_or, take, replicate}
use mathlib.Core.List.{Memᴰ as In}
use Rattle.std.proofs.Math.Seq.{slice}
use Rattle.fractions.specs.declared.Point.{Point}
use Rattle.sweep_geometry.specs.Demand.{Proper}
use Rattle.ported_pieces.specs.Table.{piece_in}
use Rattle.full_lanes.specs.Lanes.{no_key}
use Rattle.full_active.specs.Parts.{finishes_in}
use Rattle.full_active.specs.Ranks.{starters}
use Rattle.full_active.specs.Replaced.{Movable}
use Rattle.full_step.specs.Whole.{outer_examined}
use Rattle.full_end_alone.specs.declared.Alone.{Alone}
use Rattle.full_end_alone.specs.declared.Alone.TheVariants.{Enters, Leaves, Neither}

-- the piece of the first end's number
abbrev pub first_of : List ℕ → ℕ
first_of ends = get_or ends 0 0 % 65536 / 2

module _ (table : List ℤ) (q : Point) (lo hi : ℕ) (active ends : List ℕ) where
  -- one end stands at q and its piece starts there, and no active piece goes through q
  pub record Coming : Type 0 where
    pub one_end : length ends ≡ 1
    pub none_through : hi ≡ lo
    pub starts_alone : starters ends ≡ first_of ends ∷ []

  -- no piece starts at q, and one active piece goes through it, which finishes there
  pub record Going : Type 0 where
    pub one_through : hi ≡ lo + 1
    pub none_starts : starters ends ≡ []
    pub finishes : finishes_in table q (get_or active lo 0) ≡ true

  -- what is told is so
  abbrev pub Told : Alone → Type 0
  Told Enters = Coming
  Told Leaves = Going
  Told Neither = Unit

-- there is room for `new` where the pieces from lo up to hi stand, and all that are active then have some length
pub record Settleable (table : List ℤ) (active lanes : List ℕ) (live lo hi : ℕ) (new : List ℕ) : Type 0 where
  pub movable : Movable active lanes live hi (lo + length new)
  pub proper : (i : ℕ) → In i (take lo active ++ (new ++ slice hi live active)) → Proper (piece_in table i)

-- `new` stands there. The lanes outside stay, there is none inside, and the outer pairs are examined anew
pub record Settled (table : List ℤ) (p : Point) (active lanes : List ℕ) (live lo hi : ℕ) (new active' lanes' : List ℕ) (live' : ℕ) : Type 0 where
  pub live_is : live' ≡ lo + length new + (live - hi)
  pub pieces_are : take live' active' ≡ take lo active ++ (new ++ slice hi live active)
  pub lanes_are : take live' lanes' ≡ outer_examined table active' live' lo (length new) p (take lo lanes ++ (replicate (length new) no_key ++ slice hi live lanes))
