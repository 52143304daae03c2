-- A point that comes no later than another, as an end that `admits` it says, in coordinates.
-- Assumes nothing.
use mathlib.Core.Path.{◌≡◌}
use mathlib.Core.Bool.{Bool, true, false≢true}
use lib.IntN.{pos, ◌*ℤ◌}
use lib.Signed.{◌≤ℤ◌}
use Rattle.integers.proofs.Signs.{<→≤}
use Rattle.integers.proofs.Order.{≡→≤, <→≢}
use Rattle.std.specs.declared.cmp.Ordering.{Ordering}
use Rattle.fractions.specs.declared.Point.{Point}
use Rattle.fractions.specs.Point.{point_order}
use Rattle.fractions.proofs.Points.{Places, left, below, same, above, right, places}
use Rattle.line_segment.specs.Geometry.{admits}

pub record NoLater (p q : Point) : Type 0 where
  pub x : (p.x *ℤ pos q.d) ≤ℤ (q.x *ℤ pos p.d)
  -- at one x, by y
  pub y : p.x *ℤ pos q.d ≡ q.x *ℤ pos p.d → (p.y *ℤ pos q.d) ≤ℤ (q.y *ℤ pos p.d)

pub no_later : (p q : Point) (i : Bool) → admits (point_order p q) i ≡ true → NoLater p q
no_later p q i = go (places p q)
  where
    go : {o : Ordering} → Places p q o → admits o i ≡ true → NoLater p q
    go (left h) _ = record { x = <→≤ h; y = λ e. absurd (<→≢ h e) }
    go (below e h) _ = record { x = ≡→≤ e; y = λ _. <→≤ h }
    go (same e f) _ = record { x = ≡→≤ e; y = λ _. ≡→≤ f }
    go (above e h) a = absurd (false≢true a)
    go (right h) a = absurd (false≢true a)
