-- What the two calls for C say that answer with a sign, -1, 0 or 1: each exactly when.
use Rattle.std.specs.Prelude.{◌≡◌, ◌⊎◌, ◌↔◌, ℤ, pos, negsuc, ◌*ℤ◌, ◌<ℤ◌}
use Rattle.fractions.specs.Point.{point_order}
use Rattle.fractions.specs.declared.Point.{Point}
use Rattle.orientation.specs.Turn.{det, turn_of}
use Rattle.c_records.specs.Numbers.{turn_number, order_number}

pub record Sign (r : ℤ) (Below Even Above : Type 0) : Type 0 where
  pub below : (r ≡ negsuc 0) ↔ Below
  pub even : (r ≡ pos 0) ↔ Even
  pub above : (r ≡ pos 1) ↔ Above

-- "the sign of (x2-x1)(y3-y1) - (y2-y1)(x3-x1)"
abbrev pub TurnsBySign : Type 0
TurnsBySign =
    (x1 y1 x2 y2 x3 y3 r : ℤ) → r ≡ turn_number (turn_of (det x1 y1 x2 y2 x3 y3))
    → Sign r (det x1 y1 x2 y2 x3 y3 <ℤ pos 0) (det x1 y1 x2 y2 x3 y3 ≡ pos 0) (pos 0 <ℤ det x1 y1 x2 y2 x3 y3)

-- "Points are ordered by x, then y.", multiplied out
abbrev pub Comes : Point → Point → Type 0
Comes p q =
    ((p.x *ℤ pos q.d) <ℤ (q.x *ℤ pos p.d))
    ⊎ ((p.x *ℤ pos q.d ≡ q.x *ℤ pos p.d) × ((p.y *ℤ pos q.d) <ℤ (q.y *ℤ pos p.d)))

abbrev pub OnePoint : Point → Point → Type 0
OnePoint p q = (p.x *ℤ pos q.d ≡ q.x *ℤ pos p.d) × (p.y *ℤ pos q.d ≡ q.y *ℤ pos p.d)

abbrev pub ComparesBySign : Type 0
ComparesBySign = (p q : Point) (r : ℤ) → r ≡ order_number (point_order p q) → Sign r (Comes p q) (OnePoint p q) (Comes q p)
