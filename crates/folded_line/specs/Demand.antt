-- What is promised of a folded line, over whole numbers and over what lies on a piece.
use Rattle.std.specs.Prelude.{◌≡◌, true, ◌⊎◌, ◌↔◌, List, ℕ, suc, ◌+◌, ◌*◌, ◌-◌, ◌≤◌, ◌<◌, ℤ, pos, ◌*ℤ◌, length, take, drop}
use Rattle.fractions.specs.declared.Point.{Point}
use Rattle.fractions.specs.Point.{whole_of}
use Rattle.line_segment.specs.Geometry.{LiesOn}
use Rattle.charts.specs.Chart.{most, number_at, verdict_of}
use Rattle.charts.specs.Piece.{piece_at, no_upright}
use Rattle.charts.specs.Answer.{done_with, refused_with}
use Rattle.charts.specs.declared.Answer.{Answer}
use Rattle.charts.specs.Verdict.{Verdict}
use Rattle.charts.specs.Verdict.{Accepted, Refused}
use Rattle.folded_line.specs.Folded.{folded}
use Rattle.folded_line.specs.Line.{line}
use Rattle.folded_line.specs.Drawing.{most_order, limit, most_pieces, drawing_of, Draws}

-- ---- the folded value
-- how far apart two numbers lie
abbrev pub gap : ℕ → ℕ → ℕ
gap a b = (a - b) + (b - a)

-- "how far it lies from the nearest even multiple of H": it is so far from one of them, and from none nearer
pub record Nearest (h v f : ℕ) : Type 0 where
  pub multiple : ℕ
  pub reached : gap v (multiple * (2 * h)) ≡ f
  pub nearest : (k : ℕ) → f ≤ gap v (k * (2 * h))

abbrev pub FoldsToNearest : Type 0
FoldsToNearest = (h v : ℕ) → 0 < h → Nearest h v (folded h v)

-- ---- refusals
abbrev pub Off : ℕ → ℕ → Type 0
Off high v = (v < 1) ⊎ (high < v)

module _ (m h s : ℕ) where
  -- "12 an argument out of range"
  abbrev pub Row12 : Type 0
  Row12 = Off most_order m ⊎ (Off limit h ⊎ Off limit s)

  -- "13 when mS is above H and m doesn't divide H"
  abbrev pub Row13 : Type 0
  Row13 = (h < m * s) × ((w : ℕ) → ¬ (h ≡ w * m))

  -- n is the least number of stretches of height H that reach m times S
  pub record Pieces (n : ℕ) : Type 0 where
    pub enough : m * s ≤ n * h
    pub least : (k : ℕ) → k < n → k * h < m * s

  -- the verdict that is due where so many numbers are lent; the place is zero
  pub data Due (lent : ℕ) : Verdict → Type 0 where
    twelve : Row12 → Due lent (Refused 12 0)
    thirteen : ¬ Row12 → Row13 → Due lent (Refused 13 0)
    -- "14 more than 200 pieces"
    fourteen : ¬ Row12 → ¬ Row13 → (n : ℕ) → Pieces n → most_pieces < n → Due lent (Refused 14 0)
    -- "8 fewer lent numbers than five a piece"
    eight : ¬ Row12 → ¬ Row13 → (n : ℕ) → Pieces n → n ≤ most_pieces → lent < 5 * n → Due lent (Refused 8 0)
    drawn : ¬ Row12 → ¬ Row13 → (n : ℕ) → Pieces n → n ≤ most_pieces → 5 * n ≤ lent → Due lent (Accepted n)

abbrev pub RefusesExactly : Type 0
RefusesExactly = (m h s lent : ℕ) (v : Verdict) → (drawing_of m h s lent ≡ v) ↔ Due m h s lent v

-- of every call that draws into the numbers `lent`, answers r and leaves the numbers `after`
abbrev pub OnEveryCall : (ℕ → ℕ → ℕ → List ℤ → Answer → List ℤ → Type 0) → Type 0
OnEveryCall P = (m h s : ℕ) (lent : List ℤ) (r : Answer) (after : List ℤ) → Draws m h s lent r after → P m h s lent r after

-- "A refusal returns its number and a place, with every other field zero, .. and writes nothing into lent memory."
abbrev pub RefusesWhole : Type 0
RefusesWhole =
    OnEveryCall (λ m h s lent r after.
    (number place : ℕ) → Due m h s (length lent) (Refused number place) → (r ≡ refused_with number place) × (after ≡ lent))

-- done has place zero and the count of pieces, five numbers each; "numbers past the last piece keep their values"
abbrev pub DoneExactly : Type 0
DoneExactly =
    OnEveryCall (λ m h s lent r after.
    (n : ℕ) → Due m h s (length lent) (Accepted n)
    → (r ≡ done_with n) × (take (5 * n) after ≡ line m h s) × (drop (5 * n) after ≡ drop (5 * n) lent))

-- ---- the line that is drawn, of n pieces, where some room lets the call go ahead
abbrev pub OfEveryLine : (ℕ → ℕ → ℕ → ℕ → List ℤ → Type 0) → Type 0
OfEveryLine P = (m h s lent n : ℕ) → drawing_of m h s lent ≡ Accepted n → P m h s n (line m h s)

-- piece j of the list holds the point, and no other piece does
pub record HeldOnce (list : List ℤ) (n : ℕ) (p : Point) : Type 0 where
  pub piece : ℕ
  pub one : piece < n
  pub held : LiesOn (piece_at list piece) p
  pub no_other : (i : ℕ) → i < n → LiesOn (piece_at list i) p → i ≡ piece

-- "For every whole x from 0 to S exactly one piece holds the folded value."
abbrev pub HoldsFolded : Type 0
HoldsFolded = OfEveryLine (λ m h s n list. (x : ℕ) → x ≤ s → HeldOnce list n (whole_of (pos x) (pos (folded h (m * x)))))

-- .. and no piece holds any other point at that x
abbrev pub HoldsNothingElse : Type 0
HoldsNothingElse =
    OfEveryLine (λ m h s n list.
    (x i : ℕ) (p : Point) → i < n → 0 < p.d → p.x ≡ pos x *ℤ pos p.d → LiesOn (piece_at list i) p
    → (x ≤ s) × (p.y ≡ pos (folded h (m * x)) *ℤ pos p.d))

-- the same at every x from 0 to S, X/D with whole X and D: H and m times x, both times D
abbrev pub HoldsBetween : Type 0
HoldsBetween =
    OfEveryLine (λ m h s n list.
    (x d : ℕ) → 0 < d → x ≤ s * d → HeldOnce list n (record { x = pos x; y = pos (folded (h * d) (m * x)); d = d }))

-- "Joints lie at jH/m": piece j begins there, on the fold, and ends where the next begins, the last at S
pub record Joined (m h s n : ℕ) (list : List ℤ) (j x1 x2 : ℕ) : Type 0 where
  pub begins : number_at list j 1 ≡ pos x1
  pub begins_at : number_at list j 2 ≡ pos (folded h (m * x1))
  pub ends : number_at list j 3 ≡ pos x2
  pub ends_at : number_at list j 4 ≡ pos (folded h (m * x2))
  pub rightward : x1 < x2
  pub joint : m * x1 ≡ j * h
  pub next : suc j < n → m * x2 ≡ suc j * h
  pub last : suc j ≡ n → x2 ≡ s
  -- the next piece begins where this one ends
  pub onward : suc j < n → (number_at list (suc j) 1 ≡ pos x2) × (number_at list (suc j) 2 ≡ pos (folded h (m * x2)))
  -- "Each piece includes its first end and excludes its last, but the final piece includes both"
  pub half_open : suc j < n → number_at list j 0 ≡ pos 1
  pub closed : suc j ≡ n → number_at list j 0 ≡ pos 3

abbrev pub RunsLeftToRight : Type 0
RunsLeftToRight = OfEveryLine (λ m h s n list. (j : ℕ) → j < n → (x1 x2 : ℕ) × Joined m h s n list j x1 x2)

-- every call takes the list, where a chart may have so many pieces, and no piece is upright
abbrev pub AcceptedByAll : Type 0
AcceptedByAll = OfEveryLine (λ m h s n list. (n ≤ most → verdict_of list ≡ Accepted n) × (no_upright list n ≡ true))
