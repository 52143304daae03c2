-- A step done in place: the block of pieces through the next point is replaced, and everything outside it stays.
-- What it leaves is what the step of Steps leaves (Demand), by the facts of geometry that stand here last.
use Rattle.std.specs.Prelude.{◌≡◌, ◌↔◌, Bool, true, false, cond, ◌&&◌, ◌||◌, not, List, [], ◌∷◌, ◌++◌, map, ℕ, zero, suc, ◌+◌, ◌-◌, ◌<◌, eqb, length, take, drop}
use Rattle.std.proofs.Math.Option.{Option, none, some}
use Rattle.std.specs.declared.cmp.Ordering.{Ordering}
use Rattle.std.specs.declared.cmp.Ordering.TheVariants.{Less, Equal, Greater}
use Rattle.std.specs.Ordering.{is_gt}
use Rattle.sweep.specs.Lists.{Pair, upto, keep, any, sort, pairs, lesser_first, last_of, adjacent}
use Rattle.sweep.specs.Chart.{Kind, nothing, crosses, overlaps, Chart, kind, at}
use Rattle.sweep.specs.Queue.{ends, beyond, least}
use Rattle.sweep.specs.Step.{starts, finishes}
use Rattle.sweep.specs.Run.{Answer, is_none}
use Rattle.sweep.specs.Sought.{is_crossing}
use Rattle.sweep.specs.Geometry.{Occurs, Under, CrossBetween, Geometry}
use Rattle.sweep.specs.Ported.{is_less, is_equal}

abbrev pub is_greater_lem : Ordering → Bool
is_greater_lem = is_gt

-- the lanes that are taken
unfoldable pub somes : {A : Type 0} → List (Option A) → List A
somes [] = []
somes (none ∷ l) = somes l
somes (some a ∷ l) = a ∷ somes l

-- the pair where one list ends and the next begins, if neither is empty
unfoldable pub joint_of : Option ℕ → List ℕ → List Pair
joint_of none l = []
joint_of (some i) [] = []
joint_of (some i) (j ∷ l) = lesser_first i j ∷ []

unfoldable pub joint : List ℕ → List ℕ → List Pair
joint k l = joint_of (last_of k) l

module _ (C : Chart) where
  open C use {Point}

  -- of two pieces at p, a crossing is new, and an overlap is where one of them starts
  unfoldable pub fresh_by : Kind → Point → Pair → Bool
  fresh_by nothing p q = false
  fresh_by crosses p q = true
  fresh_by overlaps p q = starts C p q.0 || starts C p q.1

  unfoldable pub fresh : Point → Pair → Bool
  fresh p q = fresh_by (kind C q) p q

  -- a pair's lane: its crossing beyond the last point, or none
  unfoldable pub lane : Option Point → Pair → Option Point
  lane last q = cond (is_crossing (kind C q) && beyond C last (at C q)) (some (at C q)) none

  unfoldable pub lanes : Option Point → List ℕ → List (Option Point)
  lanes last active = map (lane last) (adjacent active)

  -- what is held between two steps, the lanes with it
  pub record Held : Type 0 where
    pub active : List ℕ
    pub lanes : List (Option Point)
    pub listed : List Pair
    pub last : Option Point
    pub steps : ℕ

  unfoldable pub empty : Held
  empty = record { active = []; lanes = []; listed = []; last = none; steps = 0 }

  -- the next point is the least of the ends beyond the last point and the lanes
  unfoldable pub held_next : Held → Option Point
  held_next h = least C (keep (beyond C h.last) (ends C (upto C.n)) ++ somes h.lanes)

-- how a chart's pieces lie of a point: Less where p is below piece i, Equal where it is on it, Greater where it is above;
-- and whether i comes before j by rising slope (an upright piece last), then number
pub record Sides (C : Chart) : Type 0 where
  pub aside : C.Point → ℕ → Ordering
  pub rises : ℕ → ℕ → Bool

module _ (C : Chart) (S : Sides C) where
  open C use {Point, less, n, max, before}
  open S use {aside, rises}

  -- the active pieces that lie below p, go through it, lie above it
  unfoldable pub below : List ℕ → Point → List ℕ
  below active p = keep (λ i. is_greater_lem (aside p i)) active

  unfoldable pub block : List ℕ → Point → List ℕ
  block active p = keep (λ i. is_equal (aside p i)) active

  unfoldable pub above : List ℕ → Point → List ℕ
  above active p = keep (λ i. is_less (aside p i)) active

  -- the members of the block that go on and the pieces that start, by slope and number
  unfoldable pub renewed : List ℕ → Point → List ℕ
  renewed active p = sort rises (keep (λ i. not (finishes C p i)) (block active p) ++ keep (starts C p) (upto n))

  unfoldable pub replaced : List ℕ → Point → List ℕ
  replaced active p = below active p ++ (renewed active p ++ above active p)

  -- the pieces at p: the block and the pieces that start, in number order
  unfoldable pub gathered : List ℕ → Point → List ℕ
  gathered active p = keep (λ i. starts C p i || any (eqb i) (block active p)) (upto n)

  -- listing without marks
  unfoldable pub fresh_pairs : List ℕ → Point → List Pair
  fresh_pairs active p = keep (fresh C p) (pairs (gathered active p))

  -- the lanes after a step at p: those outside the block stay, there is none inside it, and the outer pairs are worked out
  -- anew; where the block is empty that is the one pair that closes up
  unfoldable pub relaned : List (Option Point) → List ℕ → Point → List (Option Point)
  relaned old active p =
      take (length (below active p) - 1) old
      ++ (map (lane C (some p)) (joint (below active p) (renewed active p ++ above active p))
      ++ (map (λ q. none) (adjacent (renewed active p))
      ++ (map (lane C (some p)) (joint (renewed active p) (above active p))
      ++ drop (length (below active p) + length (block active p)) old)))

  unfoldable pub held_step : Held C → Point → Held C
  held_step h p = record {
    active = replaced h.active p;
    lanes = relaned h.lanes h.active p;
    listed = h.listed ++ fresh_pairs h.active p;
    last = some p;
    steps = suc h.steps;
  }

  unfoldable pub held_to : Held C → Option Point → Held C
  held_to h none = h
  held_to h (some p) = held_step h p

  unfoldable pub held_run : ℕ → Held C
  held_run zero = empty C
  held_run (suc m) = held_to (held_run m) (held_next C (held_run m))

  unfoldable pub held_answer : ℕ → Answer C
  held_answer m = record {
    listed = (held_run m).listed;
    steps = (held_run m).steps;
    ended = is_none C (held_next C (held_run m));
    complete = true;
    last = (held_run m).last;
  }

  -- What this needs of geometry, beyond Geometry. l is the last point, p the next.
  pub record InPlaceFacts (G : Geometry C) : Type 0 where
    -- p is on a piece exactly where it lies neither below nor above it
    pub aside_on : (p : Point) (i : ℕ) → Occurs C p → i < n → less p (C.min i) ≡ false → less (max i) p ≡ false → (aside p i ≡ Equal) ↔ G.On i p
    -- along the active list the side of p never goes back
    pub below_stays : (l p : Point) → Occurs C l → Occurs C p → less l p ≡ true → (i j : ℕ) → Under C l i → Under C l j
        → less (max i) p ≡ false → less (max j) p ≡ false → before l i j ≡ true → ¬ CrossBetween C l p i j
        → aside p i ≡ Less → aside p j ≡ Less
    pub above_stays : (l p : Point) → Occurs C l → Occurs C p → less l p ≡ true → (i j : ℕ) → Under C l i → Under C l j
        → less (max i) p ≡ false → less (max j) p ≡ false → before l i j ≡ true → ¬ CrossBetween C l p i j
        → aside p j ≡ Greater → aside p i ≡ Greater
    -- two pieces that are not both on p stay in order
    pub persists : (l p : Point) → Occurs C l → Occurs C p → less l p ≡ true → (i j : ℕ) → Under C l i → Under C l j
        → less p (max i) ≡ true → less p (max j) ≡ true → before l i j ≡ true → ¬ CrossBetween C l p i j
        → ¬ ((aside p i ≡ Equal) × (aside p j ≡ Equal)) → before p i j ≡ true
    -- pieces through p stand by slope and number
    pub on_rises : (p : Point) → Occurs C p → (i j : ℕ) → Under C p i → Under C p j → G.On i p → G.On j p → before p i j ≡ rises i j
    -- those below p come before those through it, and these before those above it
    pub below_first : (p : Point) → Occurs C p → (i k : ℕ) → Under C p i → Under C p k → aside p i ≡ Greater → G.On k p → before p i k ≡ true
    pub above_last : (p : Point) → Occurs C p → (k j : ℕ) → Under C p k → Under C p j → G.On k p → aside p j ≡ Less → before p k j ≡ true
