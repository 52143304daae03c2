-- No number of a chart reaches past the longest file, so what lies behind that and one byte more decides nothing.
use mathlib.Core.Path.{◌≡◌, refl, sym, ap, ◌∙◌}
use mathlib.Core.Bool.{Bool, true, false, cond, ◌&&◌}
use mathlib.Core.List.{List, [], ◌∷◌}
use Prim.Native.Nat.{ℕ, zero, suc, ◌+◌, ◌*◌, ◌-◌, ◌^◌, ◌≤◌, ◌<◌, min}
use native.Mathlib.Decide.{dec_lt}
use native.Mathlib.Omega.{arith}
use lib.Dec.{ltb, leb, eqb}
use lib.IntN.{ℤ, pos, neg_ℤ}
use lib.ListN.{length, get_or, take, drop, length-drop}
use lib.Seq.{take-nil, length-take-le, get_or-take, take-take, take_all}
use borrow.Author.Tests.{ltb-false, leb-false, le-leb, lt-leb, lt-ltb, eq-eqb}
use Rattle.charts.specs.Fault.{range, outside}
use Rattle.charts.specs.Chart.{most, fault_at}
use Rattle.chart_file.specs.Found.{Groups, Value, Fault, Number, Read, Refused}
use Rattle.chart_file.specs.Groups.{value, marked, groups_at}
use Rattle.chart_file.specs.Coordinate.{signed_of}
use Rattle.chart_file.specs.Format.{groups, longest}
use Rattle.chart_file.specs.Reading.{Reading, due, stopped, limited, count_at, counted, kind_at, turned, coordinate_at, stands_at, joined, more, numbers, with_length, piece, pieces, ended, reading_of}
use Rattle.chart_file.specs.Early.{DecidedEarly}
use Rattle.chart_file.proofs.Spelling.{marked_last, marked_more}
use Rattle.chart_file.proofs.AtPlace.{value_least}
use Rattle.chart_file.proofs.Marks.{and_neither}

-- ---- the front of a list
drop_take : (i j : ℕ) (l : List ℕ) → i ≤ j → drop i (take j l) ≡ take (j - i) (drop i l)
drop_take zero j l h = let z : j ≡ j - 0 = omega arith in ap (λ (m : ℕ). take m l) z
drop_take (suc i) zero l h = absurd (omega arith)
drop_take (suc i) (suc j) [] h = sym (take-nil (suc j - suc i))
drop_take (suc i) (suc j) (x ∷ l) h = let z : j - i ≡ suc j - suc i = omega arith in drop_take i j l (omega arith) ∙ ap (λ (m : ℕ). take m (drop i l)) z

-- how many of its bytes have their high bit set, from the start
marked_take : (m : ℕ) (u : List ℕ) → marked (take m u) ≡ min m (marked u)
unfolding marked
marked_take zero u = omega arith
marked_take (suc m) [] = omega arith
marked_take (suc m) (b ∷ u) = elim (dec_lt b 128) [
  | yes l ↦ marked_last b (take m u) l ∙ omega (arith, marked_last b u l)
  | no l ↦
      let g : 128 ≤ b = omega arith in
      omega (arith, marked_more b (take m u) g, marked_take m u, marked_more b u g)
]

-- ---- an input of more than j bytes, and its first j
module _ (s : List ℕ) (j : ℕ) (long : j < length s) where
  front_length : length (take j s) ≡ j
  front_length = length-take-le j s (omega arith)

  -- a number that starts far enough from the end of the front
  groups_same : (k at : ℕ) → at + k ≤ j → groups_at k (take j s) at ≡ groups_at k s at
  unfolding groups_at
  groups_same k at h =
      let u = drop at s in
      let m = j - at in
      let same = marked_take m u in
      let whole = length-drop at s in
      elim (dec_lt (marked u) k) [
        | yes l ↦
            let e : marked (take m u) ≡ marked u = omega arith in
            rw (drop_take at j s (omega arith), e, get_or-take m u (marked u) 0 (omega arith), take-take (suc (marked u)) m u (omega arith), length-take-le m u (omega arith), lt-leb m (marked u) (omega arith), lt-leb (length u) (marked u) (omega arith))
        | no l ↦ rw (drop_take at j s (omega arith), le-leb k (marked (take m u)) (omega arith), le-leb k (marked u) (omega arith))
      ]

  kind_same : (at : ℕ) → at < j → kind_at (take j s) at ≡ kind_at s at
  unfolding kind_at
  kind_same at h = rw (front_length, get_or-take j s at 0 h, lt-leb j at h, lt-leb (length s) at (omega arith))

  stands_same : (c at : ℕ) → at + groups ≤ j → stands_at (take j s) c at ≡ stands_at s c at
  unfolding stands_at coordinate_at
  stands_same zero at h = kind_same at (omega arith)
  stands_same (suc c) at h = ap turned (groups_same groups at h)

-- ---- how far a number reaches
abbrev GroupsBy : ℕ → Groups → Type 0
GroupsBy b (Value v next) = next ≤ b
GroupsBy b (Fault f) = Unit

abbrev NumberBy : ℕ → Number → Type 0
NumberBy b (Read v next) = next ≤ b
NumberBy b (Refused f) = Unit

abbrev ReadingBy : ℕ → Reading → Type 0
ReadingBy b (due xs at) = at ≤ b
ReadingBy b (stopped f p) = Unit

either : {A : Type 0} (P : A → Type 0) (t : Bool) {x y : A} → P x → P y → P (cond t x y)
either P true p q = p
either P false p q = q

groups_reach : (k : ℕ) (s : List ℕ) (at : ℕ) → GroupsBy (at + k) (groups_at k s at)
unfolding groups_at
groups_reach k s at = elim (dec_lt (marked (drop at s)) k) [
  | yes l ↦
      let by = GroupsBy (at + k) in
      either by (leb k (marked (drop at s))) tt
      (either by (leb (length (drop at s)) (marked (drop at s))) tt
      (either by (ltb 0 (marked (drop at s)) && eqb (get_or (drop at s) (marked (drop at s)) 0) 0) tt (omega arith)))
  | no l ↦ rw (le-leb k (marked (drop at s)) (omega arith)) tt
]

-- a chart's count takes two groups at most
abbrev CountBy : Groups → Type 0
CountBy (Value n next) = (n ≤ most) × (next ≤ 2)
CountBy (Fault f) = Unit

count_reach : (s : List ℕ) → CountBy (count_at s)
unfolding count_at limited groups_at
count_reach s = go (leb groups m) (leb (length s) m) (ltb 0 m && eqb (get_or s m 0) 0) refl refl refl
  where
    m : ℕ
    m = marked s

    v : ℕ
    v = value (take (suc m) s)

    large : (m v : ℕ) → m ≡ 2 → 128 ^ m ≤ v → v ≤ most → ⊥
    large m v e w few = omega (arith, rw e at w)

    short : m < groups → m < length s → ((ltb 0 m && eqb (get_or s m 0) 0) ≡ false) → v ≤ most → suc m ≤ 2
    short h l e few = elim (dec_lt m 2) [
      | yes y ↦ y
      | no y ↦
          let w : 128 ^ m ≤ v = value_least s l (λ z. and_neither (ltb 0 m) (eqb (get_or s m 0) 0) e (lt-ltb 0 m (omega arith)) (eq-eqb (get_or s m 0) 0 z)) in
          absurd (large m v (omega arith) w few)
    ]

    test : (x : Bool) → ltb most v ≡ x → m < groups → m < length s → ((ltb 0 m && eqb (get_or s m 0) 0) ≡ false) → CountBy (cond x (Fault 3) (Value v (0 + suc m)))
    test true q h l e = tt
    test false q h l e = (ltb-false most v q, omega (arith, short h l e (ltb-false most v q)))

    go : (x y z : Bool) → leb groups m ≡ x → leb (length s) m ≡ y → (ltb 0 m && eqb (get_or s m 0) 0) ≡ z
        → CountBy (limited (cond x (Fault 2) (cond y (Fault 1) (cond z (Fault 2) (Value v (0 + suc m))))))
    go true y z ex ey ez = tt
    go false true z ex ey ez = tt
    go false false true ex ey ez = tt
    go false false false ex ey ez = test (ltb most v) refl (leb-false groups m ex) (leb-false (length s) m ey) ez

kind_reach : (s : List ℕ) (at : ℕ) → NumberBy (at + 1) (kind_at s at)
unfolding kind_at
kind_reach s at =
    let by = NumberBy (at + 1) in
    either by (leb (length s) at) tt (either by (outside (pos 0) (pos 3) (pos (get_or s at 0))) tt (omega arith))

turned_reach : (b : ℕ) (g : Groups) → GroupsBy b g → NumberBy b (turned g)
unfolding turned
turned_reach b (Value u next) h = either (NumberBy b) (outside (neg_ℤ range) range (signed_of u)) tt h
turned_reach b (Fault f) h = tt

-- a piece's kind takes one byte, and each coordinate three at most
abbrev span : ℕ → ℕ
span zero = 0
span (suc c) = 1 + groups * c

span_most : (c : ℕ) → c < 5 → span c ≤ 10
span_most zero h = omega arith
span_most (suc c) h = omega arith

number_later : (n : Number) {a b : ℕ} → NumberBy a n → a ≤ b → NumberBy b n
number_later (Read v next) h l = omega arith
number_later (Refused f) h l = tt

stands_reach : (s : List ℕ) (c at b : ℕ) → at ≤ b + span c → NumberBy (b + span (suc c)) (stands_at s c at)
unfolding stands_at coordinate_at
stands_reach s zero at b h = number_later (kind_at s at) (kind_reach s at) (omega arith)
stands_reach s (suc c) at b h = number_later (coordinate_at s at) (turned_reach (at + groups) (groups_at groups s at) (groups_reach groups s at)) (omega arith)

reading_later : (r : Reading) {a b : ℕ} → ReadingBy a r → a ≤ b → ReadingBy b r
reading_later (due xs at) h l = omega arith
reading_later (stopped f p) h l = tt

joined_reach : (xs : List ℤ) (at b : ℕ) (n : Number) → NumberBy b n → ReadingBy b (joined xs at n)
unfolding joined
joined_reach xs at b (Read v next) h = h
joined_reach xs at b (Refused f) h = tt

-- ---- an input of more than j bytes reads as its first j do, as long as no number comes close to that end
module _ (s : List ℕ) (j : ℕ) (long : j < length s) where
  -- both readings are one, and it has come no farther than b
  record Alike (b : ℕ) (x y : Reading) : Type 0 where
    same : x ≡ y
    reach : ReadingBy b y

  more_alike : (c b : ℕ) (r : Reading) → b + span c + groups ≤ j → ReadingBy (b + span c) r
      → Alike (b + span (suc c)) (more (stands_at (take j s) c) r) (more (stands_at s c) r)
  unfolding more
  more_alike c b (due xs at) l h = record { same = ap (joined xs at) (stands_same s j long c at (omega arith)); reach = joined_reach xs at (b + span (suc c)) (stands_at s c at) (stands_reach s c at b h) }
  more_alike c b (stopped f p) l h = record { same = refl; reach = tt }

  numbers_alike : (c b : ℕ) (r : Reading) → c ≤ 5 → b + 13 ≤ j → ReadingBy b r → Alike (b + span c) (numbers (take j s) c r) (numbers s c r)
  unfolding numbers
  numbers_alike zero b r n l h = record { same = refl; reach = reading_later r h (omega arith) }
  numbers_alike (suc c) b r n l h =
      let before = numbers_alike c b r (omega arith) l h in
      let now = more_alike c b (numbers s c r) (omega (arith, span_most c n)) before.reach in
      record { same = ap (more (stands_at (take j s) c)) before.same ∙ now.same; reach = now.reach }

  length_alike : (p start b : ℕ) {x y : Reading} → Alike b x y → Alike b (with_length p start x) (with_length p start y)
  unfolding with_length
  length_alike p start b {x} {y} a = record { same = ap (with_length p start) a.same; reach = go y a.reach }
    where
      go : (y : Reading) → ReadingBy b y → ReadingBy b (with_length p start y)
      go (due xs at) h = either (ReadingBy b) (eqb (fault_at xs p) 0) h tt
      go (stopped f q) h = tt

  piece_alike : (p b : ℕ) (r : Reading) → b + 13 ≤ j → ReadingBy b r → Alike (b + 13) (piece (take j s) p r) (piece s p r)
  unfolding piece
  piece_alike p b (due xs at) l h = length_alike p at (b + 13) (numbers_alike 5 b (due xs at) (omega arith) l h)
  piece_alike p b (stopped f q) l h = record { same = refl; reach = tt }

  pieces_alike : (from n : ℕ) → from + 13 * n ≤ j → Alike (from + 13 * n) (pieces (take j s) from n) (pieces s from n)
  unfolding pieces
  pieces_alike from zero l = record { same = refl; reach = omega arith }
  pieces_alike from (suc n) l =
      let before = pieces_alike from n (omega arith) in
      let now = piece_alike n (from + 13 * n) (pieces s from n) (omega arith) before.reach in
      let e : from + 13 * n + 13 ≡ from + 13 * suc n = omega arith in
      record { same = ap (piece (take j s) n) before.same ∙ now.same; reach = rw e at now.reach }

  ended_same : (r : Reading) → ReadingBy longest r → longest < j → ended (length (take j s)) r ≡ ended (length s) r
  unfolding ended
  ended_same (due xs at) h l = rw (front_length s j long, lt-ltb at j (omega arith), lt-ltb at (length s) (omega arith))
  ended_same (stopped f p) h l = refl

  reading_same : longest < j → reading_of (take j s) ≡ reading_of s
  unfolding reading_of count_at counted
  reading_same l = rw (groups_same s j long groups 0 (omega arith)) (go (count_at s) (count_reach s))
    where
      go : (g : Groups) → CountBy g → counted (take j s) g ≡ counted s g
      go (Value n next) h =
          let a = pieces_alike next n (omega arith) in
          ap (ended (length (take j s))) a.same ∙ ended_same (pieces s next n) (reading_later (pieces s next n) a.reach (omega arith)) l
      go (Fault f) h = refl

pub decided_early : DecidedEarly
decided_early s k l = elim (dec_lt k (length s)) [
  | yes h ↦ reading_same s k h l
  | no h ↦ ap reading_of (take_all k s (omega arith))
]
