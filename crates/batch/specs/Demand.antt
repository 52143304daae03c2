-- What is promised of the batch, over what a caller has: the list and the lengths, the bytes and the numbers lent, the answer,
-- and both as they are after the call.
use Rattle.std.specs.Prelude.{◌≡◌, ◌↔◌, Bool, true, false, cond, List, ℕ, ◌-◌, ◌*◌, ◌≤◌, ◌<◌, ltb, eqb, ℤ, pos, negsuc, length, get_or, take, drop, Option, None, Some}
use Rattle.std.specs.Int.Signed.{mag}
use Rattle.fractions.specs.declared.Point.{Point}
use Rattle.charts.specs.Chart.{most}
use Rattle.charts.specs.Answer.{room, done_with, refused_with}
use Rattle.charts.specs.declared.Answer.{Answer}
use Rattle.bentley_ottmann.specs.declared.Swept.{Swept}
use Rattle.batch.specs.Numbers.{word, numbers_of}
use Rattle.batch.specs.Single.{swept_alone, left_alone}
use Rattle.batch.specs.Charts.{need, total, needs}
use Rattle.batch.specs.Batch.{Batches}

-- of every call on a list of charts of these lengths that answers r and leaves the bytes `after` and the numbers `told`
abbrev pub OnEveryCall : ((list : List ℤ) (lengths lent numbers : List ℕ) (r : Answer) (after told : List ℕ) → Type 0) → Type 0
OnEveryCall P =
    (list : List ℤ) (lengths lent numbers : List ℕ) (r : Answer) (after told : List ℕ)
    → Batches list lengths lent numbers r after told → P list lengths lent numbers r after told

-- ---- what is needed
-- "n(n-1) [bytes] .., a chart whose length is no multiple of five or that has more than 200 pieces needing none"
pub data Needed (k : ℕ) : ℕ → Type 0 where
  a_chart : (n : ℕ) → k ≡ 5 * n → n ≤ most → Needed k (room n)
  too_many : (n : ℕ) → k ≡ 5 * n → most < n → Needed k 0
  no_multiple : ((n : ℕ) → ¬ (k ≡ 5 * n)) → Needed k 0

abbrev pub NeedsExactly : Type 0
NeedsExactly = (k bytes : ℕ) → (need k ≡ bytes) ↔ Needed k bytes

-- ---- refusals
-- the number that is due: "10 for more than 16 charts, then 11 when the lengths don't add up to the list or the lent bytes are
-- fewer than the charts need", "then 8 when fewer than ten numbers a chart are lent for the results"
pub data Due (list : List ℤ) (lengths lent numbers : List ℕ) : ℕ → Type 0 where
  ten : 16 < length lengths → Due list lengths lent numbers 10
  eleven_sum : length lengths ≤ 16 → ¬ (total lengths ≡ length list) → Due list lengths lent numbers 11
  eleven_room : length lengths ≤ 16 → length lent < needs lengths → Due list lengths lent numbers 11
  eight : length lengths ≤ 16 → total lengths ≡ length list → needs lengths ≤ length lent → length numbers < 10 * length lengths → Due list lengths lent numbers 8
  none : length lengths ≤ 16 → total lengths ≡ length list → needs lengths ≤ length lent → 10 * length lengths ≤ length numbers → Due list lengths lent numbers 0

-- "given exactly when"
abbrev pub RefusesExactly : Type 0
RefusesExactly = OnEveryCall (λ list lengths lent numbers r after told. (k : ℕ) → (r.number ≡ k) ↔ Due list lengths lent numbers k)

-- "A refusal returns its number and a place, with every other field zero, .. and writes nothing into lent memory."
abbrev pub RefusesWhole : Type 0
RefusesWhole =
    OnEveryCall (λ list lengths lent numbers r after told.
    (k : ℕ) → 0 < k → Due list lengths lent numbers k → (r ≡ refused_with k 0) × (after ≡ lent) × (told ≡ numbers))

-- done returns the count of charts
abbrev pub DoneExactly : Type 0
DoneExactly = OnEveryCall (λ list lengths lent numbers r after told. Due list lengths lent numbers 0 → r ≡ done_with (length lengths))

-- ---- chart by chart
-- the numbers of chart i in the list, its part of the bytes, and its result
abbrev pub numbers_at : List ℕ → List ℤ → ℕ → List ℤ
numbers_at lengths list i = take (get_or lengths i 0) (drop (total (take i lengths)) list)

abbrev pub part_at : List ℕ → List ℕ → ℕ → List ℕ
part_at lengths bytes i = take (need (get_or lengths i 0)) (drop (needs (take i lengths)) bytes)

abbrev pub result_at : List ℕ → ℕ → List ℕ
result_at told i = take 10 (drop (10 * i) told)

-- "its own result, equal to that of a single sweep in the new mode with the largest budget; a refused chart does not touch its
-- part or disturb the others": result i and part i are exactly those of the single call on list i with that part lent
abbrev pub EachAlone : Type 0
EachAlone =
    OnEveryCall (λ list lengths lent numbers r after told.
    r.number ≡ 0 → (i : ℕ) → i < length lengths
    → (result_at told i ≡ numbers_of (swept_alone (numbers_at lengths list i) (part_at lengths lent i)))
    × (part_at lengths after i ≡ left_alone (numbers_at lengths list i) (part_at lengths lent i)))

-- what lies beyond the parts and the results keeps its values
abbrev pub KeepsTheRest : Type 0
KeepsTheRest =
    OnEveryCall (λ list lengths lent numbers r after told.
    r.number ≡ 0
    → (drop (needs lengths) after ≡ drop (needs lengths) lent) × (drop (10 * length lengths) told ≡ drop (10 * length lengths) numbers))

-- ---- numbers below zero
-- 64 bits read as a signed number
unfoldable pub signed : ℕ → ℤ
signed w = cond (ltb w 9223372036854775808) (pos w) (negsuc (18446744073709551615 - w))

-- what is read in `x` and `y` is the number itself
abbrev pub ReadsBack : Type 0
ReadsBack = (z : ℤ) → mag z < 9223372036854775808 → signed (word z) ≡ z

-- ---- what a caller reads in the ten numbers of a result
abbrev pub last_in : Bool → ℤ → ℤ → ℕ → Option Point
last_in true x y d = Some (record { x = x; y = y; d = d })
last_in false x y d = None

unfoldable pub swept_in : List ℕ → Swept
swept_in l =
    record {
      number = get_or l 0 0;
      place = get_or l 1 0;
      pairs = get_or l 2 0;
      steps = get_or l 3 0;
      ended = eqb (get_or l 4 0) 1;
      complete = eqb (get_or l 5 0) 1;
      last = last_in (eqb (get_or l 6 0) 1) (signed (get_or l 7 0)) (signed (get_or l 8 0)) (get_or l 9 0);
      examined = 0;
    }

-- .. is what the single call returns
abbrev pub ReadsAlone : Type 0
ReadsAlone =
    OnEveryCall (λ list lengths lent numbers r after told.
    r.number ≡ 0 → (i : ℕ) → i < length lengths → swept_in (result_at told i) ≡ swept_alone (numbers_at lengths list i) (part_at lengths lent i))
