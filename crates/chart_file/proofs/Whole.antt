-- The whole file: which reading the tests before and after the pieces lead to, and what is answered for it.
use mathlib.Core.Path.{◌≡◌, refl, sym, ap, ◌∙◌}
use mathlib.Core.Bool.{Bool, true, false, cond}
use mathlib.Core.List.{List, ◌++◌}
use Prim.Native.Nat.{ℕ, ◌*◌, ◌≤◌, ◌<◌}
use native.Mathlib.Omega.{arith}
use borrow.Author.Tests.{ltb-false, lt-ltb, le-ltb}
use lib.Dec.{ltb}
use lib.IntN.{ℤ}
use lib.ListN.{length, take, drop}
use Rattle.charts.specs.Chart.{most}
use Rattle.std.specs.Prelude.{Result, Ok, Err}
use Rattle.charts.specs.Refusal.{number}
use Rattle.charts.specs.declared.Refusal.{Refusal}
use Rattle.charts.specs.Answer.{done_with, refused_with}
use Rattle.std.specs.Result.{MatchResult, IsErrAnd}
use Rattle.charts.specs.declared.Reason.{Reason}
use Rattle.chart_file.specs.declared.Found.{Found}
use Rattle.chart_file.specs.Found.{Groups, Value, Fault, groups_told}
use Rattle.chart_file.specs.Groups.{groups_at}
use Rattle.chart_file.specs.Format.{groups}
use Rattle.chart_file.specs.Demand.{LentExactly}
use Rattle.chart_file.specs.Reading.{Reading, due, stopped, limited, count_at, counted, pieces, ended, reading_of, lent_reading, answer_of, content_of, Reads, Left}

-- ---- before the pieces

module _ (s : List ℕ) (lent : ℕ) where
  pub too_little : lent < 5 * most → lent_reading lent s ≡ stopped 8 0
  unfolding lent_reading
  too_little h = rw (lt-ltb _ _ h)

  pub no_count : (f : ℕ) → 5 * most ≤ lent → count_at s ≡ Fault f → lent_reading lent s ≡ stopped f 0
  unfolding lent_reading reading_of counted
  no_count f h e = rw (le-ltb _ _ h, e)

  pub some_pieces : (n next : ℕ) → 5 * most ≤ lent → count_at s ≡ Value n next → lent_reading lent s ≡ ended (length s) (pieces s next n)
  unfolding lent_reading reading_of counted
  some_pieces n next h e = rw (le-ltb _ _ h, e)

-- a count that is read is a chart's
count_most : (s : List ℕ) (n next : ℕ) → count_at s ≡ Value n next → n ≤ most
unfolding count_at limited
count_most s n next = go (groups_at groups s 0)
  where
    test : (x : Bool) (m k : ℕ) → ltb most m ≡ x → cond x (Fault 3) (Value m k) ≡ Value n next → n ≤ most
    test true m k e h = let z : ◌≡◌ {A = ℕ} 0 1 = cc in absurd (omega arith)
    test false m k e h = let z : m ≡ n = cc in omega (arith, ltb-false most m e)

    go : (g : Groups) → limited g ≡ Value n next → n ≤ most
    go (Value m k) h = test (ltb most m) m k refl h
    go (Fault f) h = let z : ◌≡◌ {A = ℕ} 0 1 = cc in absurd (omega arith)

-- the count that was found, or its reason handed on with its place
abbrev pub Handed : Result (Found ℕ) Reason → Result (Found ℕ) Refusal → Type 0
Handed g r = MatchResult g (λ x. r ≡ Ok x) (λ e. IsErrAnd r (λ d. d ≡ record { reason = e; place = 0 }))

pub counted_ok : (g : Result (Found ℕ) Reason) (found : Found ℕ) (s : List ℕ) → Handed g (Ok found) → groups_told g ≡ count_at s → count_at s ≡ Value found.value found.next
counted_ok (Ok x) found s q e = let z : found ≡ x = cc in sym e ∙ rw z
counted_ok (Err reason) found s q e = absurd q

pub counted_err : (g : Result (Found ℕ) Reason) (r : Refusal) (s : List ℕ) → Handed g (Err r) → groups_told g ≡ count_at s → (reason : Reason) × (count_at s ≡ Fault (number reason)) × (r ≡ record { reason = reason; place = 0 })
counted_err (Ok x) r s q e = cc
counted_err (Err reason) r s q e = (reason, sym e, q)

pub found_most : (g : Result (Found ℕ) Reason) (found : Found ℕ) (s : List ℕ) → Handed g (Ok found) → groups_told g ≡ count_at s → found.value ≤ most
found_most g found s h e = count_most s found.value found.next (counted_ok g found s h e)

-- ---- after them

module _ (n : ℕ) (list : List ℤ) where
  pub left_length : (w : Reading) (r : Result ℕ Refusal) → Left n w r list → length list ≡ 5 * most
  left_length (due xs at) r k = k.2
  left_length (stopped f p) r k = k.1

  pub ended_refused : (w : Reading) (r : Refusal) (size : ℕ) → Left n w (Err r) list → ended size w ≡ stopped (number r.reason) r.place
  unfolding ended
  ended_refused (due xs at) r size k = cc
  ended_refused (stopped f p) r size k = cc

  pub ended_extra : (w : Reading) (at size : ℕ) → Left n w (Ok at) list → at < size → ended size w ≡ stopped 7 at
  unfolding ended
  ended_extra (due xs from) at size k h =
      let e : from ≡ at = cc in
      rw (e, lt-ltb at size h)
  ended_extra (stopped f p) at size k h = cc

  pub ended_there : (w : Reading) (at size : ℕ) → Left n w (Ok at) list → size ≤ at → ended size w ≡ due (take (5 * n) list) at
  unfolding ended
  ended_there (due xs from) at size k h =
      let e : from ≡ at = cc in
      rw (e, le-ltb at size h, k.1)
  ended_there (stopped f p) at size k h = cc

-- ---- what is answered

module _ (s : List ℕ) (list : List ℤ) where
  pub answers_refusal : (f p : ℕ) → lent_reading (length list) s ≡ stopped f p → Reads s list (refused_with f p) list
  unfolding answer_of content_of
  answers_refusal f p e = record { answer = rw e refl; content = rw e refl }

  pub answers_chart : (after xs : List ℤ) (n at : ℕ) → lent_reading (length list) s ≡ due xs at → length xs ≡ 5 * n → after ≡ xs ++ drop (5 * n) list → Reads s list (done_with n) after
  unfolding answer_of content_of
  answers_chart after xs n at e l k = record { answer = rw (e, l) (ap done_with (omega arith)); content = rw (e, l) k }

pub lent_exactly : LentExactly
unfolding lent_reading
lent_exactly lent s = (too_little s lent, λ h. rw (le-ltb _ _ h))
