-- What is promised where a piece is taken out, or put in: of the pairs that a caller reads in the lent bytes after either call.
use Rattle.std.specs.Prelude.{◌≡◌, ◌⊎◌, true, List, ℕ, ◌*◌, ◌-◌, ◌<◌, ◌≤◌, ℤ, length}
use mathlib.Core.List.{Memᴰ as In}
use Rattle.charts.specs.declared.Answer.{Answer}
use Rattle.sweep.specs.Lists.{Pair}
use Rattle.bentley_ottmann.specs.declared.Swept.{Swept}
use Rattle.promises.specs.Chart.{Accepts, NoneUpright}
use Rattle.promises.specs.Sweep.{Ported, listed_in}
use Rattle.promises.specs.AllPairs.{Allowed}
use Rattle.promises.specs.AllPairs.{listed_in as all_in}
use Rattle.full_promises.specs.Sweep.{Full}
use Rattle.piece_out.specs.Cut.{cut_out, put_in, lower_both, raise_both, of_piece, without}

-- a chart stays one without a piece, and has no upright piece if it had none
pub record StillAChart (list : List ℤ) (n i : ℕ) (lent : List ℕ) : Type 0 where
  pub accepted : Accepts (cut_out i list) lent (n - 1)
  pub none_upright : NoneUpright list n → NoneUpright (cut_out i list) (n - 1)

abbrev pub CutIsAChart : Type 0
CutIsAChart = (list : List ℤ) (n i : ℕ) (lent : List ℕ) → Accepts list lent n → i < n → StillAChart list n i lent

-- "taking any piece out and closing up the numbers gives the old list without that piece's pairs, the rest in the same order":
-- of the ported sweep run to its end, on a chart with no upright piece
abbrev pub PortedWithout : Type 0
PortedWithout =
    (list : List ℤ) (n i a b : ℕ) (lent : List ℕ) (r s : Swept) (after beyond : List ℕ)
    → Accepts list lent n → NoneUpright list n → i < n
    → Ported list a lent r after → r.ended ≡ true → Ported (cut_out i list) b lent s beyond → s.ended ≡ true
    → listed_in s beyond ≡ without i (listed_in r after)

-- of the new mode run to its end, on every chart
abbrev pub NewWithout : Type 0
NewWithout =
    (list : List ℤ) (n i a b : ℕ) (lent : List ℕ) (r s : Swept) (after beyond : List ℕ) → Accepts list lent n → i < n
    → Full list a lent r after → r.ended ≡ true → Full (cut_out i list) b lent s beyond → s.ended ≡ true
    → listed_in s beyond ≡ without i (listed_in r after)

-- of all pairs, on every chart
abbrev pub AllPairsWithout : Type 0
AllPairsWithout =
    (list : List ℤ) (n i : ℕ) (lent : List ℕ) (r s : Answer) (after beyond : List ℕ) → Accepts list lent n → i < n
    → Allowed list lent r after → Allowed (cut_out i list) lent s beyond
    → all_in s beyond ≡ without i (all_in r after)

-- ---- the other way: "adding a piece adds only pairs of that piece"
pub record AddsOnly (i : ℕ) (old new : List Pair) : Type 0 where
  -- no old meeting is hidden
  pub kept : (q : Pair) → In q old → In (raise_both i q) new
  pub only : (q : Pair) → In q new → (of_piece i q ≡ true) ⊎ In (lower_both i q) old

-- five numbers put in as piece i, after at least i others
pub record PutIn (list five : List ℤ) (i : ℕ) : Type 0 where
  pub five_numbers : length five ≡ 5
  pub others : 5 * i ≤ length list

abbrev pub PortedAdds : Type 0
PortedAdds =
    (list five : List ℤ) (n i a b : ℕ) (lent : List ℕ) (r s : Swept) (after beyond : List ℕ)
    → PutIn list five i → Accepts (put_in i five list) lent n → NoneUpright (put_in i five list) n
    → Ported list a lent r after → r.ended ≡ true → Ported (put_in i five list) b lent s beyond → s.ended ≡ true
    → AddsOnly i (listed_in r after) (listed_in s beyond)

abbrev pub NewAdds : Type 0
NewAdds =
    (list five : List ℤ) (n i a b : ℕ) (lent : List ℕ) (r s : Swept) (after beyond : List ℕ)
    → PutIn list five i → Accepts (put_in i five list) lent n
    → Full list a lent r after → r.ended ≡ true → Full (put_in i five list) b lent s beyond → s.ended ≡ true
    → AddsOnly i (listed_in r after) (listed_in s beyond)

abbrev pub AllPairsAdds : Type 0
AllPairsAdds =
    (list five : List ℤ) (n i : ℕ) (lent : List ℕ) (r s : Answer) (after beyond : List ℕ)
    → PutIn list five i → Accepts (put_in i five list) lent n → Allowed list lent r after → Allowed (put_in i five list) lent s beyond
    → AddsOnly i (all_in r after) (all_in s beyond)
