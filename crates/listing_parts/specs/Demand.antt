-- What is promised of the parts.
use Rattle.std.specs.Prelude.{◌≡◌, List, [], ◌++◌, ℕ, zero, suc, ◌*◌, ◌≤◌, ℤ, length, take}
use Rattle.charts.specs.Chart.{most}
use Rattle.charts.specs.Answer.{room}
use Rattle.charts.specs.declared.Answer.{Answer}
use Rattle.chart_file.specs.Groups.{Bytes}
use Rattle.chart_file.specs.Reading.{Reads}
use Rattle.bentley_ottmann.specs.declared.Swept.{Swept}
use Rattle.listing.specs.Swept.{sweep_of, lent_after}
use Rattle.listing.specs.Listing.{largest, listing_of}
use Rattle.listing_parts.specs.Parts.{parts_of, longest_part, part_of}

-- the parts before one, one after the other
unfoldable pub joined : (ℕ → List ℕ) → ℕ → List ℕ
joined part zero = []
joined part (suc k) = joined part k ++ part k

-- what the reader made of a file, with room for the numbers of the largest chart: its answer's number, and the list in front
pub record ReadList (number : ℕ) (list : List ℤ) : Type 0 where
  pub file : List ℕ
  pub bytes : Bytes file
  pub lent : List ℤ
  pub room_lent : 5 * most ≤ length lent
  pub read : Answer
  pub after : List ℤ
  pub reads : Reads file lent read after
  pub answered : number ≡ read.number
  pub front : list ≡ take (5 * read.count) after

-- what the sweep made of that list, with room for every pair of the largest chart: its answer, and the pairs in front
pub record SweptList (list : List ℤ) (swept : Swept) (pairs : List ℕ) : Type 0 where
  pub lent : List ℕ
  pub room_lent : room most ≤ length lent
  pub answered : swept ≡ sweep_of list largest (length lent)
  pub front : pairs ≡ take (2 * swept.pairs) (lent_after list largest lent)

-- the parts one after the other are the listing: none is left out, and none stands twice
abbrev pub PrintsAll : Type 0
PrintsAll =
    (number : ℕ) (list : List ℤ) (swept : Swept) (pairs : List ℕ) → (r : ReadList number list) → SweptList list swept pairs
    → joined (part_of number list swept pairs) (parts_of (length pairs)) ≡ listing_of r.file

-- there is room for every part
abbrev pub PartFits : Type 0
PartFits =
    (number : ℕ) (list : List ℤ) (swept : Swept) (pairs : List ℕ) → ReadList number list → SweptList list swept pairs
    → (part : ℕ) → length (part_of number list swept pairs part) ≤ longest_part
