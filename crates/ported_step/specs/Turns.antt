-- What a step asks of the arrays and does with them, and the part of it that changes the active list. The relations that a contract
-- cites take the arrays as the function does: before it, then after it, then what it returns.
use Rattle.std.specs.Prelude.{◌≡◌, List, ℕ, suc, ◌*◌, ◌≤◌, ℤ, length, take, drop}
use Rattle.std.proofs.Math.Option.{Option, some}
use Rattle.fractions.specs.declared.Point.{Point}
use Rattle.charts.specs.Chart.{most}
use Rattle.sweep.specs.Lists.{adjacent}
use Rattle.sweep.specs.Step.{each}
use Rattle.ported_arrays.specs.Ledger.{Ledger, examine}
use Rattle.ported_arrays.specs.Event.{stay, step}
use Rattle.ported_pieces.specs.Table.{chart_in}
use Rattle.ported_gather.specs.Joined.{AllBelow}
use Rattle.ported_ledger.specs.declared.Book.{Book}
use Rattle.ported_ledger.specs.Books.{ledger_of}
use Rattle.ported_step.specs.declared.Turned.{Turned}
use Rattle.ported_step.specs.declared.At.{At}
use Rattle.ported_step.specs.Views.{staying, entering, ranged_of, Held, held}

-- by who stays and who enters, in an array of so many places: the active list, and the ledger after both examinations
pub record Turns (table : List ℤ) (p : Point) (room : ℕ) (stays enters : List ℕ) (book : Ledger) (r : Turned) (active : List ℕ) (after : Ledger) : Type 0 where
  pub stayed : r.stay ≡ length stays
  pub fewer : r.stay ≤ room
  pub lives : r.live ≤ room
  pub ranges : take r.live active ≡ ranged_of table p room stays enters
  pub examines : (n : ℕ) → after ≡ each (examine (chart_in n table) p) (adjacent (take r.live active)) (each (examine (chart_in n table) p) (adjacent stays) book)

-- the same, over the arrays that `turn` takes
abbrev pub Turning : List ℤ → Point → List ℕ → ℕ → List ℕ → ℕ → List ℕ → List ℕ → List ℕ → Book → List ℕ → List ℕ → Book → List ℕ → Turned → Type 0
Turning table p active live here h starting finishing turning book bytes active' book' bytes' r =
    Turns table p (length active) (staying finishing turning (take live active)) (entering starting finishing turning (drop h here))
    (ledger_of book bytes) r active' (ledger_of book' bytes')

-- what a step asks: the places that it is told stand within the arrays, and these hold numbers of ends and of pairs from there on
pub record Fits (ends : List ℕ) (passed : ℕ) (active : List ℕ) (live : ℕ) (book : Book) : Type 0 where
  pub passes : passed ≤ length ends
  pub ends_few : length ends ≤ 65536
  pub ends_left : AllBelow (2 * most) (drop passed ends)
  pub lives : live ≤ length active
  pub full : length active ≡ most
  pub waiting_left : AllBelow (most * most) (drop book.head book.waiting)

-- what a step returns stays within the arrays
pub record Within (r : At) (ends active : List ℕ) : Type 0 where
  pub passed : r.passed ≤ length ends
  pub fewer : r.stay ≤ length active
  pub lives : r.live ≤ length active

-- the arrays hold what the step on arrays leaves, and so many pieces stayed
pub record Steps (table : List ℤ) (p : Point) (before after : Held table) (stays : ℕ) : Type 0 where
  pub does : (n : ℕ) (last : Option Point) (m : ℕ) → after n (some p) (suc m) ≡ step (chart_in n table) (before n last m) p
  pub stayed : (n : ℕ) (last : Option Point) (m : ℕ) → stays ≡ length (stay (chart_in n table) (before n last m) p)

-- both, over the arrays that `step` takes
abbrev pub Stepping : List ℤ → Point → List ℕ → ℕ → List ℕ → ℕ → Book → List ℕ → List ℕ → Book → List ℕ → At → Type 0
Stepping table p ends passed active live book bytes active' book' bytes' r =
    Within r ends active
    × Steps table p (held table ends passed active live (ledger_of book bytes)) (held table ends r.passed active' r.live (ledger_of book' bytes')) r.stay
