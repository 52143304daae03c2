-- What is promised of the lanes' keys. Each statement is a type, inhabited in proofs/Promises.antt.
use Rattle.std.specs.Prelude.{◌≡◌, false, List, [], ℕ, ◌+◌, ◌<◌, ◌≤◌, ℤ, length, take, get_or}
use mathlib.Core.List.{Memᴰ as In}
use Rattle.std.proofs.Math.Option.{Option}
use Rattle.fractions.specs.Point.{point_order}
use Rattle.fractions.specs.declared.Point.{Point}
use Rattle.sweep.specs.Chart.{at}
use Rattle.sweep.specs.Ported.{is_less}
use Rattle.ported_pieces.specs.Table.{piece_in}
use Rattle.full_steps.specs.InPlace.{lane, lanes, somes}
use Rattle.full_order.specs.Finer.{finer}
use Rattle.full_lanes.specs.Lanes.{no_key, keyed, pair_at, ProperPlaces, Keyed, LeastLane}

module _ (n : ℕ) (table : List ℤ) (last : Option Point) (active keys : List ℕ) (live : ℕ) where
  -- beside each of the first `live` places stands the key of its lane beyond the last point, and beside the last of them none
  pub record Beside : Type 0 where
    pub room : live ≤ length keys
    pub places : live ≤ length active
    pub lanes_are : (k : ℕ) → k + 1 < live → get_or keys k 0 ≡ keyed (lane (finer n (piece_in table)) last (pair_at active k))
    pub end : (k : ℕ) → k + 1 ≡ live → get_or keys k 0 ≡ no_key

  -- the crossings that the lanes hold
  abbrev pub ahead : List Point
  ahead = somes (lanes (finer n (piece_in table)) last (take live active))

  -- what the least lane says of them: there is none, or it is one than which none comes earlier
  pub record LeastAhead (r : ℕ) : Type 0 where
    pub none : r ≡ live → ahead ≡ []
    pub one : r < live → In (at (finer n (piece_in table)) (pair_at active r)) ahead
    pub least : r < live → (c : Point) → In c ahead → is_less (point_order c (at (finer n (piece_in table)) (pair_at active r))) ≡ false

-- such keys are fit to be scanned
abbrev pub BesideKeyed : Type 0
BesideKeyed =
    (n : ℕ) (table : List ℤ) (last : Option Point) (active keys : List ℕ) (live : ℕ)
    → ProperPlaces table active live → Beside n table last active keys live → Keyed table active keys live

-- and the least lane is that of the least crossing ahead
abbrev pub LeastIsAhead : Type 0
LeastIsAhead =
    (n : ℕ) (table : List ℤ) (last : Option Point) (active keys : List ℕ) (live r : ℕ)
    → ProperPlaces table active live → Beside n table last active keys live → LeastLane table active keys live r → LeastAhead n table last active keys live r
