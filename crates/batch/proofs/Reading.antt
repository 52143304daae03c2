-- What is read in a result's ten numbers is what was put there, where the last point fits 64 bits.
-- Assumes nothing.
use mathlib.Core.Path.{sym, ◌≡◌, refl, ap}
use mathlib.Core.Bool.{Bool, true, false}
use Prim.Native.Nat.{ℕ, ◌-◌, ◌<◌}
use native.Mathlib.Omega.{arith}
use borrow.Author.Tests.{lt-ltb, le-ltb}
use lib.Dec.{eqb}
use lib.IntN.{pos, negsuc}
use lib.Signed.{mag}
use Rattle.std.specs.Prelude.{Option, None, Some}
use Rattle.fractions.specs.declared.Point.{Point}
use Rattle.bentley_ottmann.specs.declared.Swept.{Swept}
use Rattle.batch.specs.Numbers.{flag, word, numbers_of}
use Rattle.batch.specs.Demand.{signed, ReadsBack, swept_in}

pub reads_back : ReadsBack
unfolding word signed
reads_back (pos n) h = rw (lt-ltb n 9223372036854775808 h)
reads_back (negsuc n) h =
    rw (le-ltb (18446744073709551615 - n) 9223372036854775808 (omega arith)) (ap negsuc (omega arith))

abbrev pub FitsLast : Option Point → Type 0
FitsLast None = Unit {0}
FitsLast (Some p) = (mag p.x < 9223372036854775808) × (mag p.y < 9223372036854775808)

flag_read : (b : Bool) → eqb (flag b) 1 ≡ b
flag_read true = refl
flag_read false = refl

pub numbers_read : (s : Swept) → FitsLast s.last → s.examined ≡ 0 → swept_in (numbers_of s) ≡ s
unfolding numbers_of swept_in
numbers_read s h q = go s.number s.place s.pairs s.steps s.ended s.complete s.last s.examined h (sym q)
  where
    go : (number place pairs steps : ℕ) (ended complete : Bool) (last : Option Point) (examined : ℕ) → FitsLast last → 0 ≡ examined
        → let s : Swept = record { number = number; place = place; pairs = pairs; steps = steps; ended = ended; complete = complete; last = last; examined = examined } in swept_in (numbers_of s) ≡ s
    go number place pairs steps ended complete None examined h q =
        λ i. record { number = number; place = place; pairs = pairs; steps = steps; ended = flag_read ended i; complete = flag_read complete i; last = None; examined = q i }
    go number place pairs steps ended complete (Some p) examined h q =
        λ i. record {
          number = number;
          place = place;
          pairs = pairs;
          steps = steps;
          ended = flag_read ended i;
          complete = flag_read complete i;
          last = Some (record { x = reads_back p.x h.0 i; y = reads_back p.y h.1 i; d = p.d });
          examined = q i;
        }
