-- A result is known by the answer that it says. Assumes nothing.
use mathlib.Core.Path.{◌≡◌, sym, ap}
use Rattle.std.specs.Prelude.{Result, Ok, Err}
use Rattle.std.proofs.lemmas.Option.{same_Some}
use Rattle.charts.specs.Verdict.{Verdict, Refused}
use Rattle.charts.specs.declared.Refusal.{Refusal}
use Rattle.charts.proofs.Refusals.{numbered, told_named}
use Rattle.region.specs.declared.Region.{Region}
use Rattle.region.specs.Region.{RegionAnswer, region_told}

-- the refusal that a result says
abbrev refused : RegionAnswer → Verdict
refused a = Refused a.number a.place

pub region_named : (r s : Result Region Refusal) → region_told r ≡ region_told s → r ≡ s
region_named (Ok a) (Ok b) e = ap Ok (same_Some a b (ap (λ (t : RegionAnswer). t.region) e))
region_named (Ok a) (Err k) e = absurd (numbered k.reason (sym (ap (λ (t : RegionAnswer). t.number) e)))
region_named (Err k) (Ok b) e = absurd (numbered k.reason (ap (λ (t : RegionAnswer). t.number) e))
region_named (Err j) (Err k) e = let t = told_named (Err j) (Err k) (ap refused e) in cc
