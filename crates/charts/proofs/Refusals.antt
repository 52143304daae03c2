-- A row's number has one name, so a result is known by the verdict that it says. Assumes nothing.
use mathlib.Core.Path.{◌≡◌, refl, sym, ap, ◌∙◌}
use Rattle.std.specs.Prelude.{ℕ, zero, suc, Option, Some, None, Result, Ok, Err, List, [], ◌∷◌, get_or}
use Rattle.std.proofs.lemmas.Option.{none-some}
use Rattle.charts.specs.Verdict.{Verdict, Accepted, Refused}
use Rattle.charts.specs.Refusal.{number, fault_number, told}
use Rattle.charts.specs.declared.Reason.{Reason}
use Rattle.charts.specs.declared.Reason.TheVariants.{FileEnds, Groups, Count, Kind, Coordinate, NoLength, ExtraBytes, Room, ListLength, Charts, Parts, Argument, Uneven, TooMany, Outline, OddBytes, Full, Unused, Upright}
use Rattle.charts.specs.declared.Refusal.{Refusal}

abbrev names : List Reason
names = FileEnds ∷ Groups ∷ Count ∷ Kind ∷ Coordinate ∷ NoLength ∷ ExtraBytes ∷ Room ∷ ListLength ∷ Charts ∷ Parts ∷ Argument ∷ Uneven ∷ TooMany ∷ Outline ∷ OddBytes ∷ Full ∷ Unused ∷ Upright ∷ []

-- the name of a row's number
abbrev named : ℕ → Option Reason
named zero = None
named (suc k) = Some (get_or names k Upright)

back : (r : Reason) → named (number r) ≡ Some r
back FileEnds = refl
back Groups = refl
back Count = refl
back Kind = refl
back Coordinate = refl
back NoLength = refl
back ExtraBytes = refl
back Room = refl
back ListLength = refl
back Charts = refl
back Parts = refl
back Argument = refl
back Uneven = refl
back TooMany = refl
back Outline = refl
back OddBytes = refl
back Full = refl
back Unused = refl
back Upright = refl

fault_back : (r : Option Reason) → named (fault_number r) ≡ r
fault_back None = refl
fault_back (Some r) = back r

-- no row has the number 0
pub numbered : (r : Reason) → number r ≡ 0 → ⊥
numbered r e = none-some r (sym (ap named e) ∙ back r)

-- a fault is known by its number
pub fault_named : (r s : Option Reason) → fault_number r ≡ fault_number s → r ≡ s
fault_named r s e = sym (fault_back r) ∙ ap named e ∙ fault_back s

abbrev refused_by : Option Reason → ℕ → Result ℕ Refusal
refused_by None place = Ok place
refused_by (Some reason) place = Err (record { reason = reason; place = place })

-- a result from the verdict that it says
abbrev result_of : Verdict → Result ℕ Refusal
result_of (Accepted n) = Ok n
result_of (Refused k place) = refused_by (named k) place

told_back : (r : Result ℕ Refusal) → result_of (told r) ≡ r
told_back (Ok n) = refl
told_back (Err refusal) = rw (back refusal.reason)

-- a result is known by the verdict that it says
pub told_named : (r s : Result ℕ Refusal) → told r ≡ told s → r ≡ s
told_named r s e = sym (told_back r) ∙ ap result_of e ∙ told_back s
