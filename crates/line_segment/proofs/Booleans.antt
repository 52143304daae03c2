-- Answers of two questions; and two constructors that cannot be equal: `no (cc)` where the facts at hand say that they are.
use mathlib.Core.Path.{◌≡◌, refl, sym}
use mathlib.Core.Bool.{Bool, true, false, ◌&&◌}
use Prim.Native.Nat.{ℕ}
use native.Mathlib.Omega.{arith}

pub no : {A : Type 0} → ◌≡◌ {A = ℕ} 0 1 → A
no z = absurd (omega arith)

pub clash : {A : Type 0} → false ≡ true → A
clash e = no (cc)

pub both : {x y : Bool} → x && y ≡ true → (x ≡ true) × (y ≡ true)
both {x = true} e = (refl, e)
both {x = false} e = clash e

pub and_true : {x y : Bool} → x ≡ true → y ≡ true → x && y ≡ true
and_true h k = rw h k

pub and_false : (x : Bool) {y : Bool} → y ≡ false → x && y ≡ false
and_false true e = e
and_false false e = refl

pub false_and : {x : Bool} (y : Bool) → x ≡ false → x && y ≡ false
false_and y h = rw h

-- three questions, the third asked only where both others are answered yes
pub all_but_last : (a b c : Bool) → a && b ≡ true → c ≡ a && (b && c)
all_but_last true true c e = refl
all_but_last true false c e = clash e
all_but_last false b c e = clash e

pub stops_early : (a b c : Bool) → a && b ≡ false → false ≡ a && (b && c)
stops_early true true c e = clash (sym e)
stops_early true false c e = refl
stops_early false b c e = refl
