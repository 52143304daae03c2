-- A chart as a list of numbers, five a piece, and the verdict on it.
use Rattle.std.specs.Prelude.{cond, not, List, ℕ, zero, suc, ◌+◌, ◌*◌, ◌/◌, ◌%◌, eqb, ltb, ℤ, pos, length, get_or}
use Rattle.charts.specs.Fault.{fault_of}
use Rattle.charts.specs.Verdict.{Verdict}
use Rattle.charts.specs.Verdict.{Accepted, Refused}

-- "Up to 200 pieces, numbered from 0." (2026-07)
abbrev pub most : ℕ
most = 200

-- "A piece is five whole numbers": number k of piece i
unfoldable pub number_at : List ℤ → ℕ → ℕ → ℤ
number_at list i k = get_or list (5 * i + k) (pos 0)

unfoldable pub fault_at : List ℤ → ℕ → ℕ
fault_at list i = fault_of (number_at list i 0) (number_at list i 1) (number_at list i 2) (number_at list i 3) (number_at list i 4)

-- the verdict on the pieces before one, and then on that one
abbrev pub next : Verdict → ℕ → Verdict
next (Accepted i) zero = Accepted (suc i)
next (Accepted i) (suc k) = Refused (suc k) i
next (Refused k place) fault = Refused k place

-- "then piece by piece": of the first n pieces
unfoldable pub pieces : List ℤ → ℕ → Verdict
pieces list zero = Accepted 0
pieces list (suc i) = next (pieces list i) (fault_at list i)

-- "Calls on a list: 9, then 3, then piece by piece"
unfoldable pub verdict_of : List ℤ → Verdict
verdict_of list =
    cond (not (eqb (length list % 5) 0)) (Refused 9 0)
    (cond (ltb most (length list / 5)) (Refused 3 0)
    (pieces list (length list / 5)))
