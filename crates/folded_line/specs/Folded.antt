-- A whole number folded at 0 and H.
-- Assumes nothing.
use Rattle.std.specs.Prelude.{cond, ℕ, ◌*◌, ◌-◌, ◌%◌, ltb}

-- "how far it lies from the nearest even multiple of H": from the one below it, or from the one above where that is nearer
unfoldable pub folded : ℕ → ℕ → ℕ
folded h v = let r = v % (2 * h) in cond (ltb h r) (2 * h - r) r
