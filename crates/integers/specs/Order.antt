-- One of three answers by the order of two whole numbers: `three l e g a b` is l where a is below b, e where they are equal, g where b is below a.
-- An enum's comparison is an instance, as `three Less Equal Greater a b`; a sign is `three Negative Zero Positive z (pos 0)`.
-- Assumes nothing.
use Rattle.std.specs.Prelude.{cond, ℤ}
use Rattle.std.specs.Int.Signed.{lt_z}

abbrev pub three : {A : Type 0} → A → A → A → ℤ → ℤ → A
three l e g a b = cond (lt_z a b) l (cond (lt_z b a) g e)
