-- The contracts of what puts bytes, words and numbers allow one answer and one content of the lent bytes.
-- Assumes nothing.
use mathlib.Core.Path.{◌≡◌, sym, ap, ◌∙◌}
use mathlib.Core.List.{List}
use Prim.Native.Nat.{ℕ}
use Rattle.integers.specs.Outcome.{OneOutcome}
use Rattle.decimals.specs.Text.{Text, text}
use Rattle.decimals.proofs.put_byte.Reads as put_byte
use Rattle.decimals.proofs.put_word.Reads as put_word
use Rattle.decimals.proofs.put_natural.Reads as put_natural
use Rattle.decimals.proofs.put_integer.Reads as put_integer

pub one_text : {x y : ℕ} {b c : List ℕ} {t : Text} → text b x ≡ t → text c y ≡ t → (x ≡ y) × (b ≡ c)
one_text h k = let e = h ∙ sym k in (ap (λ (t : Text). t.end) e, ap (λ (t : Text). t.bytes) e)

pub put_byte_once : OneOutcome put_byte.Post (λ κ s. s.0.now)
put_byte_once κ a x y s t h k = one_text h k

pub put_word_once : OneOutcome put_word.Post (λ κ s. s.0.now)
put_word_once κ a x y s t h k = one_text h k

pub put_natural_once : OneOutcome put_natural.Post (λ κ s. s.0.now)
put_natural_once κ a x y s t h k = one_text h k

pub put_integer_once : OneOutcome put_integer.Post (λ κ s. s.0.now)
put_integer_once κ a x y s t h k = one_text h k
