-- Text in lent bytes: how far it goes, and how more is put at its end.
-- Assumes nothing.
use Rattle.std.specs.Prelude.{cond, List, [], ◌∷◌, ℕ, suc, ltb, length, set}
use Prim.Native.Char.{code}
use Prim.Native.String.{String, [] as no_more, ◌∷◌ as ◌then◌}

-- the bytes of a quoted text of ASCII
unfoldable pub ascii : String → List ℕ
ascii no_more = []
ascii (c then s) = code c ∷ ascii s

-- lent bytes of which the first `end` are a text
pub record Text : Type 0 where
  pub bytes : List ℕ
  pub end : ℕ

abbrev pub text : List ℕ → ℕ → Text
text bytes end = record { bytes = bytes; end = end }

-- a byte at the end; none where the text is full
abbrev pub put_byte : ℕ → Text → Text
put_byte b t = cond (ltb t.end (length t.bytes)) (text (set t.bytes t.end b) (suc t.end)) t

-- bytes one after another
unfoldable pub put : List ℕ → Text → Text
put [] t = t
put (b ∷ bs) t = put bs (put_byte b t)
