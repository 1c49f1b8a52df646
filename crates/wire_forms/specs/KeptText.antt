-- Texts of up to 512 bytes with zeros after them.
use Rattle.std.specs.Prelude.{ℕ, ◌-◌, List, ◌++◌, length, take, min, replicate}
use Rattle.wire_forms.specs.declared.short_text.ShortText.{ShortText}

-- a text with zeros up to 512 bytes
abbrev pub padded : List ℕ → List ℕ
padded text = text ++ replicate (512 - length text) 0

-- a text of up to 512 bytes, as it is kept
unfoldable pub short_text : List ℕ → ShortText
short_text text = record { bytes = padded text; size = length text }

-- the first 512 bytes of a text, as they are kept
abbrev pub kept_text : List ℕ → ShortText
kept_text bytes = short_text (take 512 bytes)

-- the text that is kept
abbrev pub text_of : ShortText → List ℕ
text_of text = take (min text.size 512) text.bytes
