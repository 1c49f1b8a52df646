-- Parts of statements as lists of bytes.
use Rattle.std.specs.Prelude.{ℕ, List}
use Rattle.statement_forms.specs.declared.part.Held.{Held}
use Rattle.statement_forms.specs.declared.part.Held.TheVariants.{Borrowed, Owned}

-- the bytes of a part, wherever they are kept
abbrev pub held_bytes : Held → List ℕ
held_bytes (Borrowed bytes) = bytes.now
held_bytes (Owned bytes) = bytes
