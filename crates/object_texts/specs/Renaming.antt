-- Where the name of a head stands, and the text with another name in that place.
use Rattle.std.specs.Prelude.{◌≡◌, ℕ, ◌+◌, ◌==◌, Bool, true, false, List, [], ◌∷◌, ◌++◌, take, drop, Some}
use Rattle.std.specs.List.{flat_map}
use Rattle.object_forms.specs.declared.place.Span.{Span}
use Rattle.object_forms.specs.Head.{Making, making, name_of}
use Rattle.object_forms.specs.Place.{name_span, renamed, replaced}
use Rattle.object_forms.specs.Token.{Token, tokens}
use Rattle.sql_cells.specs.Name.{name_byte, quoted_name}

-- the bytes in a place
abbrev pub in_place : List ℕ → Span → List ℕ
in_place text span = take span.size (drop span.before text)

-- the bytes after a place
abbrev pub after_place : List ℕ → Span → List ℕ
after_place text span = drop (span.before + span.size) text

-- bytes that spell one token, which is that name
pub record SpellsName (bytes name : List ℕ) : Type 0 where
  pub token : Token
  pub tokens : tokens bytes ≡ token ∷ []
  pub is_name : name_of token ≡ Some name

-- the text is what stands before the name, the name as it is spelled, and what stands after it
pub record NameStands (text name : List ℕ) (span : Span) : Type 0 where
  pub whole : take span.before text ++ in_place text span ++ after_place text span ≡ text
  pub spells : SpellsName (in_place text span) name

-- in the place of its head's name a text has the name that the head takes
abbrev pub NamesStand : Type 0
NamesStand =
    (text : List ℕ) (found : Making) (span : Span)
    → making text ≡ Some found → name_span text ≡ Some span → NameStands text found.path.name span

-- whether bytes begin with a backquote
abbrev pub begins_quoted : List ℕ → Bool
begins_quoted [] = false
begins_quoted (byte ∷ bytes) = byte == 96

-- after a name that is spelled between backquotes no backquote comes
abbrev pub QuotedNamesEnd : Type 0
QuotedNamesEnd =
    (text : List ℕ) (span : Span)
    → name_span text ≡ Some span → begins_quoted (in_place text span) ≡ true
    → begins_quoted (after_place text span) ≡ false

-- with another name between backquotes there a text makes the same object under it, unless a backquote comes after the place
abbrev pub NamesAreReplaced : Type 0
NamesAreReplaced =
    (text name : List ℕ) (found : Making) (span : Span)
    → making text ≡ Some found → name_span text ≡ Some span →
    begins_quoted (after_place text span) ≡ false
    → making (replaced text span (quoted_name name))
    ≡ Some (renamed found (flat_map name_byte name))
