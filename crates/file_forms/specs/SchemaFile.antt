-- The schema files of a dump, each of which has the text of one object (MySQL 8.0 Reference Manual, 6.5.1.2 "mysql Client Commands" on DELIMITER).
use Rattle.std.specs.Prelude.{ℕ, ◌≡◌, ◌≤◌, ◌<◌, ◌+◌, ◌==◌, ◌&&◌, Bool, true, false, List, [], ◌∷◌, ◌++◌, replicate, codes, Option, Some, None, option_map, unwrap_or, bytes_eq}
use Rattle.honest_server.specs.WellFormed.{HasItsHead, HasItsSettings, HasItsShape}
use Rattle.object_forms.specs.Head.{Path, trigger_table}
use Rattle.object_forms.specs.Shape.{name_value}
use Rattle.object_forms.specs.declared.kind.Kind.{Kind}
use Rattle.object_forms.specs.declared.kind.Kind.TheVariants.{Schema, Table, Procedure, Function, View, Trigger, Event}
use Rattle.folder_forms.specs.FileName.{NamedFile, HasFileName, file_of}
use Rattle.folder_forms.specs.declared.file_kind.FileKind.TheVariants as Kinds
use Rattle.server_data.specs.declared.data.Object.{Object}
use Rattle.server_data.specs.declared.data.Settings.{Settings}
use Rattle.splitter_forms.specs.Pieces.{Piece, pieces, unread_file}
use Rattle.statement_forms.specs.Text.{command_text}
use Rattle.statement_forms.specs.declared.command.Command.{Command}
use Rattle.statement_forms.specs.declared.command.Command.TheVariants.{NamesUtf8mb4, ForeignKeyChecksOff, SqlMode, CharacterSetClient, CollationConnection, TimeZone}

-- a command on a line of its own
abbrev pub command_line : Command → List ℕ
command_line command = command_text command ++ codes ";\n"

-- the lines that every schema file begins with
abbrev pub schema_front : List ℕ
schema_front = command_line NamesUtf8mb4 ++ command_line ForeignKeyChecksOff

-- the line that sets an event's time zone; other kinds have none
abbrev pub zone_line : Kind → List ℕ → List ℕ
zone_line Schema zone = []
zone_line Table zone = []
zone_line Procedure zone = []
zone_line Function zone = []
zone_line View zone = []
zone_line Trigger zone = []
zone_line Event zone = command_line (TimeZone zone)

-- the lines that set what an object is made under, where it has settings
abbrev pub settings_lines : Kind → Option Settings → List ℕ
settings_lines kind None = []
settings_lines kind (Some settings) =
    command_line (SqlMode settings.sql_mode) ++ command_line (CharacterSetClient settings.client)
    ++ command_line (CollationConnection settings.collation) ++ zone_line kind settings.zone

-- so many dollars
abbrev pub dollars : ℕ → List ℕ
dollars count = replicate count 36

-- the text, ended by a semicolon
abbrev pub plain_body : List ℕ → List ℕ
plain_body text = text ++ codes ";\n"

-- the text, ended by a line of so many dollars
abbrev pub delimited_body : ℕ → List ℕ → List ℕ
delimited_body count text =
    codes "DELIMITER " ++ dollars count ++ codes "\n" ++ text ++ codes "\n" ++ dollars count
    ++ codes "\nDELIMITER ;\n"

-- texts of this kind are ended by a semicolon where they can be
abbrev pub may_be_plain : Kind → Bool
may_be_plain Schema = true
may_be_plain Table = true
may_be_plain Procedure = false
may_be_plain Function = false
may_be_plain View = true
may_be_plain Trigger = false
may_be_plain Event = false

-- these bytes are divided into this statement and no other, which begins after so many bytes
abbrev pub IsOnlyStatement : List ℕ → ℕ → List ℕ → Type 0
IsOnlyStatement body offset text =
    pieces (unread_file body) ≡ record { offset = offset; text = text } ∷ []

-- The text stands in these bytes in one of two forms, in which it is read back as it is: ended by a semicolon, which only a schema, a table or
-- a view may be, or by a line of two dollars or more.
pub data IsBody (kind : Kind) (text : List ℕ) : List ℕ → Type 0 where
  plain : {body : List ℕ} → may_be_plain kind ≡ true → body ≡ plain_body text →
      IsOnlyStatement body 0 text → IsBody kind text body
  delimited : {body : List ℕ} (count : ℕ) → 2 ≤ count → body ≡ delimited_body count text →
      IsOnlyStatement body (count + 11) text → IsBody kind text body

-- the bytes are a schema file of this kind, with these settings and this text
pub record IsSchemaFile (kind : Kind) (settings : Option Settings) (text bytes : List ℕ)
    : Type 0 where
  pub body : List ℕ
  pub bytes_are : bytes ≡ schema_front ++ settings_lines kind settings ++ body
  pub body_is : IsBody kind text body

-- a trigger needs the table that its text names, which is of the trigger's schema where none is named
pub record NeedsNamedTable (object : Object) : Type 0 where
  pub found : Path
  pub is_found : trigger_table object.text ≡ Some found
  pub needs : object.needs ≡ record {
    schema = unwrap_or (option_map name_value found.schema) object.schema;
    name = name_value found.name;
  } ∷ []

-- what an object needs as far as its text says: a trigger its table, another one nothing
abbrev pub NeedsWhatIsNamed : Object → Kind → Type 0
NeedsWhatIsNamed object Schema = object.needs ≡ []
NeedsWhatIsNamed object Table = object.needs ≡ []
NeedsWhatIsNamed object Procedure = object.needs ≡ []
NeedsWhatIsNamed object Function = object.needs ≡ []
NeedsWhatIsNamed object View = object.needs ≡ []
NeedsWhatIsNamed object Trigger = NeedsNamedTable object
NeedsWhatIsNamed object Event = object.needs ≡ []

-- The object is what its text makes under these settings: the text has its head, the settings go with its kind, and columns, key and needs are those
-- of the text.
pub record IsSaidByText (object : Object) : Type 0 where
  pub head : HasItsHead object
  pub settings : HasItsSettings object.kind object.settings
  pub shape : HasItsShape object object.kind
  pub needs : NeedsWhatIsNamed object object.kind

-- the file of an object
abbrev pub file_of_object : Object → NamedFile
file_of_object object = file_of (Kinds.Object object.kind) object.schema object.name 0

-- a file of this name with these bytes spells the object
pub record SpellsObject (file : NamedFile) (bytes : List ℕ) (object : Object) : Type 0 where
  pub file_is : file ≡ file_of_object object
  pub named : HasFileName file
  pub is_file : IsSchemaFile object.kind object.settings object.text bytes
  pub said : IsSaidByText object

-- a file of this name with these bytes spells no object
abbrev pub SpellsNoObject : NamedFile → List ℕ → Type 0
SpellsNoObject file bytes = (object : Object) → ¬ SpellsObject file bytes object

-- What is written.

-- the part stands somewhere in the text
pub record StandsIn (part text : List ℕ) : Type 0 where
  pub front : List ℕ
  pub rest : List ℕ
  pub text_is : text ≡ front ++ part ++ rest

-- the fewest dollars, two or more, that don't stand in the text
pub record IsFewest (text : List ℕ) (count : ℕ) : Type 0 where
  pub two : 2 ≤ count
  pub missing : ¬ StandsIn (dollars count) text
  pub fewer : (less : ℕ) → 2 ≤ less → less < count → StandsIn (dollars less) text

-- the only statement is this text, which begins at the first byte
abbrev pub is_only : List ℕ → List Piece → Bool
is_only text [] = false
is_only text (piece ∷ []) = piece.offset == 0 && bytes_eq piece.text text
is_only text (piece ∷ next ∷ more) = false

-- a text of this kind is ended by a semicolon: it may be, and is read back so
abbrev pub is_written_plain : Kind → List ℕ → Bool
is_written_plain kind text =
    may_be_plain kind && is_only text (pieces (unread_file (plain_body text)))

-- the text as it is written, ended by a semicolon or not
abbrev pub IsBodyBy : Bool → List ℕ → List ℕ → Type 0
IsBodyBy true text body = body ≡ plain_body text
IsBodyBy false text body =
    (count : ℕ) × IsFewest text count × (body ≡ delimited_body count text)

-- the bytes are the schema file that is written for the object: with a semicolon where its text is read back so, else between lines of as few dollars as can be
pub record IsSchemaText (object : Object) (bytes : List ℕ) : Type 0 where
  pub body : List ℕ
  pub body_is : IsBodyBy (is_written_plain object.kind object.text) object.text body
  pub bytes_are : bytes ≡ schema_front ++ settings_lines object.kind object.settings ++ body
