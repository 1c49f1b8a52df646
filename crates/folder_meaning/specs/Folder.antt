-- What a folder of files means: a database and a position.
use Rattle.std.specs.Prelude.{ℕ, ◌≡◌, ◌+◌, ◌⊎◌, true, List, [], ◌∷◌, length, map, codes, Contains, Option, Some}
use Rattle.file_forms.specs.DataFile.{FitsColumns, SpellsTable}
use Rattle.file_forms.specs.SchemaFile.{SpellsObject}
use Rattle.folder_forms.specs.FileName.{NamedFile, IsFileName, file_of}
use Rattle.folder_forms.specs.Metadata.{IsMetadataText}
use Rattle.folder_forms.specs.declared.file_kind.FileKind.TheVariants as Kinds
use Rattle.folder_forms.specs.declared.metadata.FileLine.{FileLine}
use Rattle.folder_forms.specs.declared.metadata.Metadata.{Metadata}
use Rattle.honest_server.specs.Insert.{Insertion, plain_cells}
use Rattle.link_traits.specs.Contents.{File, contents_of, has_name}
use Rattle.object_forms.specs.declared.kind.Kind.TheVariants.{Table}
use Rattle.server_data.specs.Fold.{empty_db}
use Rattle.server_data.specs.declared.data.Database.{Database}
use Rattle.server_data.specs.declared.data.Object.{Object}
use Rattle.server_data.specs.declared.data.Position.{Position}
use Rattle.server_data.specs.declared.data.TableRows.{TableRows}
use Rattle.sha1.specs.Sha1.{sha1}

-- the file that names all others
abbrev pub metadata_name : List ℕ
metadata_name = codes "metadata"

-- the folder has this file, with these bytes
pub record HasFile (files : List File) (file : NamedFile) (bytes : List ℕ) : Type 0 where
  pub text : List ℕ
  pub named : IsFileName text file
  pub found : contents_of files text ≡ Some bytes

-- the folder has the schema file of this table, which spells this object
pub record HasTable (files : List File) (table : NamedFile) (object : Object) : Type 0 where
  pub bytes : List ℕ
  pub has : HasFile files (file_of (Kinds.Object Table) table.schema table.name 0) bytes
  pub spells : SpellsObject (file_of (Kinds.Object Table) table.schema table.name 0) bytes object

-- what a file says: an object, or rows of a table
pub data FileSays : Type 0 where
  an_object : Object → FileSays
  some_rows : Insertion → FileSays

-- The bytes spell as many rows as the line says of its table, in the columns of the table's schema file, where that is there.
pub record SpellsItsRows (files : List File) (line : FileLine) (bytes : List ℕ)
    (says : Insertion) : Type 0 where
  pub spells : SpellsTable line.name bytes says
  pub count : length says.rows ≡ line.rows
  pub fits : (object : Object) → HasTable files line.name object → FitsColumns object.columns says

-- the bytes of a line's file spell this
abbrev pub SpellsLine : List File → FileLine → List ℕ → FileSays → Type 0
SpellsLine files line bytes (an_object object) = SpellsObject line.name bytes object
SpellsLine files line bytes (some_rows says) = SpellsItsRows files line bytes says

-- a line's file is whole: it is there, has the length and the SHA-1 that the line says, and spells this
pub record IsWholeFile (files : List File) (line : FileLine) (says : FileSays) : Type 0 where
  pub bytes : List ℕ
  pub has : HasFile files line.name bytes
  pub size : length bytes ≡ line.bytes
  pub digest : sha1 bytes ≡ line.digest
  pub spells : SpellsLine files line bytes says

-- rows of a line's table
abbrev pub rows_of_line : FileLine → Insertion → TableRows
rows_of_line line says = record {
  table = record { schema = line.name.schema; name = line.name.name };
  rows = map plain_cells says.rows;
}

-- The files of these lines are whole, and spell a database: its objects in the order of the lines, which is that of their ranks, and its rows.
pub data SpellDatabase (files : List File) : ℕ → List FileLine → Database → Type 0 where
  no_lines : {place : ℕ} → SpellDatabase files place [] empty_db
  object_line : {place : ℕ} {line : FileLine} {lines : List FileLine} {object : Object}
      {others whole : Database} → IsWholeFile files line (an_object object) → object.rank ≡ place →
      SpellDatabase files (place + 1) lines others →
      whole ≡ record { objects = object ∷ others.objects; rows = others.rows } →
      SpellDatabase files place (line ∷ lines) whole
  rows_line : {place : ℕ} {line : FileLine} {lines : List FileLine} {says : Insertion}
      {others whole : Database} → IsWholeFile files line (some_rows says) →
      SpellDatabase files (place + 1) lines others →
      whole ≡ record { objects = others.objects; rows = rows_of_line line says ∷ others.rows } →
      SpellDatabase files place (line ∷ lines) whole

-- one of the lines is of the file that is called so
pub record NamesFile (lines : List FileLine) (name : List ℕ) : Type 0 where
  pub line : FileLine
  pub is_there : Contains lines line
  pub named : IsFileName name line.name

-- the folder's `metadata` says this
pub record HasMetadataFile (files : List File) (metadata : Metadata) (bytes : List ℕ) : Type 0 where
  pub found : contents_of files metadata_name ≡ Some bytes
  pub says : IsMetadataText bytes metadata

-- each file of the folder is its `metadata`, or one of these lines is of it
abbrev pub HasNoOther : List File → List FileLine → Type 0
HasNoOther files lines =
    (name : List ℕ) → has_name name files ≡ true → (name ≡ metadata_name) ⊎ NamesFile lines name

-- The folder means this database and this position: its `metadata` names exactly the other files, these are whole, and spell the database.
pub record Means (files : List File) (database : Database) (position : Option Position)
    : Type 0 where
  pub metadata : Metadata
  pub bytes : List ℕ
  pub has_metadata : HasMetadataFile files metadata bytes
  pub no_other : HasNoOther files metadata.files
  pub spells : SpellDatabase files 0 metadata.files database
  pub position_is : position ≡ metadata.position
