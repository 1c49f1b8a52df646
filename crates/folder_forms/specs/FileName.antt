-- What the files of a dump are called.
use Rattle.std.specs.Prelude.{◌≡◌, ◌≢◌, ℕ, ◌-◌, ◌<◌, ◌^◌, if◌then◌else◌, Bool, true, false, List, [], ◌++◌, length, replicate, codes, decimal, IsUtf8}
use Rattle.server_data.specs.Names.{escaped_name}
use Rattle.object_forms.specs.declared.kind.Kind.TheVariants.{Schema, Table, Procedure, Function, View, Trigger, Event}
use Rattle.folder_forms.specs.declared.file_kind.FileKind.{FileKind}
use Rattle.folder_forms.specs.declared.file_kind.FileKind.TheVariants as Kinds

-- what the name of a file says: what it holds, of which object, and the number of a file of rows
pub record NamedFile : Type 0 where
  pub kind : FileKind
  pub schema : List ℕ
  pub name : List ℕ
  pub number : ℕ

-- the file of these parts
abbrev pub file_of : FileKind → List ℕ → List ℕ → ℕ → NamedFile
file_of kind schema name number =
    record { kind = kind; schema = schema; name = name; number = number }

-- a number in decimal, with zeros before it up to five digits
abbrev pub file_number : ℕ → List ℕ
file_number number = replicate (5 - length (decimal number)) 48 ++ decimal number

-- whether it is the file of a schema
abbrev pub is_schema_file : FileKind → Bool
is_schema_file (Kinds.Object Schema) = true
is_schema_file (Kinds.Object Table) = false
is_schema_file (Kinds.Object Procedure) = false
is_schema_file (Kinds.Object Function) = false
is_schema_file (Kinds.Object View) = false
is_schema_file (Kinds.Object Trigger) = false
is_schema_file (Kinds.Object Event) = false
is_schema_file Kinds.Rows = false

-- what a file's name begins with: the escaped names, a point between them; of a schema's file one
abbrev pub front_names : FileKind → List ℕ → List ℕ → List ℕ
front_names kind schema name =
    if is_schema_file kind then escaped_name schema
    else escaped_name schema ++ codes "." ++ escaped_name name

-- how a file's name ends
abbrev pub ending : FileKind → ℕ → List ℕ
ending (Kinds.Object Schema) number = codes "-schema-create.sql"
ending (Kinds.Object Table) number = codes "-schema.sql"
ending (Kinds.Object Procedure) number = codes "-schema-procedure.sql"
ending (Kinds.Object Function) number = codes "-schema-function.sql"
ending (Kinds.Object View) number = codes "-schema-view.sql"
ending (Kinds.Object Trigger) number = codes "-schema-trigger.sql"
ending (Kinds.Object Event) number = codes "-schema-event.sql"
ending Kinds.Rows number = codes "." ++ file_number number ++ codes ".sql"

-- what a file is called
abbrev pub file_text : FileKind → List ℕ → List ℕ → ℕ → List ℕ
file_text kind schema name number = front_names kind schema name ++ ending kind number

-- A file can be called so: the names are UTF-8 and not empty, a schema's file has the schema as
-- its name too, and only files of rows have numbers.
pub record HasFileName (file : NamedFile) : Type 0 where
  pub schema_text : IsUtf8 file.schema
  pub schema_there : file.schema ≢ []
  pub name_text : IsUtf8 file.name
  pub name_there : file.name ≢ []
  pub one_schema : is_schema_file file.kind ≡ true → file.name ≡ file.schema
  pub no_number : file.kind ≢ Kinds.Rows → file.number ≡ 0
  pub number_size : file.number < 2 ^ 32

-- the text is what the file is called
pub record IsFileName (text : List ℕ) (file : NamedFile) : Type 0 where
  pub is : text ≡ file_text file.kind file.schema file.name file.number
  pub may_be : HasFileName file

-- the text is the name of no file
abbrev pub IsNoFileName : List ℕ → Type 0
IsNoFileName text = (file : NamedFile) → ¬ IsFileName text file
