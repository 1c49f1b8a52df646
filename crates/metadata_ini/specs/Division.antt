-- The name of a file, divided into its parts.
use Rattle.std.specs.Prelude.{◌≡◌, ◌≢◌, ◌==◌, ◌||◌, ◌<◌, ◌^◌, if◌then◌else◌, Bool, true, false, ℕ, List, ◌∷◌, ◌++◌, codes}
use Rattle.std.specs.List.{list_all}
use Rattle.server_data.specs.Names.{stands_as_it_is}
use Rattle.object_forms.specs.declared.kind.Kind.{Kind}
use Rattle.folder_forms.specs.FileName.{file_number, is_schema_file, ending}
use Rattle.folder_forms.specs.declared.file_kind.FileKind.{FileKind}
use Rattle.folder_forms.specs.declared.file_kind.FileKind.TheVariants.{Object, Rows}

-- a byte that may stand in the spelling of a name
abbrev pub is_spelling_byte : ℕ → Bool
is_spelling_byte byte = stands_as_it_is byte || byte == 64

-- a text begins with just so many bytes of names
pub record IsNameFront (text front rest : List ℕ) : Type 0 where
  pub is : text ≡ front ++ rest
  pub spelled : list_all is_spelling_byte front ≡ true
  pub ends : (byte : ℕ) (more : List ℕ) → rest ≡ byte ∷ more → is_spelling_byte byte ≡ false

-- the text doesn't begin with a point and end as the name of a file of rows does
abbrev pub IsBetweenNone : List ℕ → Type 0
IsBetweenNone text = (inner : List ℕ) → text ≢ codes "." ++ inner ++ codes ".sql"

-- the text doesn't begin with a point
abbrev pub BeginsOtherwise : List ℕ → Type 0
BeginsOtherwise text = (after : List ℕ) → text ≢ 46 ∷ after

-- the text is no number of a file between points
abbrev pub NumbersNone : List ℕ → Type 0
NumbersNone text =
    (number : ℕ) → number < 2 ^ 32 → text ≢ codes "." ++ file_number number ++ codes ".sql"

-- the name of an object's file ends so, that of a schema aside
pub record IsObjectEnding (text : List ℕ) (kind : Kind) : Type 0 where
  pub is : text ≡ ending (Object kind) 0
  pub no_schema : is_schema_file (Object kind) ≡ false

-- the name of no such file ends so
abbrev pub IsNoObjectEnding : List ℕ → Type 0
IsNoObjectEnding text = (kind : Kind) → ¬ IsObjectEnding text kind

-- which numbers files of a kind have
pub record HasNumber (kind : FileKind) (number : ℕ) : Type 0 where
  pub none : kind ≢ Rows → number ≡ 0
  pub size : number < 2 ^ 32

-- the name of a file of that kind ends so, that of a schema aside
pub record IsNameEnding (text : List ℕ) (kind : FileKind) (number : ℕ) : Type 0 where
  pub is : text ≡ ending kind number
  pub no_schema : is_schema_file kind ≡ false
  pub numbered : HasNumber kind number

-- the name of no such file ends so
abbrev pub IsNoNameEnding : List ℕ → Type 0
IsNoNameEnding text = (kind : FileKind) (number : ℕ) → ¬ IsNameEnding text kind number

-- the spelled names that a file's name begins with
abbrev pub joined : FileKind → List ℕ → List ℕ → List ℕ
joined kind schema name = if is_schema_file kind then schema else schema ++ codes "." ++ name

-- the parts of a file's name, the names as they are spelled
pub record Divides (text : List ℕ) (kind : FileKind) (schema name : List ℕ) (number : ℕ)
    : Type 0 where
  pub is : text ≡ joined kind schema name ++ ending kind number
  pub schema_spelled : list_all is_spelling_byte schema ≡ true
  pub name_spelled : list_all is_spelling_byte name ≡ true
  pub one_schema : is_schema_file kind ≡ true → name ≡ schema
  pub numbered : HasNumber kind number

-- the text has no such parts
abbrev pub IsUndivided : List ℕ → Type 0
IsUndivided text =
    (kind : FileKind) (schema name : List ℕ) (number : ℕ) → ¬ Divides text kind schema name number
