-- What writers of `metadata` append.
use Rattle.std.specs.Prelude.{◌≡◌, ℕ, List, [], ◌∷◌, ◌++◌, codes, decimal, map}
use Rattle.std.specs.List.{flat_map}
use Rattle.folder_forms.specs.Metadata.{IsTimeText, IsTableList, IsMetadataText, TableNames, ended, table_line, table_lines}
use Rattle.folder_forms.specs.declared.metadata.FileLine.{FileLine}
use Rattle.folder_forms.specs.declared.metadata.Metadata.{Metadata}

-- the lines of a version up to the times, which have these texts
abbrev pub head_lines : ℕ → List ℕ → List ℕ → List (List ℕ)
head_lines version started finished =
    codes "[dump]" ∷ (codes "version=" ++ decimal version)
    ∷ (codes "started=" ++ started) ∷ (codes "finished=" ++ finished) ∷ []

-- the lines up to the times were appended
pub record AppendsHead (old new : List ℕ) (value : Metadata) : Type 0 where
  pub started_text : List ℕ
  pub finished_text : List ℕ
  pub started : IsTimeText started_text value.started
  pub finished : IsTimeText finished_text value.finished
  pub is : new ≡ old ++ flat_map ended (head_lines value.version started_text finished_text)

-- the lines of the tables of the files were appended
pub record AppendsTables (old new : List ℕ) (files : List FileLine) : Type 0 where
  pub tables : List (TableNames × ℕ)
  pub are : IsTableList files tables
  pub is : new ≡ old ++ flat_map ended (map table_line tables)

-- what follows the lines of the files was appended: in version 2 the lines of their tables
pub record AppendsEnd (old new : List ℕ) (version : ℕ) (files : List FileLine) : Type 0 where
  pub tables : List (TableNames × ℕ)
  pub are : IsTableList files tables
  pub is : new ≡ old ++ flat_map ended (table_lines version tables)

-- the `metadata` of a value was appended
pub record AppendsMetadata (old new : List ℕ) (value : Metadata) : Type 0 where
  pub text : List ℕ
  pub says : IsMetadataText text value
  pub is : new ≡ old ++ text
