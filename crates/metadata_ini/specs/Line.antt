-- Lines of files, as they are read.
use Rattle.std.specs.Prelude.{◌≡◌, ◌≢◌, ◌<◌, ℕ, List, Option, MatchOption}
use Rattle.hex.specs.Hex.{encode_lower}
use Rattle.folder_forms.specs.Metadata.{HasFileLine, IsFileDigest, file_line}
use Rattle.folder_forms.specs.declared.file_kind.FileKind.{FileKind}
use Rattle.folder_forms.specs.declared.file_kind.FileKind.TheVariants.{Rows}
use Rattle.folder_forms.specs.declared.metadata.FileLine.{FileLine}

-- the text is the line of the file
pub record IsFileLine (text : List ℕ) (file : FileLine) : Type 0 where
  pub is : text ≡ file_line file
  pub may_be : HasFileLine file

-- the text is the line of no file
abbrev pub IsNoFileLine : List ℕ → Type 0
IsNoFileLine text = (file : FileLine) → ¬ IsFileLine text file

-- the file whose line the text is, if it is one's
abbrev pub IsFileOf : List ℕ → Option FileLine → Type 0
IsFileOf text file = MatchOption file (IsNoFileLine text) (IsFileLine text)

-- the text spells the digest
pub record SpellsDigest (text digest : List ℕ) : Type 0 where
  pub is : text ≡ encode_lower digest
  pub sound : IsFileDigest digest

-- the text spells no digest
abbrev pub SpellsNoDigest : List ℕ → Type 0
SpellsNoDigest text = (digest : List ℕ) → ¬ SpellsDigest text digest

-- files of a kind can have so many rows: those of rows some, others none
pub record MayHaveRows (kind : FileKind) (rows : ℕ) : Type 0 where
  pub some : kind ≡ Rows → 0 < rows
  pub none : kind ≢ Rows → rows ≡ 0
