-- The plan of a load: which files are loaded, in which order, and under which names.
use Rattle.std.specs.Prelude.{ℕ, ◌≡◌, ◌||◌, not, Bool, true, false, List, map, filter}
use Rattle.folder_forms.specs.FileName.{NamedFile}
use Rattle.folder_forms.specs.declared.file_kind.FileKind.{FileKind}
use Rattle.folder_forms.specs.declared.file_kind.FileKind.TheVariants as Kinds
use Rattle.folder_forms.specs.declared.metadata.FileLine.{FileLine}
use Rattle.folder_forms.specs.declared.metadata.Metadata.{Metadata}
use Rattle.folder_meaning.specs.Dump.{holds_rows}
use Rattle.folder_meaning.specs.Folder.{HasMetadataFile}
use Rattle.link_traits.specs.Contents.{File}
use Rattle.object_forms.specs.declared.kind.Kind.TheVariants.{Schema, Table, Procedure, Function, View, Trigger, Event}
use Rattle.sha1.specs.Sha1.{sha1}

-- a line of a plan: what is made or loaded, by the name under which it is marked, and the file from which it is read
pub record PlanLine : Type 0 where
  pub line : FileLine
  pub file : NamedFile

-- a plan: the digest by which a target tells it, the schemas and tables, the data files, and all other objects
pub record LoadPlan : Type 0 where
  pub digest : List ℕ
  pub first : List PlanLine
  pub bulk : List PlanLine
  pub last : List PlanLine

-- whether it is the file of a schema or of a table's text
abbrev pub is_first : FileKind → Bool
is_first (Kinds.Object Schema) = true
is_first (Kinds.Object Table) = true
is_first (Kinds.Object Procedure) = false
is_first (Kinds.Object Function) = false
is_first (Kinds.Object View) = false
is_first (Kinds.Object Trigger) = false
is_first (Kinds.Object Event) = false
is_first Kinds.Rows = false

-- whether it is the file of another object
abbrev pub is_last : FileKind → Bool
is_last kind = not (is_first kind || holds_rows kind)

-- the lines whose kind passes the test, each read from the file that it names
abbrev pub plan_lines : (FileKind → Bool) → List FileLine → List PlanLine
plan_lines test lines =
    map (λ line. record { line = line; file = line.name })
    (filter (λ line. test line.name.kind) lines)

-- the plan of these lines
abbrev pub plan_of : List ℕ → List FileLine → LoadPlan
plan_of digest lines = record {
  digest = digest;
  first = plan_lines is_first lines;
  bulk = plan_lines holds_rows lines;
  last = plan_lines is_last lines;
}

-- the plan of a folder: its lines in their order, told by the SHA-1 of its `metadata`
pub record HasPlan (files : List File) (plan : LoadPlan) : Type 0 where
  pub metadata : Metadata
  pub bytes : List ℕ
  pub has_metadata : HasMetadataFile files metadata bytes
  pub plan_is : plan ≡ plan_of (sha1 bytes) metadata.files
