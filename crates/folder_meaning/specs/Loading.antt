-- How far a load has come, and the steps by which it goes on.
use Rattle.std.specs.Prelude.{ℕ, ◌≡◌, ◌≢◌, ◌+◌, ◌<◌, ◌≤◌, ◌⊎◌, true, List, [], ◌∷◌, ◌++◌, length, map, take, codes, All, Contains, IsPermutation, Some, None, slice_get}
use Rattle.folder_meaning.specs.Folder.{FileSays, IsWholeFile, an_object, some_rows}
use Rattle.folder_meaning.specs.Plan.{LoadPlan, PlanLine}
use Rattle.folder_meaning.specs.Renamed.{made_in}
use Rattle.folder_forms.specs.FileName.{IsFileName}
use Rattle.folder_forms.specs.declared.metadata.FileLine.{FileLine}
use Rattle.hex.specs.Hex.{encode_lower}
use Rattle.honest_server.specs.Answer.{progress_schema}
use Rattle.honest_server.specs.Insert.{Insertion, plain_cells}
use Rattle.link_traits.specs.Contents.{File}
use Rattle.object_forms.specs.declared.kind.Kind.{Kind}
use Rattle.object_forms.specs.declared.kind.Kind.TheVariants.{Schema, Table, Trigger}
use Rattle.server_data.specs.Agree.{Agree, object_eq}
use Rattle.server_data.specs.Fold.{table_of_trigger}
use Rattle.server_data.specs.declared.data.Change.{Change}
use Rattle.server_data.specs.declared.data.Change.TheVariants.{Make, Put}
use Rattle.server_data.specs.declared.data.Database.{Database}
use Rattle.server_data.specs.declared.data.Object.{Object}
use Rattle.server_data.specs.declared.data.TableRows.{TableRows}
use Rattle.sql_cells.specs.declared.cell.Cell.{Cell}
use Rattle.sql_cells.specs.declared.cell.Cell.TheVariants.{Value}
use Rattle.statement_forms.specs.Text.{command_text}
use Rattle.statement_forms.specs.declared.command.Command.TheVariants.{CreateProgress, CreateProgressFiles, CreateProgressDump}

-- What a load keeps of its own on the server.

-- the name of the table of the marks
abbrev pub marks_table : List ℕ
marks_table = codes "files"

-- the name of the table of the dump's digest
abbrev pub digest_table : List ℕ
digest_table = codes "dump"

-- an object of the progress, as far as databases agree by it
abbrev pub progress_object : Kind → List ℕ → List ℕ → Object
progress_object kind name text = record {
  kind = kind;
  schema = progress_schema;
  name = name;
  text = text;
  settings = None;
  columns = [];
  key = None;
  rank = 0;
  needs = [];
}

-- the objects of the progress, in the order in which they are made
abbrev pub progress_objects : List Object
progress_objects =
    progress_object Schema progress_schema (command_text CreateProgress)
    ∷ progress_object Table marks_table (command_text CreateProgressFiles)
    ∷ progress_object Table digest_table (command_text CreateProgressDump) ∷ []

-- rows of a table of the progress
abbrev pub progress_rows : List ℕ → List (List Cell) → TableRows
progress_rows name rows =
    record { table = record { schema = progress_schema; name = name }; rows = rows }

-- the row of a dump's digest
abbrev pub digest_row : List ℕ → List Cell
digest_row digest = Value (encode_lower digest) ∷ []

-- the row that marks a file
abbrev pub mark_row : List ℕ → List Cell
mark_row name = Value name ∷ []

-- Lines that are made and loaded.

-- the line of the file that is read for a line of the plan
abbrev pub line_that_is_read : PlanLine → FileLine
line_that_is_read line = record line.line { name = line.file }

-- the file of a line of the plan is whole, and says this
abbrev pub IsWholeLine : List File → PlanLine → FileSays → Type 0
IsWholeLine files line says = IsWholeFile files (line_that_is_read line) says

-- rows of the table of a line of the plan
abbrev pub loaded_rows : PlanLine → Insertion → TableRows
loaded_rows line says = record {
  table = record { schema = line.line.name.schema; name = line.line.name.name };
  rows = map plain_cells says.rows;
}

-- the object that the file of a line makes, which has its line's place as its rank
pub record MakesObject (files : List File) (place : ℕ) (line : PlanLine) (made : Object)
    : Type 0 where
  pub object : Object
  pub whole : IsWholeLine files line (an_object object)
  pub made_is : made ≡ record (made_in line.line.name.schema object) { rank = place }

-- these lines' objects, from a place on
pub data MakeObjects (files : List File) : ℕ → List PlanLine → List Object → Type 0 where
  no_object : {place : ℕ} → MakeObjects files place [] []
  next_object : {place : ℕ} {line : PlanLine} {lines : List PlanLine} {made : Object}
      {objects : List Object} → MakesObject files place line made →
      MakeObjects files (place + 1) lines objects →
      MakeObjects files place (line ∷ lines) (made ∷ objects)

-- these lines' rows
pub data LoadRows (files : List File) : List PlanLine → List TableRows → Type 0 where
  no_rows : LoadRows files [] []
  next_rows : {line : PlanLine} {lines : List PlanLine} {says : Insertion}
      {rows : List TableRows} → IsWholeLine files line (some_rows says) →
      LoadRows files lines rows →
      LoadRows files (line ∷ lines) (loaded_rows line says ∷ rows)

-- these lines' marks: the names of the lines, not of the files that are read
pub data MarkLines : List PlanLine → List (List Cell) → Type 0 where
  no_marks : MarkLines [] []
  next_mark : {line : PlanLine} {lines : List PlanLine} {name : List ℕ}
      {marks : List (List Cell)} → IsFileName name line.line.name → MarkLines lines marks →
      MarkLines (line ∷ lines) (mark_row name ∷ marks)

-- How far a load has come.

-- where a load is: so many objects of the progress are made and nothing else; or the digest is kept, and these lines' objects are made and these lines' rows
-- loaded and marked
pub data LoadStage : Type 0 where
  preparing : ℕ → LoadStage
  loading : List PlanLine → List PlanLine → LoadStage

-- the lines whose objects are made one after the other: schemas and tables, and after the data files all others
abbrev pub object_lines : LoadPlan → List PlanLine
object_lines plan = plan.first ++ plan.last

-- The objects that are made are the first of the plan; each data file is loaded once at most, and none before all schemas and tables are made; no other object
-- is made before all data files are loaded.
pub record IsInOrder (plan : LoadPlan) (made loaded : List PlanLine) : Type 0 where
  pub left : List PlanLine
  pub made_first : made ++ left ≡ object_lines plan
  pub unloaded : List PlanLine
  pub of_plan : IsPermutation (loaded ++ unloaded) plan.bulk
  pub after_first : loaded ≢ [] → length plan.first ≤ length made
  pub before_last : length plan.first < length made → unloaded ≡ []

-- what a load has made of the lines: the whole progress with the digest and the marks, the objects, and the rows
pub record HasLoaded (files : List File) (plan : LoadPlan) (made loaded : List PlanLine)
    (database : Database) : Type 0 where
  pub in_order : IsInOrder plan made loaded
  pub objects : List Object
  pub are_made : MakeObjects files 0 made objects
  pub rows : List TableRows
  pub are_loaded : LoadRows files loaded rows
  pub marks : List (List Cell)
  pub are_marked : MarkLines loaded marks
  pub database_is : database ≡ record {
    objects = progress_objects ++ objects;
    rows = progress_rows digest_table (digest_row plan.digest ∷ [])
        ∷ progress_rows marks_table marks ∷ rows;
  }

-- what a load has made at a stage
abbrev pub IsAtStage : List File → LoadPlan → LoadStage → Database → Type 0
IsAtStage files plan (preparing count) database =
    (count ≤ 3) × (database ≡ record { objects = take count progress_objects; rows = [] })
IsAtStage files plan (loading made loaded) database = HasLoaded files plan made loaded database

-- both databases together
abbrev pub joined_db : Database → Database → Database
joined_db one other =
    record { objects = one.objects ++ other.objects; rows = one.rows ++ other.rows }

-- all lines of a plan
abbrev pub all_plan_lines : LoadPlan → List PlanLine
all_plan_lines plan = plan.first ++ plan.bulk ++ plan.last

-- the plan names this schema, or it is that of the progress
abbrev pub NamesSchema : LoadPlan → List ℕ → Type 0
NamesSchema plan schema = (schema ≡ progress_schema)
    ⊎ ((line : PlanLine) × Contains (all_plan_lines plan) line
    × (schema ≡ line.line.name.schema))

-- where the object is a trigger, its table is in no schema that the plan names
abbrev pub StandsApart : LoadPlan → Object → Type 0
StandsApart plan object =
    object.kind ≡ Trigger → ¬ NamesSchema plan (table_of_trigger object.needs).schema

-- The plan doesn't name the schema of the progress; and the database has nothing in the schemas that it names, no trigger on a table there, and no progress.
pub record IsFreshFor (plan : LoadPlan) (database : Database) : Type 0 where
  pub unreserved : All (λ line. line.line.name.schema ≢ progress_schema) (all_plan_lines plan)
  pub objects : All (λ object. ¬ NamesSchema plan object.schema) database.objects
  pub triggers : All (StandsApart plan) database.objects
  pub rows : All (λ rows. ¬ NamesSchema plan rows.table.schema) database.rows

-- The database is the one before the load, which had nothing of the plan, and what the load has made at this stage.
pub record LoadingAt (files : List File) (plan : LoadPlan) (stage : LoadStage)
    (before now : Database) : Type 0 where
  pub fresh : IsFreshFor plan before
  pub added : Database
  pub at_stage : IsAtStage files plan stage added
  pub agree : Agree now (joined_db before added)

-- a load is at some stage
pub record Loading (files : List File) (plan : LoadPlan) (before now : Database) : Type 0 where
  pub stage : LoadStage
  pub at : LoadingAt files plan stage before now

-- a load is complete: all objects are made, and all data files are loaded
pub record Complete (files : List File) (plan : LoadPlan) (before now : Database) : Type 0 where
  pub loaded : List PlanLine
  pub all : IsPermutation loaded plan.bulk
  pub at : LoadingAt files plan (loading (object_lines plan) loaded) before now

-- Steps, each of which is one transaction.

-- the changes make one object, which is this one as far as databases agree by it
pub record MakesOnly (changes : List Change) (wanted : Object) : Type 0 where
  pub object : Object
  pub changes_are : changes ≡ Make object ∷ []
  pub same : object_eq object wanted ≡ true

-- the puts of rows into a table
abbrev pub puts_into : TableRows → List Change
puts_into rows = map (λ row. Put rows.table.schema rows.table.name row) rows.rows

-- the changes put all rows of a whole data file, and its mark
pub record PutsFile (files : List File) (line : PlanLine) (changes : List Change) : Type 0 where
  pub says : Insertion
  pub whole : IsWholeLine files line (some_rows says)
  pub name : List ℕ
  pub named : IsFileName name line.line.name
  pub changes_are : changes ≡ puts_into (loaded_rows line says)
      ++ Put progress_schema marks_table (mark_row name) ∷ []

-- one transaction leads a load from one stage to the next
pub data IsLoadStep (files : List File) (plan : LoadPlan) :
    LoadStage → List Change → LoadStage → Type 0 where
  makes_progress : {count : ℕ} {object : Object} {changes : List Change} →
      slice_get progress_objects count ≡ Some object → MakesOnly changes object →
      IsLoadStep files plan (preparing count) changes (preparing (count + 1))
  keeps_digest : {changes : List Change} →
      changes ≡ Put progress_schema digest_table (digest_row plan.digest) ∷ [] →
      IsLoadStep files plan (preparing 3) changes (loading [] [])
  makes_object : {made loaded : List PlanLine} {line : PlanLine} {object : Object}
      {changes : List Change} → IsInOrder plan (made ++ line ∷ []) loaded →
      MakesObject files (length made) line object → MakesOnly changes object →
      IsLoadStep files plan (loading made loaded) changes (loading (made ++ line ∷ []) loaded)
  loads_file : {made loaded : List PlanLine} {line : PlanLine} {changes : List Change} →
      IsInOrder plan made (loaded ++ line ∷ []) → PutsFile files line changes →
      IsLoadStep files plan (loading made loaded) changes (loading made (loaded ++ line ∷ []))
