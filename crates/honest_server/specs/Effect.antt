-- What a command does to a link's state and to the history (MySQL 8.0 Reference Manual, 15.3 "Transactional and Locking Statements", 15.7.8.3 "FLUSH Statement", 15.1 "Data Definition Statements").
use Rattle.std.specs.Prelude.{ℕ, ◌≡◌, ◌⊎◌, ◌<◌, ◌+◌, ◌^◌, max, true, false, List, [], ◌∷◌, ◌++◌, filter, fold, Option, Some, None, codes}
use Rattle.object_forms.specs.Head.{Making, making}
use Rattle.object_forms.specs.Shape.{name_value}
use Rattle.object_forms.specs.declared.kind.Kind.{Kind}
use Rattle.object_forms.specs.declared.kind.Kind.TheVariants.{Schema, Table, Procedure, Function, View, Trigger, Event}
use Rattle.server_data.specs.Fold.{db, has_object}
use Rattle.server_data.specs.declared.data.Change.{Change}
use Rattle.server_data.specs.declared.data.Change.TheVariants.{Make}
use Rattle.server_data.specs.declared.data.Database.{Database}
use Rattle.server_data.specs.declared.data.Need.{Need}
use Rattle.server_data.specs.declared.data.Object.{Object}
use Rattle.server_data.specs.declared.data.Settings.{Settings}
use Rattle.server_data.specs.declared.data.Transaction.{Transaction}
use Rattle.sql_cells.specs.declared.cell.Cell.TheVariants.{Value}
use Rattle.sql_cells.specs.declared.cell_kind.CellKind.TheVariants.{Text}
use Rattle.statement_forms.specs.Text.{command_text}
use Rattle.statement_forms.specs.declared.command.Command.{Command}
use Rattle.statement_forms.specs.declared.command.Command.TheVariants.{SetUp, NamesUtf8mb4, NamesBinary, ForeignKeyChecksOff, TimeZoneUtc, BinaryLogOff, SqlMode, CharacterSetClient, CollationConnection, RepeatableRead, TimeZone, LockInstance, FlushTables, UnlockTables, UnlockInstance, StartSnapshot, Start, Commit, Rollback, Use, Create, CreateProgress, CreateProgressFiles, CreateProgressDump, Insert, InsertProgressFile, InsertProgressDump}
use Rattle.honest_server.specs.Answer.{progress_schema}
use Rattle.honest_server.specs.Insert.{is_on_table, Insertion, Inserts, SpellsInsert}
use Rattle.honest_server.specs.Moves.{MayFollow}
use Rattle.honest_server.specs.State.{State, database_found_by, no_settings, with_own}
use Rattle.honest_server.specs.WellFormed.{HasItsShape, IsSound, NeedsItsTable}

-- These changes are committed as a transaction, which may have a mark: it may follow what the link has seen, and the history stays sound.
pub record Commits (state : State) (changes : List Change) (new : State) : Type 0 where
  pub one : Transaction
  pub changes_are : one.changes ≡ changes
  pub follows : MayFollow state (one ∷ [])
  pub sound : IsSound state.terms.server (state.seen ++ one ∷ [])
  pub new_is : new ≡ with_own state one

-- The open transaction is committed, where there is one. One without changes may end without a trace.
abbrev pub EndsOpen : State → Option (List Change) → State → Type 0
EndsOpen state None new = new ≡ state
EndsOpen state (Some []) new = (new ≡ record state { pending = None }) ⊎ Commits state [] new
EndsOpen state (Some (change ∷ changes)) new = Commits state (change ∷ changes) new

-- the schema of an object that is made: a schema's own name; of any other kind, the one that the text names, or the current schema
abbrev pub MadeIn : Option (List ℕ) → Object → Option (List ℕ) → Kind → Type 0
MadeIn current object named Schema = object.schema ≡ object.name
MadeIn current object None kind = current ≡ Some object.schema
MadeIn current object (Some spelled) kind = object.schema ≡ name_value spelled

-- the settings of an object that is made
abbrev pub made_settings : Settings → Kind → Option Settings
made_settings settings Schema = None
made_settings settings Table = None
made_settings settings Procedure = Some (record settings { zone = [] })
made_settings settings Function = Some (record settings { zone = [] })
made_settings settings View = Some (record settings { sql_mode = []; zone = [] })
made_settings settings Trigger = Some (record settings { zone = [] })
made_settings settings Event = Some settings

-- the greatest rank of a table's triggers, and 0 where it has none
abbrev pub greatest_rank : Database → Need → ℕ
greatest_rank database table =
    fold (λ rank object. max rank object.rank) 0
    (filter (is_on_table table.schema table.name) database.objects)

-- a trigger that is made needs its table, and its rank is one more than the greatest of the triggers there
pub record IsLastTrigger (database : Database) (object : Object) : Type 0 where
  pub table : Need
  pub needs : NeedsItsTable object table
  pub rank : object.rank ≡ greatest_rank database table + 1
  pub small : object.rank < 2 ^ 32

-- no rank, and nothing that it needs
pub record NeedsNothing (object : Object) : Type 0 where
  pub rank : object.rank ≡ 0
  pub needs : object.needs ≡ []

-- what an object that is made needs, and its rank: a trigger stands last on its table, and what a view needs is the server's to say
abbrev pub HasItsPlace : Database → Object → Kind → Type 0
HasItsPlace database object Schema = NeedsNothing object
HasItsPlace database object Table = NeedsNothing object
HasItsPlace database object Procedure = NeedsNothing object
HasItsPlace database object Function = NeedsNothing object
HasItsPlace database object View = object.rank ≡ 0
HasItsPlace database object Trigger = IsLastTrigger database object
HasItsPlace database object Event = NeedsNothing object

-- the object that a text makes on a link with these settings and this current schema
pub record IsMade (state : State) (database : Database) (text : List ℕ)
    (object : Object) : Type 0 where
  pub text_is : object.text ≡ text
  pub found : Making
  pub is_making : making text ≡ Some found
  pub kind : object.kind ≡ found.kind
  pub name : object.name ≡ name_value found.path.name
  pub schema : MadeIn state.schema object found.path.schema object.kind
  pub settings : object.settings ≡ made_settings state.settings object.kind
  pub shape : HasItsShape object object.kind
  pub place : HasItsPlace database object object.kind

-- a CREATE commits the open transaction, and makes the object in a transaction of its own
pub record Creates (state : State) (text : List ℕ) (new : State) : Type 0 where
  pub middle : State
  pub ended : EndsOpen state state.pending middle
  pub database : Database
  pub stands : db middle.seen ≡ Some database
  pub object : Object
  pub made : IsMade middle database text object
  pub commits : Commits middle (Make object ∷ []) new

-- changes of rows go into the open transaction, or into one of their own
abbrev pub GoesInto : State → Option (List Change) → List Change → State → Type 0
GoesInto state None changes new = Commits state changes new
GoesInto state (Some before) changes new = new ≡ record state { pending = Some (before ++ changes) }

-- the INSERT of this is made into a table
pub record InsertsInto (state : State) (table : Need) (says : Insertion)
    (new : State) : Type 0 where
  pub database : Database
  pub found : database_found_by state ≡ Some database
  pub changes : List Change
  pub inserts : Inserts state.terms.server database table says changes
  pub goes : GoesInto state state.pending changes new

-- an INSERT is into a table of the current schema
pub record InsertsText (state : State) (text : List ℕ) (new : State) : Type 0 where
  pub schema : List ℕ
  pub is_current : state.schema ≡ Some schema
  pub table : List ℕ
  pub says : Insertion
  pub spells : SpellsInsert text table says
  pub inserts : InsertsInto state (record { schema = schema; name = table }) says new

-- one row of one text in a table of the load's progress
abbrev pub one_text : List ℕ → List ℕ → Insertion
one_text column text =
    record {
      columns = column ∷ [];
      rows = (record { cell = Value text; kind = Some Text } ∷ []) ∷ [];
    }

-- the table of this name in the schema in which a load keeps its progress
abbrev pub progress_table : List ℕ → Need
progress_table name = record { schema = progress_schema; name = name }

-- the settings of the next event have this time zone
abbrev pub with_zone : State → List ℕ → State
with_zone state zone = record state { settings = record state.settings { zone = zone } }

-- a schema can be used where it is there
pub record Uses (state : State) (schema : List ℕ) (new : State) : Type 0 where
  pub database : Database
  pub stands : db state.seen ≡ Some database
  pub is_there : has_object database Schema schema schema ≡ true
  pub new_is : new ≡ record state { schema = Some schema; settings = no_settings }

-- the open transaction is committed, and the snapshot shows what was seen by then
pub record TakesSnapshot (state new : State) : Type 0 where
  pub middle : State
  pub ended : EndsOpen state state.pending middle
  pub new_is : new ≡ record middle { view = Some middle.seen }

-- START TRANSACTION: the open transaction is committed, where there is one, and another is open that has no changes yet
pub record Starts (state new : State) : Type 0 where
  pub middle : State
  pub ended : EndsOpen state state.pending middle
  pub new_is : new ≡ record middle { pending = Some [] }

-- what a command does that is handled, once the link has seen what it comes to see
abbrev pub Effect : State → Command → State → Type 0
Effect state SetUp new = new ≡ record state { settings = no_settings }
Effect state NamesUtf8mb4 new = new ≡ state
Effect state NamesBinary new = new ≡ state
Effect state ForeignKeyChecksOff new = new ≡ state
Effect state TimeZoneUtc new = new ≡ with_zone state (codes "+00:00")
Effect state BinaryLogOff new = new ≡ state
Effect state (SqlMode value) new =
    new ≡ record state { settings = record state.settings { sql_mode = value } }
Effect state (CharacterSetClient value) new =
    new ≡ record state { settings = record state.settings { client = value } }
Effect state (CollationConnection value) new =
    new ≡ record state { settings = record state.settings { collation = value } }
Effect state RepeatableRead new = new ≡ state
Effect state (TimeZone value) new = new ≡ with_zone state value
Effect state LockInstance new = new ≡ record state { guarded = true }
Effect state FlushTables new =
    new ≡ record state { frozen = true; grants = state.grants ++ state.seen ∷ [] }
Effect state UnlockTables new = new ≡ record state { frozen = false }
Effect state UnlockInstance new = new ≡ record state { guarded = false }
Effect state StartSnapshot new = TakesSnapshot state new
Effect state Start new = Starts state new
Effect state Commit new = EndsOpen state state.pending new
Effect state Rollback new = new ≡ record state { pending = None }
Effect state (Use schema) new = Uses state schema new
Effect state (Create text) new = Creates state text new
Effect state CreateProgress new = Creates state (command_text CreateProgress) new
Effect state CreateProgressFiles new = Creates state (command_text CreateProgressFiles) new
Effect state CreateProgressDump new = Creates state (command_text CreateProgressDump) new
Effect state (Insert text) new = InsertsText state text new
Effect state (InsertProgressFile name) new =
    InsertsInto state (progress_table (codes "files")) (one_text (codes "name") name) new
Effect state (InsertProgressDump digest) new =
    InsertsInto state (progress_table (codes "dump")) (one_text (codes "digest") digest) new

-- the commands that commit an open transaction
abbrev pub EndsTransaction : Command → Type 0
EndsTransaction SetUp = ⊥
EndsTransaction NamesUtf8mb4 = ⊥
EndsTransaction NamesBinary = ⊥
EndsTransaction ForeignKeyChecksOff = ⊥
EndsTransaction TimeZoneUtc = ⊥
EndsTransaction BinaryLogOff = ⊥
EndsTransaction (SqlMode value) = ⊥
EndsTransaction (CharacterSetClient value) = ⊥
EndsTransaction (CollationConnection value) = ⊥
EndsTransaction RepeatableRead = ⊥
EndsTransaction (TimeZone value) = ⊥
EndsTransaction LockInstance = ⊥
EndsTransaction FlushTables = ⊥
EndsTransaction UnlockTables = ⊥
EndsTransaction UnlockInstance = ⊥
EndsTransaction StartSnapshot = Unit {0}
EndsTransaction Start = Unit {0}
EndsTransaction Commit = Unit {0}
EndsTransaction Rollback = ⊥
EndsTransaction (Use schema) = ⊥
EndsTransaction (Create text) = Unit {0}
EndsTransaction CreateProgress = Unit {0}
EndsTransaction CreateProgressFiles = Unit {0}
EndsTransaction CreateProgressDump = Unit {0}
EndsTransaction (Insert text) = ⊥
EndsTransaction (InsertProgressFile name) = ⊥
EndsTransaction (InsertProgressDump digest) = ⊥
