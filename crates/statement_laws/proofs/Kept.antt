-- What is read in place of a statement: its form and its effect.
use Rattle.std.proofs.Common.{◌≡◌, ◌↔◌, ℕ, Bool, true, false, cond, List, [], ◌∷◌, codes, refl, sym, ap, subst, bytes_eq}
use Rattle.std.proofs.lemmas.Slice.Eq.{bytes_eq-Decides}
use Rattle.honest_server.specs.Answer.{progress_schema}
use Rattle.honest_server.specs.Effect.{Creates, Effect, EndsTransaction}
use Rattle.honest_server.specs.Serve.{IsAnswered, QueryServed}
use Rattle.honest_server.specs.State.{State}
use Rattle.sql_cells.specs.declared.cell.Cell.{Cell}
use Rattle.statement_forms.specs.Form.{command_form, query_form}
use Rattle.statement_forms.specs.Statement.{IsReadAs, IsTextOf}
use Rattle.statement_forms.specs.Text.{command_text, query_text}
use Rattle.statement_forms.specs.declared.form.Form.TheVariants.{Create as CreateForm, Select}
use Rattle.statement_forms.specs.declared.command.Command.{Command}
use Rattle.statement_forms.specs.declared.command.Command.TheVariants.{SetUp, NamesUtf8mb4, NamesBinary, ForeignKeyChecksOff, TimeZoneUtc, BinaryLogOff, SqlMode, CharacterSetClient, CollationConnection, RepeatableRead, TimeZone, LockInstance, FlushTables, UnlockTables, UnlockInstance, StartSnapshot, Start, Commit, Rollback, Use, Create, CreateProgress, CreateProgressFiles, CreateProgressDump, Insert, InsertProgressFile, InsertProgressDump}
use Rattle.statement_forms.specs.declared.query.Query.{Query}
use Rattle.statement_forms.specs.declared.query.Query.TheVariants.{MasterStatus, BinaryLogStatus, Schemas, Tables, Columns, PrimaryKey, Triggers, Routines, ViewNeeds, Events, CreateDatabase, CreateTable, CreateView, CreateProcedure, CreateFunction, CreateTrigger, CreateEvent, Key, KeyAbove, Rows, RowsByKey, RowsAbove, RowsUpTo, RowsBetween, WideKey, WideKeyAbove, RowsByWideKey, RowsAboveWide, RowsUpToWide, RowsBetweenWide, ProgressDump, ProgressFiles}
use Rattle.statement_forms.specs.declared.statement.Statement.{Statement}
use Rattle.statement_forms.specs.declared.statement.Statement.TheVariants.{Command as SomeCommand, Query as SomeQuery}
use Rattle.statement_laws.specs.Laws.{ACommandIsReadAsNothingElse, AQueryIsReadAsNothingElse, AStatementIsRead, TheEffectIsKept, TheFormIsKept}
use Rattle.statement_laws.specs.Readings.{asks_progress, read_command, read_query, read_statement}
use Rattle.statement_laws.proofs.CommandReads.{command_is_read}
use Rattle.statement_laws.proofs.QueryReads.{asked_rows, query_is_read}
use Rattle.statement_laws.proofs.Single.{one_reading}

abbrev the_command : Statement → Command
the_command (SomeCommand command) = command
the_command (SomeQuery query) = SetUp

abbrev the_query : Statement → Query
the_query (SomeCommand command) = Schemas
the_query (SomeQuery query) = query

pub command_alone : ACommandIsReadAsNothingElse
command_alone = record {
  one = λ command statement has read. one_reading (command_text command) statement (SomeCommand (read_command command)) read (command_is_read command has);
  no_query = λ command query has there range same. no_query (one_reading (command_text command) (SomeCommand (read_command command)) (SomeQuery (read_query query)) (command_is_read command has) (subst (λ (l : List ℕ). IsReadAs l (SomeQuery (read_query query))) (sym same) (query_is_read query there range)));
  same = λ text command read. ap the_command (one_reading text (SomeCommand (read_command command)) (SomeCommand command) (subst (λ (l : List ℕ). IsReadAs l (SomeCommand (read_command command))) (sym read.text_of.1) (command_is_read command read.text_of.0)) read);
} where
  no_query : {command : Command} {query : Query} → SomeCommand command ≡ SomeQuery query → ⊥
  no_query e = cc

pub query_alone : AQueryIsReadAsNothingElse
query_alone = record {
  one = λ query statement has range read. one_reading (query_text query) statement (SomeQuery (read_query query)) read (query_is_read query has range);
  same = λ text query read. ap the_query (one_reading text (SomeQuery (read_query query)) (SomeQuery query) (subst (λ (l : List ℕ). IsReadAs l (SomeQuery (read_query query))) (sym read.text_of.2) (query_is_read query read.text_of.0 read.text_of.1)) read);
}

pub statement_is_read : AStatementIsRead
statement_is_read = record { read = read; one = λ text statement other is also. one_reading text other (read_statement statement) also (read text statement is) } where
  read : (text : List ℕ) (statement : Statement) → IsTextOf statement text → IsReadAs text (read_statement statement)
  read text (SomeCommand command) is = subst (λ (l : List ℕ). IsReadAs l (SomeCommand (read_command command))) (sym is.1) (command_is_read command is.0)
  read text (SomeQuery query) is = subst (λ (l : List ℕ). IsReadAs l (SomeQuery (read_query query))) (sym is.2) (query_is_read query is.0 is.1)

text_form : (text : List ℕ) (a b c : Bool) → command_form (cond a CreateProgress (cond b CreateProgressFiles (cond c CreateProgressDump (Create text)))) ≡ CreateForm
text_form text true b c = refl
text_form text false true c = refl
text_form text false false true = refl
text_form text false false false = refl

pub form_of_command : (command : Command) → command_form (read_command command) ≡ command_form command
form_of_command SetUp = refl
form_of_command NamesUtf8mb4 = refl
form_of_command NamesBinary = refl
form_of_command ForeignKeyChecksOff = refl
form_of_command TimeZoneUtc = refl
form_of_command BinaryLogOff = refl
form_of_command (SqlMode value) = refl
form_of_command (CharacterSetClient value) = refl
form_of_command (CollationConnection value) = refl
form_of_command RepeatableRead = refl
form_of_command (TimeZone value) = refl
form_of_command LockInstance = refl
form_of_command FlushTables = refl
form_of_command UnlockTables = refl
form_of_command UnlockInstance = refl
form_of_command StartSnapshot = refl
form_of_command Start = refl
form_of_command Commit = refl
form_of_command Rollback = refl
form_of_command (Use schema) = refl
form_of_command (Create text) = text_form text _ _ _
form_of_command CreateProgress = refl
form_of_command CreateProgressFiles = refl
form_of_command CreateProgressDump = refl
form_of_command (Insert text) = refl
form_of_command (InsertProgressFile name) = refl
form_of_command (InsertProgressDump digest) = refl

rows_form : (columns : List (List ℕ)) (schema table : List ℕ) (a b : Bool) → query_form (cond a ProgressDump (cond b ProgressFiles (Rows columns schema table))) ≡ Select
rows_form columns schema table true b = refl
rows_form columns schema table false true = refl
rows_form columns schema table false false = refl

pub form_of_query : (query : Query) → query_form (read_query query) ≡ query_form query
form_of_query MasterStatus = refl
form_of_query BinaryLogStatus = refl
form_of_query Schemas = refl
form_of_query (Tables schema) = refl
form_of_query (Columns schema table) = refl
form_of_query (PrimaryKey schema table) = refl
form_of_query (Triggers schema) = refl
form_of_query (Routines schema) = refl
form_of_query (ViewNeeds schema) = refl
form_of_query (Events schema) = refl
form_of_query (CreateDatabase schema) = refl
form_of_query (CreateTable schema name) = refl
form_of_query (CreateView schema name) = refl
form_of_query (CreateProcedure schema name) = refl
form_of_query (CreateFunction schema name) = refl
form_of_query (CreateTrigger schema name) = refl
form_of_query (CreateEvent schema name) = refl
form_of_query (Key key schema table skipped) = refl
form_of_query (KeyAbove key schema table above skipped) = refl
form_of_query (Rows columns schema table) = rows_form columns schema table _ _
form_of_query (RowsByKey columns schema table key) = refl
form_of_query (RowsAbove columns schema table key above) = refl
form_of_query (RowsUpTo columns schema table key up_to) = refl
form_of_query (RowsBetween columns schema table key above up_to) = refl
form_of_query (WideKey keys schema table skipped) = refl
form_of_query (WideKeyAbove keys schema table above skipped) = refl
form_of_query (RowsByWideKey columns schema table keys) = refl
form_of_query (RowsAboveWide columns schema table keys above) = refl
form_of_query (RowsUpToWide columns schema table keys up_to) = refl
form_of_query (RowsBetweenWide columns schema table keys above up_to) = refl
form_of_query ProgressDump = refl
form_of_query ProgressFiles = refl

pub forms_kept : TheFormIsKept
forms_kept = record { commands = form_of_command; queries = form_of_query }

same_making : (state : State) (text other : List ℕ) (new : State) → bytes_eq text other ≡ true → Creates state other new ↔ Creates state text new
same_making state text other new e =
    let same : text ≡ other = (bytes_eq-Decides text other).0 e in
    (λ made. subst (λ (l : List ℕ). Creates state l new) (sym same) made, λ made. subst (λ (l : List ℕ). Creates state l new) same made)

text_effect : (state : State) (text : List ℕ) (new : State) (a b c : Bool) → bytes_eq text (command_text CreateProgress) ≡ a → bytes_eq text (command_text CreateProgressFiles) ≡ b → bytes_eq text (command_text CreateProgressDump) ≡ c → Effect state (cond a CreateProgress (cond b CreateProgressFiles (cond c CreateProgressDump (Create text)))) new ↔ Effect state (Create text) new
text_effect state text new true b c p q r = same_making state text (command_text CreateProgress) new p
text_effect state text new false true c p q r = same_making state text (command_text CreateProgressFiles) new q
text_effect state text new false false true p q r = same_making state text (command_text CreateProgressDump) new r
text_effect state text new false false false p q r = (λ e. e, λ e. e)

pub command_effect : (state : State) (command : Command) (new : State) → Effect state (read_command command) new ↔ Effect state command new
command_effect state SetUp new = (λ e. e, λ e. e)
command_effect state NamesUtf8mb4 new = (λ e. e, λ e. e)
command_effect state NamesBinary new = (λ e. e, λ e. e)
command_effect state ForeignKeyChecksOff new = (λ e. e, λ e. e)
command_effect state TimeZoneUtc new = (λ e. e, λ e. e)
command_effect state BinaryLogOff new = (λ e. e, λ e. e)
command_effect state (SqlMode value) new = (λ e. e, λ e. e)
command_effect state (CharacterSetClient value) new = (λ e. e, λ e. e)
command_effect state (CollationConnection value) new = (λ e. e, λ e. e)
command_effect state RepeatableRead new = (λ e. e, λ e. e)
command_effect state (TimeZone value) new = (λ e. e, λ e. e)
command_effect state LockInstance new = (λ e. e, λ e. e)
command_effect state FlushTables new = (λ e. e, λ e. e)
command_effect state UnlockTables new = (λ e. e, λ e. e)
command_effect state UnlockInstance new = (λ e. e, λ e. e)
command_effect state StartSnapshot new = (λ e. e, λ e. e)
command_effect state Start new = (λ e. e, λ e. e)
command_effect state Commit new = (λ e. e, λ e. e)
command_effect state Rollback new = (λ e. e, λ e. e)
command_effect state (Use schema) new = (λ e. e, λ e. e)
command_effect state (Create text) new = text_effect state text new _ _ _ refl refl refl
command_effect state CreateProgress new = (λ e. e, λ e. e)
command_effect state CreateProgressFiles new = (λ e. e, λ e. e)
command_effect state CreateProgressDump new = (λ e. e, λ e. e)
command_effect state (Insert text) new = (λ e. e, λ e. e)
command_effect state (InsertProgressFile name) new = (λ e. e, λ e. e)
command_effect state (InsertProgressDump digest) new = (λ e. e, λ e. e)

text_ends : (text : List ℕ) (a b c : Bool) → EndsTransaction (cond a CreateProgress (cond b CreateProgressFiles (cond c CreateProgressDump (Create text)))) ↔ EndsTransaction (Create text)
text_ends text true b c = (λ e. e, λ e. e)
text_ends text false true c = (λ e. e, λ e. e)
text_ends text false false true = (λ e. e, λ e. e)
text_ends text false false false = (λ e. e, λ e. e)

command_ends : (command : Command) → EndsTransaction (read_command command) ↔ EndsTransaction command
command_ends SetUp = (λ e. e, λ e. e)
command_ends NamesUtf8mb4 = (λ e. e, λ e. e)
command_ends NamesBinary = (λ e. e, λ e. e)
command_ends ForeignKeyChecksOff = (λ e. e, λ e. e)
command_ends TimeZoneUtc = (λ e. e, λ e. e)
command_ends BinaryLogOff = (λ e. e, λ e. e)
command_ends (SqlMode value) = (λ e. e, λ e. e)
command_ends (CharacterSetClient value) = (λ e. e, λ e. e)
command_ends (CollationConnection value) = (λ e. e, λ e. e)
command_ends RepeatableRead = (λ e. e, λ e. e)
command_ends (TimeZone value) = (λ e. e, λ e. e)
command_ends LockInstance = (λ e. e, λ e. e)
command_ends FlushTables = (λ e. e, λ e. e)
command_ends UnlockTables = (λ e. e, λ e. e)
command_ends UnlockInstance = (λ e. e, λ e. e)
command_ends StartSnapshot = (λ e. e, λ e. e)
command_ends Start = (λ e. e, λ e. e)
command_ends Commit = (λ e. e, λ e. e)
command_ends Rollback = (λ e. e, λ e. e)
command_ends (Use schema) = (λ e. e, λ e. e)
command_ends (Create text) = text_ends text _ _ _
command_ends CreateProgress = (λ e. e, λ e. e)
command_ends CreateProgressFiles = (λ e. e, λ e. e)
command_ends CreateProgressDump = (λ e. e, λ e. e)
command_ends (Insert text) = (λ e. e, λ e. e)
command_ends (InsertProgressFile name) = (λ e. e, λ e. e)
command_ends (InsertProgressDump digest) = (λ e. e, λ e. e)

dump_served : (state : State) (found : List (List Cell)) → IsAnswered state ProgressDump found ↔ IsAnswered state (Rows (codes "digest" ∷ []) progress_schema (codes "dump")) found
dump_served state found = (
  λ h. record { database = h.database; stands = h.stands; answers = h.answers; texts = h.texts },
  λ h. record { database = h.database; stands = h.stands; answers = h.answers; texts = h.texts },
)

files_served : (state : State) (found : List (List Cell)) → IsAnswered state ProgressFiles found ↔ IsAnswered state (Rows (codes "name" ∷ []) progress_schema (codes "files")) found
files_served state found = (
  λ h. record { database = h.database; stands = h.stands; answers = h.answers; texts = h.texts },
  λ h. record { database = h.database; stands = h.stands; answers = h.answers; texts = h.texts },
)

asked_alike : (state : State) (found : List (List Cell)) (one query asked : Query) → query ≡ asked → (IsAnswered state one found ↔ IsAnswered state asked found) → IsAnswered state one found ↔ IsAnswered state query found
asked_alike state found one query asked same alike =
    (λ h. subst (λ (k : Query). IsAnswered state k found) (sym same) (alike.0 h), λ h. alike.1 (subst (λ (k : Query). IsAnswered state k found) same h))

rows_served : (state : State) (columns : List (List ℕ)) (schema table : List ℕ) (found : List (List Cell)) (a b : Bool) → asks_progress (codes "digest") (codes "dump") columns schema table ≡ a → asks_progress (codes "name") (codes "files") columns schema table ≡ b → QueryServed state (cond a ProgressDump (cond b ProgressFiles (Rows columns schema table))) found ↔ QueryServed state (Rows columns schema table) found
rows_served state columns schema table found true b p q = asked_alike state found ProgressDump (Rows columns schema table) _ (asked_rows (codes "digest") (codes "dump") columns schema table p) (dump_served state found)
rows_served state columns schema table found false true p q = asked_alike state found ProgressFiles (Rows columns schema table) _ (asked_rows (codes "name") (codes "files") columns schema table q) (files_served state found)
rows_served state columns schema table found false false p q = (λ e. e, λ e. e)

pub query_served : (state : State) (query : Query) (found : List (List Cell)) → QueryServed state (read_query query) found ↔ QueryServed state query found
query_served state MasterStatus found = (λ e. e, λ e. e)
query_served state BinaryLogStatus found = (λ e. e, λ e. e)
query_served state Schemas found = (λ e. e, λ e. e)
query_served state (Tables schema) found = (λ e. e, λ e. e)
query_served state (Columns schema table) found = (λ e. e, λ e. e)
query_served state (PrimaryKey schema table) found = (λ e. e, λ e. e)
query_served state (Triggers schema) found = (λ e. e, λ e. e)
query_served state (Routines schema) found = (λ e. e, λ e. e)
query_served state (ViewNeeds schema) found = (λ e. e, λ e. e)
query_served state (Events schema) found = (λ e. e, λ e. e)
query_served state (CreateDatabase schema) found = (λ e. e, λ e. e)
query_served state (CreateTable schema name) found = (λ e. e, λ e. e)
query_served state (CreateView schema name) found = (λ e. e, λ e. e)
query_served state (CreateProcedure schema name) found = (λ e. e, λ e. e)
query_served state (CreateFunction schema name) found = (λ e. e, λ e. e)
query_served state (CreateTrigger schema name) found = (λ e. e, λ e. e)
query_served state (CreateEvent schema name) found = (λ e. e, λ e. e)
query_served state (Key key schema table skipped) found = (λ e. e, λ e. e)
query_served state (KeyAbove key schema table above skipped) found = (λ e. e, λ e. e)
query_served state (Rows columns schema table) found = rows_served state columns schema table found _ _ refl refl
query_served state (RowsByKey columns schema table key) found = (λ e. e, λ e. e)
query_served state (RowsAbove columns schema table key above) found = (λ e. e, λ e. e)
query_served state (RowsUpTo columns schema table key up_to) found = (λ e. e, λ e. e)
query_served state (RowsBetween columns schema table key above up_to) found = (λ e. e, λ e. e)
query_served state (WideKey keys schema table skipped) found = (λ e. e, λ e. e)
query_served state (WideKeyAbove keys schema table above skipped) found = (λ e. e, λ e. e)
query_served state (RowsByWideKey columns schema table keys) found = (λ e. e, λ e. e)
query_served state (RowsAboveWide columns schema table keys above) found = (λ e. e, λ e. e)
query_served state (RowsUpToWide columns schema table keys up_to) found = (λ e. e, λ e. e)
query_served state (RowsBetweenWide columns schema table keys above up_to) found = (λ e. e, λ e. e)
query_served state ProgressDump found = (λ e. e, λ e. e)
query_served state ProgressFiles found = (λ e. e, λ e. e)

pub effects_kept : TheEffectIsKept
effects_kept = record { effect = command_effect; ends = command_ends; served = query_served }
