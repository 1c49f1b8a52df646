-- Texts that don't begin with the word CREATE make no object.
use Rattle.std.proofs.Common.{◌≡◌, ◌==◌, ◌||◌, ℕ, Bool, true, false, if◌then◌else◌, List, ◌∷◌, ◌++◌, codes, refl, ◌∙◌, ap, subst, Some, None, is_some}
use Rattle.std.specs.Prelude.{option_and_then}
use Rattle.grammar.specs.Language.{Then, Fixed}
use Rattle.object_texts.proofs.HeadPlaces.{no-head}
use Rattle.sql_tokens.proofs.Tokens.{tokens-cons}
use Rattle.object_forms.specs.Head.{HasHead, head_in, kind_in, making_after}
use Rattle.object_forms.specs.Token.{Token, first_token, is_word}
use Rattle.statement_forms.specs.Insert.{AnyInsert}
use Rattle.statement_forms.specs.Statement.{CommandHasText, IsTextOf, list_row}
use Rattle.statement_forms.specs.Text.{command_text, query_text}
use Rattle.statement_forms.specs.declared.command.Command.{Command}
use Rattle.statement_forms.specs.declared.command.Command.TheVariants.{SetUp, NamesUtf8mb4, NamesBinary, ForeignKeyChecksOff, TimeZoneUtc, BinaryLogOff, SqlMode, CharacterSetClient, CollationConnection, RepeatableRead, TimeZone, LockInstance, FlushTables, UnlockTables, UnlockInstance, StartSnapshot, Start, Commit, Rollback, Use, Create, CreateProgress, CreateProgressFiles, CreateProgressDump, Insert, InsertProgressFile, InsertProgressDump}
use Rattle.statement_forms.specs.declared.query.Query.{Query}
use Rattle.statement_forms.specs.declared.query.Query.TheVariants.{MasterStatus, BinaryLogStatus, Schemas, Tables, Columns, PrimaryKey, Triggers, Routines, ViewNeeds, Events, CreateDatabase, CreateTable, CreateView, CreateProcedure, CreateFunction, CreateTrigger, CreateEvent, Key, KeyAbove, Rows, RowsByKey, RowsAbove, RowsUpTo, RowsBetween, WideKey, WideKeyAbove, RowsByWideKey, RowsAboveWide, RowsUpToWide, RowsBetweenWide, ProgressDump, ProgressFiles}
use Rattle.statement_forms.specs.declared.statement.Statement.{Statement}
use Rattle.statement_forms.specs.declared.statement.Statement.TheVariants.{Command as SomeCommand, Query as SomeQuery}

headless : (test : Bool) (rest : List Token) → test ≡ false → is_some (option_and_then making_after (option_and_then kind_in (if test then Some rest else None))) ≡ false
headless true rest is = absurd (cc)
headless false rest is = refl

-- the first token is no CREATE
starts_otherwise : (byte : ℕ) (bytes : List ℕ) → is_word (codes "create") (first_token (byte ∷ bytes)).token ≡ false → HasHead (byte ∷ bytes) → ⊥
starts_otherwise byte bytes is =
    no-head (byte ∷ bytes)
    (ap (λ (l : List Token). is_some (head_in l)) (tokens-cons byte bytes) ∙ headless (is_word (codes "create") (first_token (byte ∷ bytes)).token) _ is)

inserts_nothing : (text : List ℕ) → AnyInsert text → HasHead text → ⊥
unfolding AnyInsert Then Fixed
inserts_nothing text is head =
    let text_is : text ≡ codes "INSERT INTO " ++ is.1 = is.2 ∙ ap (λ (l : List ℕ). l ++ is.1) is.3 in
    starts_otherwise 73 _ refl (subst (λ (l : List ℕ). HasHead l) text_is head)

-- whether the texts of a row make objects
abbrev pub makes_object : ℕ → Bool
makes_object row = row == 20 || row == 21 || row == 22 || row == 23

pub command_makes_nothing : (command : Command) → CommandHasText command → makes_object (list_row (SomeCommand command)) ≡ false → HasHead (command_text command) → ⊥
unfolding command_text
command_makes_nothing SetUp has other = starts_otherwise 83 _ refl
command_makes_nothing NamesUtf8mb4 has other = starts_otherwise 83 _ refl
command_makes_nothing NamesBinary has other = starts_otherwise 83 _ refl
command_makes_nothing ForeignKeyChecksOff has other = starts_otherwise 83 _ refl
command_makes_nothing TimeZoneUtc has other = starts_otherwise 83 _ refl
command_makes_nothing BinaryLogOff has other = starts_otherwise 83 _ refl
command_makes_nothing (SqlMode value) has other = starts_otherwise 83 _ refl
command_makes_nothing (CharacterSetClient value) has other = starts_otherwise 83 _ refl
command_makes_nothing (CollationConnection value) has other = starts_otherwise 83 _ refl
command_makes_nothing RepeatableRead has other = starts_otherwise 83 _ refl
command_makes_nothing (TimeZone value) has other = starts_otherwise 83 _ refl
command_makes_nothing LockInstance has other = starts_otherwise 76 _ refl
command_makes_nothing FlushTables has other = starts_otherwise 70 _ refl
command_makes_nothing UnlockTables has other = starts_otherwise 85 _ refl
command_makes_nothing UnlockInstance has other = starts_otherwise 85 _ refl
command_makes_nothing StartSnapshot has other = starts_otherwise 83 _ refl
command_makes_nothing Start has other = starts_otherwise 83 _ refl
command_makes_nothing Commit has other = starts_otherwise 67 _ refl
command_makes_nothing Rollback has other = starts_otherwise 82 _ refl
command_makes_nothing (Use schema) has other = starts_otherwise 85 _ refl
command_makes_nothing (Create text) has other = cc
command_makes_nothing CreateProgress has other = cc
command_makes_nothing CreateProgressFiles has other = cc
command_makes_nothing CreateProgressDump has other = cc
command_makes_nothing (Insert text) has other = inserts_nothing text has
command_makes_nothing (InsertProgressFile name) has other = starts_otherwise 73 _ refl
command_makes_nothing (InsertProgressDump digest) has other = starts_otherwise 73 _ refl

pub query_makes_nothing : (query : Query) → HasHead (query_text query) → ⊥
unfolding query_text
query_makes_nothing MasterStatus = starts_otherwise 83 _ refl
query_makes_nothing BinaryLogStatus = starts_otherwise 83 _ refl
query_makes_nothing Schemas = starts_otherwise 83 _ refl
query_makes_nothing (Tables schema) = starts_otherwise 83 _ refl
query_makes_nothing (Columns schema table) = starts_otherwise 83 _ refl
query_makes_nothing (PrimaryKey schema table) = starts_otherwise 83 _ refl
query_makes_nothing (Triggers schema) = starts_otherwise 83 _ refl
query_makes_nothing (Routines schema) = starts_otherwise 83 _ refl
query_makes_nothing (ViewNeeds schema) = starts_otherwise 83 _ refl
query_makes_nothing (Events schema) = starts_otherwise 83 _ refl
query_makes_nothing (CreateDatabase schema) = starts_otherwise 83 _ refl
query_makes_nothing (CreateTable schema name) = starts_otherwise 83 _ refl
query_makes_nothing (CreateView schema name) = starts_otherwise 83 _ refl
query_makes_nothing (CreateProcedure schema name) = starts_otherwise 83 _ refl
query_makes_nothing (CreateFunction schema name) = starts_otherwise 83 _ refl
query_makes_nothing (CreateTrigger schema name) = starts_otherwise 83 _ refl
query_makes_nothing (CreateEvent schema name) = starts_otherwise 83 _ refl
query_makes_nothing (Key key schema table skipped) = starts_otherwise 83 _ refl
query_makes_nothing (KeyAbove key schema table above skipped) = starts_otherwise 83 _ refl
query_makes_nothing (Rows columns schema table) = starts_otherwise 83 _ refl
query_makes_nothing (RowsByKey columns schema table key) = starts_otherwise 83 _ refl
query_makes_nothing (RowsAbove columns schema table key above) = starts_otherwise 83 _ refl
query_makes_nothing (RowsUpTo columns schema table key up_to) = starts_otherwise 83 _ refl
query_makes_nothing (RowsBetween columns schema table key above up_to) = starts_otherwise 83 _ refl
query_makes_nothing (WideKey keys schema table skipped) = starts_otherwise 83 _ refl
query_makes_nothing (WideKeyAbove keys schema table above skipped) = starts_otherwise 83 _ refl
query_makes_nothing (RowsByWideKey columns schema table keys) = starts_otherwise 83 _ refl
query_makes_nothing (RowsAboveWide columns schema table keys above) = starts_otherwise 83 _ refl
query_makes_nothing (RowsUpToWide columns schema table keys up_to) = starts_otherwise 83 _ refl
query_makes_nothing (RowsBetweenWide columns schema table keys above up_to) = starts_otherwise 83 _ refl
query_makes_nothing ProgressDump = starts_otherwise 83 _ refl
query_makes_nothing ProgressFiles = starts_otherwise 83 _ refl

-- The texts of the other rows have no head.
pub no_head_elsewhere : (s : Statement) (text : List ℕ) → IsTextOf s text → makes_object (list_row s) ≡ false → HasHead text → ⊥
no_head_elsewhere (SomeCommand command) text is other head =
    command_makes_nothing command is.0 other (subst (λ (l : List ℕ). HasHead l) is.1 head)
no_head_elsewhere (SomeQuery query) text is other head =
    query_makes_nothing query (subst (λ (l : List ℕ). HasHead l) is.2 head)
