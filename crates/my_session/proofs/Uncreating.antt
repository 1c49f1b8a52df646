-- Texts that don't begin with CREATE make no object.
use Rattle.std.proofs.Common.{◌≡◌, ℕ, Bool, true, false, if◌then◌else◌, List, ◌∷◌, ◌++◌, codes, refl, sym, ◌∙◌, ap, subst, Some, None, is_some}
use Rattle.std.specs.Prelude.{option_and_then}
use Rattle.grammar.specs.Language.{Then, Fixed}
use Rattle.honest_server.specs.Exchange.{query_payload}
use Rattle.object_texts.proofs.HeadPlaces.{no-head}
use Rattle.sql_tokens.proofs.Tokens.{tokens-cons}
use Rattle.object_forms.specs.Head.{HasHead, head_in, kind_in, making_after}
use Rattle.object_forms.specs.Token.{Token, first_token, is_word}
use Rattle.statement_forms.specs.Form.{command_form}
use Rattle.statement_forms.specs.Insert.{AnyInsert}
use Rattle.statement_forms.specs.Statement.{CommandHasText}
use Rattle.statement_forms.specs.Text.{command_text, query_text}
use Rattle.statement_forms.specs.declared.command.Command.{Command}
use Rattle.statement_forms.specs.declared.command.Command.TheVariants.{SetUp, NamesUtf8mb4, NamesBinary, ForeignKeyChecksOff, TimeZoneUtc, BinaryLogOff, SqlMode, CharacterSetClient, CollationConnection, RepeatableRead, TimeZone, LockInstance, FlushTables, UnlockTables, UnlockInstance, StartSnapshot, Start, Commit, Rollback, Use, Create, CreateProgress, CreateProgressFiles, CreateProgressDump, Insert, InsertProgressFile, InsertProgressDump}
use Rattle.statement_forms.specs.declared.form.Form.TheVariants.{Create as CreateForm}
use Rattle.statement_forms.specs.declared.query.Query.{Query}
use Rattle.statement_forms.specs.declared.query.Query.TheVariants.{MasterStatus, BinaryLogStatus, Schemas, Tables, Columns, PrimaryKey, Triggers, Routines, ViewNeeds, Events, CreateDatabase, CreateTable, CreateView, CreateProcedure, CreateFunction, CreateTrigger, CreateEvent, Key, KeyAbove, Rows, RowsByKey, RowsAbove, RowsUpTo, RowsBetween, WideKey, WideKeyAbove, RowsByWideKey, RowsAboveWide, RowsUpToWide, RowsBetweenWide, ProgressDump, ProgressFiles}
use Rattle.my_session.specs.InStep.{MakesNothing}
use Rattle.my_session.specs.Serving.{MakesNoObject}

headless : (test : Bool) (rest : List Token) → test ≡ false → is_some (option_and_then making_after (option_and_then kind_in (if test then Some rest else None))) ≡ false
headless true rest is = absurd (cc)
headless false rest is = refl

-- the first token is no CREATE
starts_otherwise : (byte : ℕ) (bytes : List ℕ) → is_word (codes "create") (first_token (byte ∷ bytes)).token ≡ false → HasHead (byte ∷ bytes) → ⊥
starts_otherwise byte bytes is =
    no-head (byte ∷ bytes)
    (ap (λ (l : List Token). is_some (head_in l)) (tokens-cons byte bytes) ∙ headless (is_word (codes "create") (first_token (byte ∷ bytes)).token) _ is)

inserts_nothing : (text : List ℕ) → AnyInsert text → HasHead text → ⊥
unfolding AnyInsert Then Fixed
inserts_nothing text is head =
    let text_is : text ≡ codes "INSERT INTO " ++ is.1 = is.2 ∙ ap (λ (l : List ℕ). l ++ is.1) is.3 in
    starts_otherwise 73 _ refl (subst (λ (l : List ℕ). HasHead l) text_is head)

pub makes_nothing : (command : Command) → CommandHasText command → (command_form command ≡ CreateForm → ⊥) → MakesNothing command
unfolding command_text
makes_nothing SetUp has other = starts_otherwise 83 _ refl
makes_nothing NamesUtf8mb4 has other = starts_otherwise 83 _ refl
makes_nothing NamesBinary has other = starts_otherwise 83 _ refl
makes_nothing ForeignKeyChecksOff has other = starts_otherwise 83 _ refl
makes_nothing TimeZoneUtc has other = starts_otherwise 83 _ refl
makes_nothing BinaryLogOff has other = starts_otherwise 83 _ refl
makes_nothing (SqlMode value) has other = starts_otherwise 83 _ refl
makes_nothing (CharacterSetClient value) has other = starts_otherwise 83 _ refl
makes_nothing (CollationConnection value) has other = starts_otherwise 83 _ refl
makes_nothing RepeatableRead has other = starts_otherwise 83 _ refl
makes_nothing (TimeZone value) has other = starts_otherwise 83 _ refl
makes_nothing LockInstance has other = starts_otherwise 76 _ refl
makes_nothing FlushTables has other = starts_otherwise 70 _ refl
makes_nothing UnlockTables has other = starts_otherwise 85 _ refl
makes_nothing UnlockInstance has other = starts_otherwise 85 _ refl
makes_nothing StartSnapshot has other = starts_otherwise 83 _ refl
makes_nothing Start has other = starts_otherwise 83 _ refl
makes_nothing Commit has other = starts_otherwise 67 _ refl
makes_nothing Rollback has other = starts_otherwise 82 _ refl
makes_nothing (Use schema) has other = starts_otherwise 85 _ refl
makes_nothing (Create text) has other = absurd (other refl)
makes_nothing CreateProgress has other = absurd (other refl)
makes_nothing CreateProgressFiles has other = absurd (other refl)
makes_nothing CreateProgressDump has other = absurd (other refl)
makes_nothing (Insert text) has other = inserts_nothing text has
makes_nothing (InsertProgressFile name) has other = starts_otherwise 73 _ refl
makes_nothing (InsertProgressDump digest) has other = starts_otherwise 73 _ refl

asks_nothing : (query : Query) → HasHead (query_text query) → ⊥
unfolding query_text
asks_nothing MasterStatus = starts_otherwise 83 _ refl
asks_nothing BinaryLogStatus = starts_otherwise 83 _ refl
asks_nothing Schemas = starts_otherwise 83 _ refl
asks_nothing (Tables schema) = starts_otherwise 83 _ refl
asks_nothing (Columns schema table) = starts_otherwise 83 _ refl
asks_nothing (PrimaryKey schema table) = starts_otherwise 83 _ refl
asks_nothing (Triggers schema) = starts_otherwise 83 _ refl
asks_nothing (Routines schema) = starts_otherwise 83 _ refl
asks_nothing (ViewNeeds schema) = starts_otherwise 83 _ refl
asks_nothing (Events schema) = starts_otherwise 83 _ refl
asks_nothing (CreateDatabase schema) = starts_otherwise 83 _ refl
asks_nothing (CreateTable schema name) = starts_otherwise 83 _ refl
asks_nothing (CreateView schema name) = starts_otherwise 83 _ refl
asks_nothing (CreateProcedure schema name) = starts_otherwise 83 _ refl
asks_nothing (CreateFunction schema name) = starts_otherwise 83 _ refl
asks_nothing (CreateTrigger schema name) = starts_otherwise 83 _ refl
asks_nothing (CreateEvent schema name) = starts_otherwise 83 _ refl
asks_nothing (Key key schema table skipped) = starts_otherwise 83 _ refl
asks_nothing (KeyAbove key schema table above skipped) = starts_otherwise 83 _ refl
asks_nothing (Rows columns schema table) = starts_otherwise 83 _ refl
asks_nothing (RowsByKey columns schema table key) = starts_otherwise 83 _ refl
asks_nothing (RowsAbove columns schema table key above) = starts_otherwise 83 _ refl
asks_nothing (RowsUpTo columns schema table key up_to) = starts_otherwise 83 _ refl
asks_nothing (RowsBetween columns schema table key above up_to) = starts_otherwise 83 _ refl
asks_nothing (WideKey keys schema table skipped) = starts_otherwise 83 _ refl
asks_nothing (WideKeyAbove keys schema table above skipped) = starts_otherwise 83 _ refl
asks_nothing (RowsByWideKey columns schema table keys) = starts_otherwise 83 _ refl
asks_nothing (RowsAboveWide columns schema table keys above) = starts_otherwise 83 _ refl
asks_nothing (RowsUpToWide columns schema table keys up_to) = starts_otherwise 83 _ refl
asks_nothing (RowsBetweenWide columns schema table keys above up_to) = starts_otherwise 83 _ refl
asks_nothing ProgressDump = starts_otherwise 83 _ refl
asks_nothing ProgressFiles = starts_otherwise 83 _ refl

-- a payload with a text that makes no object
pub says_nothing : (payload text : List ℕ) → payload ≡ query_payload text → (HasHead text → ⊥) → MakesNoObject payload
says_nothing payload text is none other other_is head =
    let same : text ≡ other = cc in
    none (subst (λ (l : List ℕ). HasHead l) (sym same) head)

pub query_says_nothing : (query : Query) (payload : List ℕ) → payload ≡ query_payload (query_text query) → MakesNoObject payload
query_says_nothing query payload is = says_nothing payload (query_text query) is (asks_nothing query)
