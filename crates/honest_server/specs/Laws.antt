-- What follows from the definitions of an honest server, and examples of what they allow and refuse. The functions of src/laws.rt are the proofs.
use Rattle.std.specs.Prelude.{ℕ, ◌≡◌, ◌≢◌, Bool, true, false, List, [], ◌∷◌, ◌++◌, Some, None, codes, pos, neg_ℤ}
use Rattle.object_forms.specs.declared.shape.Column.{Column}
use Rattle.wire_forms.specs.declared.refusal.Refusal.{Refusal}
use Rattle.server_data.specs.Fold.{mark}
use Rattle.server_data.specs.History.{Interleaves, IsPrefix}
use Rattle.server_data.specs.declared.data.Change.{Change}
use Rattle.server_data.specs.declared.data.Transaction.{Transaction}
use Rattle.sql_cells.specs.declared.cell.Cell.{Cell}
use Rattle.statement_forms.specs.declared.command.Command.TheVariants.{StartSnapshot, UnlockTables, Commit, Insert}
use Rattle.statement_forms.specs.declared.query.Query.{Query}
use Rattle.statement_forms.specs.declared.query.Query.TheVariants.{MasterStatus}
use Rattle.statement_forms.specs.declared.statement.Statement.{Statement}
use Rattle.statement_forms.specs.declared.statement.Statement.TheVariants.{Command as SomeCommand, Query as SomeQuery}
use Rattle.honest_server.specs.Answer.{ShowsMark}
use Rattle.honest_server.specs.Catalogue.{KeepsCatalogue}
use Rattle.honest_server.specs.Columns.{integer_of, is_in_type, is_under}
use Rattle.honest_server.specs.Effect.{Effect}
use Rattle.honest_server.specs.Link.{ServedLink}
use Rattle.honest_server.specs.Moves.{Way, plainly, beside}
use Rattle.honest_server.specs.Serve.{Reply, done, rows, refused, QueryServed, Serves}
use Rattle.honest_server.specs.Site.{ServedSite, IsNewLink}
use Rattle.honest_server.specs.State.{State, with_others}

-- a link that holds the read lock sees nothing new at a plain statement, and commits nothing
abbrev pub AFrozenLinkSeesNothingNew : Type 0
AFrozenLinkSeesNothingNew =
    (state new : State) (statement : Statement) (reply : Reply) → state.frozen ≡ true →
    Serves plainly state statement reply new → (new.seen ≡ state.seen) × (new.mine ≡ state.mine)

-- what a link comes to see keeps the catalogue while it holds the backup lock
abbrev pub AGuardedLinkSeesOneCatalogue : Type 0
AGuardedLinkSeesOneCatalogue =
    (state new : State) (statement : Statement) (reply : Reply) → state.guarded ≡ true →
    Serves plainly state statement reply new
    → (more : List Transaction) × (new.seen ≡ state.seen ++ more) × KeepsCatalogue state.seen more

-- where nobody else writes, a sole link sees its own transactions alone
abbrev pub ASoleLinkSeesItsOwn : Type 0
ASoleLinkSeesItsOwn =
    (state new : State) (statement : Statement) (reply : Reply) → state.terms.server.quiet ≡ true →
    state.terms.sole ≡ true → Serves plainly state statement reply new
    → (own : List Transaction) × (new.seen ≡ state.seen ++ own) × (new.mine ≡ state.mine ++ own)

-- a snapshot that is taken beside a holder of the read lock shows what the holder has seen
abbrev pub ASnapshotBesideShowsTheHolders : Type 0
ASnapshotBesideShowsTheHolders =
    (holder state new : State) → Serves (beside holder) state (SomeCommand StartSnapshot) done new →
    new.view ≡ Some holder.seen

-- the reply is an OK or rows, and no ERR
abbrev pub IsNoErr : Reply → Type 0
IsNoErr done = Unit {0}
IsNoErr (rows found) = Unit {0}
IsNoErr (refused found refusal) = ⊥

-- what is answered beside a holder of the read lock, but for an ERR, leaves just what the holder has seen
abbrev pub AStatementBesideSeesTheHolders : Type 0
AStatementBesideSeesTheHolders =
    (holder state new : State) (statement : Statement) (reply : Reply) → IsNoErr reply →
    Serves (beside holder) state statement reply new → new.seen ≡ holder.seen

-- rows that came before an ERR are the first of an answer to the query
abbrev pub RowsBeforeAnErrAreOfAnAnswer : Type 0
RowsBeforeAnErrAreOfAnAnswer =
    (way : Way) (state new : State) (query : Query) (row : List Cell) (found : List (List Cell))
    (refusal : Refusal) → Serves way state (SomeQuery query) (refused (row ∷ found) refusal) new
    → (more : List Transaction) × (whole : List (List Cell))
    × QueryServed (with_others state more) query whole × IsPrefix (row ∷ found) whole

-- one that is taken by a plain statement may show something else, though both had seen the same
abbrev pub APlainSnapshotMayShowMore : Type 0
APlainSnapshotMayShowMore =
    (holder : State) × (state : State) × (new : State) × (holder.frozen ≡ true)
    × (state.seen ≡ holder.seen)
    × Serves plainly state (SomeCommand StartSnapshot) done new × (new.view ≢ Some holder.seen)

-- once the read lock is given back, the position may be another than at its grant
abbrev pub ThePositionMayMoveAfterTheLock : Type 0
ThePositionMayMoveAfterTheLock =
    (state : State) × (unlocked : State) × (asked : State) × (found : List (List Cell))
    × (state.frozen ≡ true)
    × Serves plainly state (SomeCommand UnlockTables) done unlocked
    × Serves plainly unlocked (SomeQuery MasterStatus) (rows found) asked
    × (ShowsMark (mark state.seen) found → ⊥)

-- rows that are put outside a transaction are one of their own, and are there whatever is said later
abbrev pub AnInsertAloneIsCommitted : Type 0
AnInsertAloneIsCommitted =
    (state new : State) (text : List ℕ) → state.pending ≡ None → Effect state (Insert text) new →
    (one : Transaction) × (new.mine ≡ state.mine ++ one ∷ []) × (new.seen ≡ state.seen ++ one ∷ [])

-- rows that are put inside one wait for its end, and what was put before them with them
abbrev pub AnInsertWaitsForItsCommit : Type 0
AnInsertWaitsForItsCommit =
    (state new : State) (text : List ℕ) (before : List Change) → state.pending ≡ Some before →
    Effect state (Insert text) new
    → (new.mine ≡ state.mine) × (new.seen ≡ state.seen) × (more : List Change)
    × (new.pending ≡ Some (before ++ more))

-- a commit ends the history by all of the open transaction at once, where that has changes
abbrev pub ACommitIsWhole : Type 0
ACommitIsWhole =
    (state new : State) (change : Change) (changes : List Change) →
    state.pending ≡ Some (change ∷ changes) → Effect state Commit new
    → (one : Transaction) × (one.changes ≡ change ∷ changes) × (new.mine ≡ state.mine ++ one ∷ [])
    × (new.seen ≡ state.seen ++ one ∷ []) × (new.pending ≡ None)

-- each list is a front and its rest
pub data AreJoined : List (List Transaction) → List (List Transaction) → List (List Transaction) →
    Type 0 where
  no_more : AreJoined [] [] []
  one_more : {front rest : List Transaction} {fronts rests lists : List (List Transaction)} →
      AreJoined fronts rests lists →
      AreJoined (front ∷ fronts) (rest ∷ rests) ((front ++ rest) ∷ lists)

-- A site where nobody else writes can keep that each grant is a prefix of the history: what a link had seen at its grant is the
-- history at its start and an interleaving of fronts of the links' transactions, and their rests can come after it.
abbrev pub AGrantCanStandFirst : Type 0
AGrantCanStandFirst =
    (base front : List Transaction) (fronts rests lists : List (List Transaction)) →
    AreJoined fronts rests lists → Interleaves fronts front
    → (whole : List Transaction) × Interleaves lists whole
    × IsPrefix (base ++ front) (base ++ whole)

-- a column of TINYINT, signed or unsigned
abbrev pub tiny : Bool → Column
tiny unsigned =
    record { name = codes "k"; data_type = codes "tinyint"; unsigned = unsigned; generated = false }

-- integers as keys and under counters
pub record IntegersAreRead : Type 0 where
  pub zero_filled : integer_of (codes "007") ≡ Some (pos 7)
  pub negative : integer_of (codes "-128") ≡ Some (neg_ℤ (pos 128))
  pub fraction : integer_of (codes "1.5") ≡ None
  pub nothing : integer_of [] ≡ None
  pub least : is_in_type (tiny false) (neg_ℤ (pos 128)) ≡ true
  pub below_least : is_in_type (tiny false) (neg_ℤ (pos 129)) ≡ false
  pub greatest_unsigned : is_in_type (tiny true) (pos 255) ≡ true
  pub past_greatest : is_in_type (tiny true) (pos 256) ≡ false
  pub below_counter : is_under (tiny false) 8 (pos 7) ≡ true
  pub at_counter : is_under (tiny false) 8 (pos 8) ≡ false
  pub at_greatest : is_under (tiny false) 127 (pos 127) ≡ true
  pub at_greatest_of_unsigned : is_under (tiny true) 127 (pos 127) ≡ false

-- a new link holds no lock, has no view, no open transaction and no transactions of its own, and has seen the site's history
abbrev pub ANewLinkHoldsNothing : Type 0
ANewLinkHoldsNothing =
    (site : ServedSite) (sole : Bool) (link : ServedLink) → IsNewLink site sole link
    → (link.state.frozen ≡ false) × (link.state.guarded ≡ false) × (link.state.view ≡ None)
    × (link.state.pending ≡ None) × (link.state.mine ≡ [])
    × IsPrefix site.history link.state.seen
