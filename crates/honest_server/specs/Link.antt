-- What an honest link tells, and what its calls do.
use Rattle.std.specs.Prelude.{◌≡◌, ◌<◌, ◌≤◌, ◌⊎◌, ℕ, Bool, true, false, List, [], ◌∷◌, ◌++◌, length, take, All, Result, OnOk, OnErr, IfOk, IfSome}
use Rattle.wire_forms.specs.Packet.{packets}
use Rattle.object_forms.specs.Head.{HasHead}
use Rattle.server_data.specs.History.{Interleaves, IsPrefix}
use Rattle.server_data.specs.declared.data.Transaction.{Transaction}
use Rattle.honest_server.specs.Catalogue.{KeepsCatalogue}
use Rattle.honest_server.specs.Exchange.{Exchanges, CommitsAlone, IsWholeMessage, query_payload}
use Rattle.honest_server.specs.Moves.{Way, plainly, beside}
use Rattle.honest_server.specs.State.{State, in_session}
use Rattle.honest_server.specs.WideKey.{KeepsWideKeys}
use Rattle.honest_server.specs.WellFormed.{IsSound}

-- the bytes that wait, the state that the server keeps, whether the link has failed, and whether the server still tells that each wide key
-- stands once and is of its columns' types
pub record ServedLink : Type 0 where
  pub waiting : List ℕ
  pub state : State
  pub failed : Bool
  pub keeps_wide : Bool

-- what isn't told any more isn't told again
abbrev pub TellsNoMore : Bool → Bool → Type 0
TellsNoMore old new = new ≡ true → old ≡ true

-- the message was handled, and the reply's bytes wait
pub record IsExchanged (way : Way) (old : ServedLink) (message : List ℕ)
    (new : ServedLink) : Type 0 where
  pub reply : List ℕ
  pub exchanges : Exchanges way old.state message reply new.state
  pub waits : new.waiting ≡ old.waiting ++ reply
  pub alive : new.failed ≡ false
  pub wide : TellsNoMore old.keeps_wide new.keeps_wide

-- beside a holder of the read lock nothing is committed
abbrev pub CommitsAloneBy : Way → State → List ℕ → State → Type 0
CommitsAloneBy plainly state message new = CommitsAlone state message new
CommitsAloneBy (beside holder) state message new = ⊥

-- the link failed at a message: it was handled whole, or only its commit, or not at all
pub record Breaks (way : Way) (old : ServedLink) (message : List ℕ)
    (new : ServedLink) : Type 0 where
  pub failed : new.failed ≡ true
  pub wide : TellsNoMore old.keeps_wide new.keeps_wide
  pub left : ((reply : List ℕ) × Exchanges way old.state message reply new.state)
      ⊎ (CommitsAloneBy way old.state message new.state ⊎ (new.state ≡ old.state))

-- A message is sent: it is handled, or the link fails. One that has failed before fails again, and nothing changes.
pub record SendsTo {T E : Type 0} (way : Way) (old : ServedLink) (message : List ℕ)
    (result : Result T E) (new : ServedLink) : Type 0 where
  pub ok : OnOk result ((old.failed ≡ false) × IsExchanged way old message new)
  pub err : OnErr result (old.failed ≡ false → Breaks way old message new)
  pub dead : old.failed ≡ true → new ≡ old

-- plainly
abbrev pub Sends : {T E : Type 0} → ServedLink → List ℕ → Result T E → ServedLink → Type 0
Sends old message result new = SendsTo plainly old message result new

-- Beside a holder of the read lock. The holder has seen what the link has, or the link fails.
pub record SendsBeside {T E : Type 0} (holder : State) (old : ServedLink) (message : List ℕ)
    (result : Result T E) (new : ServedLink) : Type 0 where
  pub sends : SendsTo (beside holder) old message result new
  pub after : OnOk result (IsPrefix old.state.seen holder.seen)

-- the message is no object's text
abbrev pub IsNoCreate : List ℕ → Type 0
IsNoCreate message =
    (id : ℕ) (text : List ℕ) → message ≡ packets id (query_payload text) → HasHead text → ⊥

-- what a client's message on a link in this state has to be: whole packets with the right ids, and in a session that isn't alone no object's text
pub record MaySend (state : State) (message : List ℕ) : Type 0 where
  pub whole : IsWholeMessage state.phase message
  pub no_create : state.phase ≡ in_session → state.terms.sole ≡ false → IsNoCreate message

-- beside which link one may send: it hasn't failed and holds the read lock, and the sender has no transactions of its own
pub record MayStandBeside (holder sender : ServedLink) : Type 0 where
  pub alive : holder.failed ≡ false
  pub frozen : holder.state.frozen ≡ true
  pub none_mine : sender.state.mine ≡ []

-- at least one byte was taken off what waits, and nothing else has changed
pub record TakesOff (old : ServedLink) (buffer : List ℕ) (count : ℕ)
    (new : ServedLink) : Type 0 where
  pub some : 0 < count
  pub fits : count ≤ length buffer
  pub bytes : take count buffer ++ new.waiting ≡ old.waiting
  pub state : new.state ≡ old.state
  pub alive : new.failed ≡ false
  pub wide : new.keeps_wide ≡ old.keeps_wide

-- bytes are taken off what waits, or the link fails; one that has failed before fails again
pub record Receives {E : Type 0} (old : ServedLink) (buffer : List ℕ) (result : Result ℕ E)
    (new : ServedLink) : Type 0 where
  pub ok : IfOk result (λ count. (old.failed ≡ false) × TakesOff old buffer count new)
  pub err : OnErr result (new ≡ record old { failed = true })

-- where nobody else writes, what a link has seen past the site's history makes and drops no object, and is its own where it is alone
pub record IsFromBase (state : State) : Type 0 where
  pub more : List Transaction
  pub joined : state.terms.base ++ more ≡ state.seen
  pub catalogue : state.terms.sole ≡ false → KeepsCatalogue state.terms.base more
  pub alone : state.terms.sole ≡ true → more ≡ state.mine

-- what a link has seen begins with the site's history at its start, and its own transactions stand after that, in their order
pub record HoldsItsOwn (state : State) : Type 0 where
  pub more : List Transaction
  pub joined : state.terms.base ++ more ≡ state.seen
  pub others : List Transaction
  pub own : Interleaves (state.mine ∷ others ∷ []) more

-- an earlier history that the link shows: a sound one, with which what it has seen begins
pub record IsShown (state : State) (history : List Transaction) : Type 0 where
  pub sound : IsSound state.terms.server history
  pub front : IsPrefix history state.seen

-- all histories that a link shows are sound, and they belong together
pub record IsSoundState (state : State) : Type 0 where
  pub quiet : state.terms.server.quiet ≡ true → IsFromBase state
  pub own : HoldsItsOwn state
  pub seen : IsSound state.terms.server state.seen
  pub view : IfSome state.view (IsShown state)
  pub grants : All (IsShown state) state.grants

-- all histories that a link shows are sound, and keep wide keys where the link tells that
pub record IsSoundLink (link : ServedLink) : Type 0 where
  pub state : IsSoundState link.state
  pub wide : link.keeps_wide ≡ true → KeepsWideKeys link.state.seen
  pub wide_view : link.keeps_wide ≡ true → IfSome link.state.view KeepsWideKeys
  pub wide_grants : link.keeps_wide ≡ true → All KeepsWideKeys link.state.grants
