-- How what a link has seen moves on (MySQL 8.0 Reference Manual, 15.7.8.3 "FLUSH Statement", 15.3.5 "LOCK INSTANCE FOR BACKUP"; what quiet and sole mean is ours).
use Rattle.std.specs.Prelude.{◌≡◌, ◌++◌, true, false, List, []}
use Rattle.server_data.specs.declared.data.Transaction.{Transaction}
use Rattle.honest_server.specs.Catalogue.{KeepsCatalogue}
use Rattle.honest_server.specs.State.{State}

-- What may follow what the link has seen: nothing while it holds the read lock, and no change of the catalogue while it holds the
-- backup lock, or while others may have links to a quiet site.
pub record MayFollow (state : State) (more : List Transaction) : Type 0 where
  pub frozen : state.frozen ≡ true → more ≡ []
  pub guarded : state.guarded ≡ true → KeepsCatalogue state.seen more
  pub catalogue : state.terms.server.quiet ≡ true → state.terms.sole ≡ false →
      KeepsCatalogue state.seen more

-- What a link may come to see of others at a plain statement. Where nobody else writes, a sole link sees nothing of others, and
-- neither does any link of a willing site.
pub record SeesOthers (state : State) (more : List Transaction) : Type 0 where
  pub follows : MayFollow state more
  pub sole : state.terms.server.quiet ≡ true → state.terms.sole ≡ true → more ≡ []
  pub willing : state.terms.server.quiet ≡ true → state.terms.server.willing ≡ true → more ≡ []

-- what a link comes to see at a statement that is sent beside a holder of the read lock: what the holder has seen
pub record SeesHolder (holder state : State) (more : List Transaction) : Type 0 where
  pub follows : MayFollow state more
  pub joined : state.seen ++ more ≡ holder.seen
  pub alone : state.terms.server.quiet ≡ true → state.terms.sole ≡ true → more ≡ []

-- how a statement is sent: plainly, or beside a holder of the read lock
pub data Way : Type 0 where
  plainly : Way
  beside : State → Way

-- what the link comes to see by it
abbrev pub Sees : Way → State → List Transaction → Type 0
Sees plainly state more = SeesOthers state more
Sees (beside holder) state more = SeesHolder holder state more

-- what the link has seen once it is handled: beside a holder, just what the holder has
abbrev pub SeesAfter : Way → State → Type 0
SeesAfter plainly new = Unit {0}
SeesAfter (beside holder) new = new.seen ≡ holder.seen
