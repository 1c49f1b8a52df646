-- What the queries for the position are answered, on servers of several versions.
use Rattle.std.proofs.Common.{◌≡◌, Bool, false, true, List, [], ◌++◌, Some, None, refl, subst, codes}
use Rattle.std.proofs.lemmas.Bool.{false≢true, true≢false}
use Rattle.server_data.specs.Fold.{mark}
use Rattle.server_data.specs.declared.data.Transaction.{Transaction}
use Rattle.statement_forms.specs.declared.query.Query.TheVariants.{BinaryLogStatus, MasterStatus}
use Rattle.statement_forms.specs.declared.statement.Statement.TheVariants.{Query as SomeQuery}
use Rattle.honest_server.specs.Answer.{ShowsMark}
use Rattle.honest_server.specs.Moves.{plainly}
use Rattle.honest_server.specs.Serve.{FitsNowhere, done, refused, rows}
use Rattle.honest_examples.specs.Answered.{status}
use Rattle.honest_examples.specs.Effects.{worked}
use Rattle.honest_examples.specs.Statuses.{ANewerServerHasTheNewStatus, ANewerServerMayKeepTheOldStatus, AnOlderServerHasTheOldStatus, newer, position}
use Rattle.honest_examples.specs.Worked.{history, schema}
use Rattle.honest_examples.proofs.Answering.{last_position}
use Rattle.honest_examples.proofs.Commanding.{free}
use Rattle.honest_examples.proofs.Serving.{IsAlone, refuses, serves_rows}

shown : ShowsMark (mark history) position
shown = last_position.allowed

-- the link sees nothing of others there either
alone : (old_status : Bool) → IsAlone (newer old_status)
alone old_status = record {
  quiet = refl;
  sole = refl;
  willing = refl;
  nothing = record {
    follows = record { frozen = λ p. refl; guarded = λ p. absurd (false≢true p); catalogue = λ p q. absurd (true≢false q) };
    sole = λ p q. refl;
    willing = λ p q. refl;
  };
  same = refl;
}

-- no other position is shown
another : (more : List Transaction) → more ≡ [] → ShowsMark (mark (history ++ more)) (status (codes "15")) → ⊥
another more none shows = last_position.another (subst (λ (more : List Transaction). ShowsMark (mark (history ++ more)) (status (codes "15"))) none shows)

pub older : AnOlderServerHasTheOldStatus
older = record {
  allowed = serves_rows worked (SomeQuery MasterStatus) position worked (free history (Some schema) false None None refl) (record { is_there = refl; shows = shown }, refl);
  another = λ new served. another served.more (served.sees.sole refl refl) served.handles.0.shows;
  refused = refuses worked (SomeQuery BinaryLogStatus) (free history (Some schema) false None None refl) never;
}
  where
    never : FitsNowhere plainly worked (SomeQuery BinaryLogStatus) []
    never done new effect = effect
    never (rows found) new answered = false≢true answered.0.is_there
    never (refused found refusal) new effect = effect

pub new_alone : ANewerServerHasTheNewStatus
new_alone = record {
  allowed = serves_rows (newer false) (SomeQuery BinaryLogStatus) position (newer false) (alone false) (record { is_there = refl; shows = shown }, refl);
  another = λ new served. another served.more (served.sees.sole refl refl) served.handles.0.shows;
  refused = refuses (newer false) (SomeQuery MasterStatus) (alone false) never;
}
  where
    never : FitsNowhere plainly (newer false) (SomeQuery MasterStatus) []
    never done new effect = effect
    never (rows found) new answered = false≢true answered.0.is_there
    never (refused found refusal) new effect = effect

pub both : ANewerServerMayKeepTheOldStatus
both = record {
  old = serves_rows (newer true) (SomeQuery MasterStatus) position (newer true) (alone true) (record { is_there = refl; shows = shown }, refl);
  new = serves_rows (newer true) (SomeQuery BinaryLogStatus) position (newer true) (alone true) (record { is_there = refl; shows = shown }, refl);
  refused = λ new served. another served.more (served.sees.sole refl refl) served.handles.0.shows;
}
