-- Links that show what a plain statement may bring.
use Rattle.std.proofs.Common.{◌≡◌, Bool, true, false, List, [], ◌∷◌, Some, None, refl, ap}
use Rattle.std.proofs.lemmas.Bool.{false≢true}
use Rattle.std.specs.Prelude.{decimal}
use Rattle.server_data.specs.declared.data.Position.{Position}
use Rattle.server_data.specs.declared.data.Transaction.{Transaction}
use Rattle.sql_cells.specs.declared.cell.Cell.{Cell}
use Rattle.sql_cells.specs.declared.cell.Cell.TheVariants.{Null, Value}
use Rattle.honest_server.specs.Laws.{APlainSnapshotMayShowMore, ThePositionMayMoveAfterTheLock}
use Rattle.honest_server.specs.State.{Server, State, in_session, no_settings, with_others}
use Rattle.wire_forms.specs.declared.ends.Ends.TheVariants.{Eof}

-- a server to which others write
abbrev anyone : Server
anyone = record { quiet = false; willing = false; plugin = []; newer = false; ends = Eof; old_status = false; prints = λ bytes. false }

-- a link that has seen nothing and holds the read lock or doesn't
abbrev link : Bool → State
link frozen = record {
  terms = record { server = anyone; base = []; sole = false };
  phase = in_session;
  seen = [];
  guarded = false;
  frozen = frozen;
  view = None;
  pending = None;
  mine = [];
  schema = None;
  settings = no_settings;
  errors = [];
  grants = [];
}

abbrev here : Position
here = record { file = []; offset = 0; gtid = [] }

abbrev one : Transaction
one = record { changes = []; mark = Some here }

abbrev status : List (List Cell)
status = (Value [] ∷ Value (decimal 0) ∷ Null ∷ Null ∷ Value [] ∷ []) ∷ []

no_length : {X : Type 0} {x : X} {xs : List X} → x ∷ xs ≡ [] → ⊥
no_length {X = X} {x = x} {xs = xs} e = absurd (false≢true (ap (λ (list : List X). is_empty list) e))
  where
    is_empty : List X → Bool
    is_empty [] = true
    is_empty (x ∷ xs) = false

pub snapshot : APlainSnapshotMayShowMore
snapshot = (
  link true,
  link false,
  record (with_others (link false) (one ∷ [])) { view = Some (one ∷ []) },
  refl,
  refl,
  record {
    more = one ∷ [];
    sees = record {
      follows = record { frozen = λ p. absurd (false≢true p); guarded = λ p. absurd (false≢true p); catalogue = λ p q. absurd (false≢true p) };
      sole = λ p q. absurd (false≢true p);
      willing = λ p q. absurd (false≢true p);
    };
    handles = record { middle = with_others (link false) (one ∷ []); ended = refl; new_is = refl };
    ends = tt;
  },
  (λ e. no_length (some_same e)),
)
  where
    some_same : {xs ys : List Transaction} → Some xs ≡ Some ys → xs ≡ ys
    some_same e = cc

pub position : ThePositionMayMoveAfterTheLock
position = (
  link true,
  link false,
  with_others (link false) (one ∷ []),
  status,
  refl,
  record {
    more = [];
    sees = record {
      follows = record { frozen = λ p. refl; guarded = λ p. absurd (false≢true p); catalogue = λ p q. absurd (false≢true p) };
      sole = λ p q. refl;
      willing = λ p q. refl;
    };
    handles = refl;
    ends = tt;
  },
  record {
    more = one ∷ [];
    sees = record {
      follows = record { frozen = λ p. absurd (false≢true p); guarded = λ p. absurd (false≢true p); catalogue = λ p q. absurd (false≢true p) };
      sole = λ p q. absurd (false≢true p);
      willing = λ p q. absurd (false≢true p);
    };
    handles = (record { is_there = refl; shows = record { third = Null; fourth = Null; gtid = []; more = []; rows_are = refl; gtid_is = refl } }, refl);
    ends = tt;
  },
  no_length,
)
