-- Logins in which another plugin is asked for, and one that is turned away.
use Rattle.std.specs.Prelude.{ℕ, ◌≡◌, false, List, [], ◌∷◌, ◌++◌, Some, codes}
use Rattle.wire_forms.specs.Texts.{native_password}
use Rattle.statement_forms.specs.declared.form.Form.TheVariants.{Connect}
use Rattle.honest_server.specs.Exchange.{Exchanges}
use Rattle.honest_server.specs.Moves.{plainly}
use Rattle.honest_server.specs.State.{Phase, State, greeted, in_session, over, switching, with_error}
use Rattle.honest_examples.specs.Effects.{worked}
use Rattle.honest_examples.specs.Exchanges.{err, logging_in, ok, refusal}
use Rattle.honest_examples.specs.Worked.{server}

-- a link to a server whose accounts have the plugin mysql_native_password, in this phase
abbrev pub native : Phase → State
native phase =
    record worked {
      terms =
          record worked.terms { server = record server { plugin = native_password } };
      phase = phase;
    }

-- the client's response, as a packet of this id
abbrev pub response_packet : ℕ → List ℕ
response_packet id = 1 ∷ 0 ∷ 0 ∷ id ∷ 0 ∷ []

-- a request for that plugin, with a scramble of twenty bytes and a 00
abbrev pub request : List ℕ
request = 254 ∷ codes "mysql_native_password" ++ (0 ∷ codes "abcdefghijklmnopqrst" ++ (0 ∷ []))

-- such a request as a packet of this id
abbrev pub request_packet : ℕ → List ℕ
request_packet id = 44 ∷ 0 ∷ 0 ∷ id ∷ request

-- an OK as a packet of this id
abbrev pub ok_of : ℕ → List ℕ
ok_of id = 7 ∷ 0 ∷ 0 ∷ id ∷ ok

-- an ERR as a packet of this id
abbrev pub err_of : ℕ → List ℕ
err_of id = 11 ∷ 0 ∷ 0 ∷ id ∷ err

-- the plugin of the accounts may be asked for, once, and no other; the response to it may be taken
pub record AnotherPluginIsAskedForOnce : Type 0 where
  pub allowed : Exchanges plainly (native greeted) (response_packet 1) (request_packet 2)
      (native switching)
  pub taken : Exchanges plainly (native switching) (response_packet 3) (ok_of 4) (native in_session)
  pub again : (new : State) →
      Exchanges plainly (native switching) (response_packet 3) (request_packet 4) new → ⊥
  pub refused : (new : State) →
      Exchanges plainly logging_in (response_packet 1) (request_packet 2) new → ⊥

-- the same link, before its login, to a server that answers ERR as it likes
abbrev pub unwilling_login : State
unwilling_login =
    record logging_in {
      terms =
          record logging_in.terms { server = record server { willing = false } };
    }

-- a login may be turned away, and the link is then over; a willing server turns none away
pub record ALoginIsTurnedAway : Type 0 where
  pub allowed : Exchanges plainly unwilling_login (response_packet 1) (err_of 2)
      (record (with_error unwilling_login (Some Connect) refusal) { phase = over })
  pub closes : (new : State) →
      Exchanges plainly unwilling_login (response_packet 1) (err_of 2) new →
      new.phase ≡ over
  pub refused : (new : State) → Exchanges plainly logging_in (response_packet 1) (err_of 2) new → ⊥
