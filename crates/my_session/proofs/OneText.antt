-- What an honest server answers to a text in a session: the statement that the text is read as is served.
use Rattle.std.proofs.Common.{◌≡◌, ℕ, List, sym, subst, arith, inl, inr}
use Rattle.honest_server.specs.Exchange.{Replies, accepted, switched, turned_away, quits, served, unknown, ignored, IsLoggingIn, query_payload}
use Rattle.honest_server.specs.Moves.{Way}
use Rattle.honest_server.specs.Serve.{Reply, Serves}
use Rattle.honest_server.specs.Spelled.{SpellsReply}
use Rattle.honest_server.specs.State.{State, Phase, in_session}
use Rattle.statement_forms.specs.Statement.{IsReadAs}
use Rattle.statement_forms.specs.declared.statement.Statement.{Statement}

-- a text is read as one statement
pub same_statement : (text : List ℕ) (one other : Statement) → IsReadAs text one → IsReadAs text other → one ≡ other
same_statement text one other read also =
    elim (read.latest other also.text_of) [
      | inl less ↦ elim (also.latest one read.text_of) [
        | inl more ↦ absurd (omega arith)
        | inr is ↦ is
      ]
      | inr is ↦ sym is
    ]

-- the statement is served, and the messages spell its reply
pub record IsServed (way : Way) (state : State) (statement : Statement) (messages : List (List ℕ)) (new : State) : Type 0 where
  pub reply : Reply
  pub serves : Serves way state statement reply new
  pub spells : SpellsReply state.terms.server statement reply messages

pub text_served : (way : Way) (state : State) (text payload : List ℕ) (statement : Statement) (messages : List (List ℕ)) (new : State) → state.phase ≡ in_session → payload ≡ query_payload text → IsReadAs text statement → Replies way state payload messages new → IsServed way state statement messages new
text_served way state text payload statement messages new here is read (accepted logging says new_is) = absurd (subst (λ (p : Phase). IsLoggingIn p) here logging)
text_served way state text payload statement messages new here is read (switched message phase asks lean messages_are new_is) = absurd (cc)
text_served way state text payload statement messages new here is read (turned_away refusal logging unwilling says new_is) = absurd (subst (λ (p : Phase). IsLoggingIn p) here logging)
text_served way state text payload statement messages new here is read (quits phase payload_is messages_are new_is) = absurd (cc)
text_served way state text payload statement messages new here is read (served also found reply phase payload_is also_read serves spells) =
    let same_text : also ≡ text = cc in
    let same : found ≡ statement = same_statement text found statement (subst (λ (l : List ℕ). IsReadAs l found) same_text also_read) read in
    record {
      reply = reply;
      serves = subst (λ (s : Statement). Serves way state s reply new) same serves;
      spells = subst (λ (s : Statement). SpellsReply state.terms.server s reply messages) same spells;
    }
text_served way state text payload statement messages new here is read (unknown refusal more phase nothing gives says) = absurd (nothing.no_statement text statement is read.text_of)
text_served way state text payload statement messages new here is read (ignored phase messages_are new_is) = absurd (cc)
