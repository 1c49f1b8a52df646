-- What a site tells once links come back, and two links that are served there side by side.
use Rattle.std.specs.Prelude.{◌≡◌, Bool, false, true, List, [], ◌∷◌, ◌++◌, codes, ℕ, replicate}
use Rattle.wire_forms.specs.declared.ends.Ends.TheVariants.{Ok}
use Rattle.server_data.specs.History.{Interleaves, IsPrefix}
use Rattle.server_data.specs.declared.data.Transaction.{Transaction}
use Rattle.sql_cells.specs.declared.cell.Cell.TheVariants.{Null}
use Rattle.statement_forms.specs.declared.command.Command.TheVariants.{FlushTables, UnlockTables}
use Rattle.statement_forms.specs.declared.query.Query.TheVariants.{RowsByKey}
use Rattle.statement_forms.specs.declared.statement.Statement.TheVariants.{Command as SomeCommand, Query as SomeQuery}
use Rattle.honest_server.specs.Exchange.{IsGreeting}
use Rattle.honest_server.specs.Link.{ServedLink}
use Rattle.honest_server.specs.Moves.{beside, plainly}
use Rattle.honest_server.specs.Serve.{Serves, done, rows}
use Rattle.honest_server.specs.Site.{Connects, HasSeen, IsNewLink, IsSettled, ServedSite, StaysHonest, TakesBack, fresh_state, terms_of}
use Rattle.honest_server.specs.State.{State, with_others, with_own}
use Rattle.honest_examples.specs.Answered.{columns, key}
use Rattle.honest_examples.specs.Effects.{frozen, insert, with_three, worked}
use Rattle.honest_examples.specs.Worked.{history, one, put, row, schema, server, table, three, two, unmarked}

-- a site of a willing server with the worked history, where others write or not
abbrev pub site : Bool → ServedSite
site quiet = record {
  server = record server { quiet = quiet };
  history = history;
  returned = [];
  errors = [];
  grants = [];
  keeps_wide = true;
}

-- the row (3,'c') is put
abbrev pub puts_three : Transaction
puts_three = unmarked (put three ∷ [])

-- a new link to a quiet site of a willing server has seen its history, and where others write perhaps more
pub record ANewLinkHasSeenTheHistory : Type 0 where
  pub allowed : HasSeen (site true) true history
  pub more : HasSeen (site false) true (history ++ puts_three ∷ [])
  pub refused : HasSeen (site true) true (history ++ puts_three ∷ []) → ⊥

-- a server's first message: of version 8.0.35, with a scramble of twenty bytes and the plugin mysql_native_password
abbrev pub greeting_packet : List ℕ
greeting_packet = 10 ∷ codes "8.0.35"
    ++ (0 ∷ 8 ∷ 0 ∷ 0 ∷ 0 ∷ codes "abcdefgh"
    ++ (0 ∷ 255 ∷ 255 ∷ 255 ∷ 2 ∷ 0 ∷ 255 ∷ 222 ∷ 21 ∷ replicate 10 0
    ++ (codes "ijklmnopqrst" ++ (0 ∷ codes "mysql_native_password" ++ 0 ∷ []))))

-- the same that offers to end result sets by an OK
abbrev pub offering_ok : List ℕ
offering_ok =
    10 ∷ codes "8.0.35" ++ (0 ∷ 8 ∷ 0 ∷ 0 ∷ 0 ∷ codes "abcdefgh"
    ++ (0 ∷ 255 ∷ 255 ∷ 255 ∷ 2 ∷ 0 ∷ 255 ∷ 223 ∷ 21 ∷ replicate 10 0
    ++ (codes "ijklmnopqrst" ++ (0 ∷ codes "mysql_native_password" ++ 0 ∷ []))))

-- a greeting says how the server's result sets end, and whether it is newer
pub record AGreetingIsOfItsServer : Type 0 where
  pub allowed : IsGreeting server greeting_packet
  pub by_ok : IsGreeting (record server { ends = Ok }) offering_ok
  pub other_ending : IsGreeting server offering_ok → ⊥
  pub other_version : IsGreeting (record server { newer = true }) greeting_packet → ⊥

-- a link on which it waits
abbrev pub greeted_link : State → ServedLink
greeted_link state =
    record {
      waiting = 74 ∷ 0 ∷ 0 ∷ 0 ∷ greeting_packet;
      state = state;
      failed = false;
      keeps_wide = true;
    }

-- a new link is greeted, and holds no lock
pub record ANewLinkIsGreeted : Type 0 where
  pub allowed : IsNewLink (site true) true
      (greeted_link (fresh_state (terms_of (site true) true) history))
  pub locked : IsNewLink (site true) true
      (greeted_link (record (fresh_state (terms_of (site true) true) history) { frozen = true })) →
      ⊥
  pub silent : IsNewLink (site true) true
      (record (greeted_link (fresh_state (terms_of (site true) true) history)) { waiting = [] }) → ⊥
  pub wide_untold : IsNewLink (site true) true
      (record (greeted_link (fresh_state (terms_of (site true) true) history)) {
        keeps_wide =
            false;
      }) → ⊥

-- connecting to a quiet site leaves its history, and where others write it may have grown
pub record ConnectingLeavesTheHistory : Type 0 where
  pub allowed : Connects (site true) (site true)
  pub more : Connects (site false) (record (site false) { history = history ++ puts_three ∷ [] })
  pub refused : Connects (site true) (record (site true) { history = history ++ puts_three ∷ [] }) →
      ⊥

-- a link of this state that comes back
abbrev pub back : State → ServedLink
back state = record { waiting = []; state = state; failed = false; keeps_wide = true }

-- once the only link is back that has put a row, the history is the old one and that transaction; while another is out, it stands
pub record TheHistoryIsToldOnceAllAreBack : Type 0 where
  pub allowed : TakesBack 0 (site true) (back (with_three worked))
      (record (site true) { history = history ++ puts_three ∷ [] })
  pub nothing_else : (new : ServedSite) → TakesBack 0 (site true) (back (with_three worked)) new →
      new.history ≡ history ++ puts_three ∷ []
  pub waits : (new : ServedSite) → TakesBack 1 (site true) (back (with_three worked)) new →
      new.history ≡ history

-- a grant of the read lock, after which nothing was put, the row (3,'c') was, or another
abbrev pub granted : List Transaction → State
granted after = record worked { grants = (history ++ after) ∷ [] }

-- a site stays honest where its grants are prefixes of one list
pub record GrantsArePrefixesOfOneList : Type 0 where
  pub allowed : StaysHonest 0 (record (site true) { grants = (history ++ puts_three ∷ []) ∷ [] })
      (granted [])
  pub refused : StaysHonest 0 (record (site true) { grants = (history ++ puts_three ∷ []) ∷ [] })
      (granted (unmarked [] ∷ [])) → ⊥

-- and where what its links have put goes together: not where two of them have put rows of one key
pub record LinksPutDifferentKeys : Type 0 where
  pub allowed : StaysHonest 0 (record (site true) { returned = (puts_three ∷ []) ∷ [] }) worked
  pub refused : StaysHonest 0 (record (site true) { returned = (puts_three ∷ []) ∷ [] })
      (with_three worked) → ⊥

-- the row (4,NULL) is put; of two links to a quiet site, A puts those of the keys 3 and 4, and B that of 5
abbrev pub puts_four : Transaction
puts_four = unmarked (put (row (codes "4") Null) ∷ [])

-- the row (5,NULL) is put
abbrev pub puts_five : Transaction
puts_five = unmarked (put (row (codes "5") Null) ∷ [])

-- what the two have committed
abbrev pub of_both : List (List Transaction)
of_both = (puts_three ∷ puts_four ∷ []) ∷ (puts_five ∷ []) ∷ []

-- A was granted the read lock after its first row: there is a history of both that begins so, and one that doesn't
pub record AGrantComesFirst : Type 0 where
  pub allowed : Interleaves of_both (puts_three ∷ puts_five ∷ puts_four ∷ [])
  pub begins_so : IsPrefix (history ++ puts_three ∷ [])
      (history ++ (puts_three ∷ puts_five ∷ puts_four ∷ []))
  pub another : Interleaves of_both (puts_five ∷ puts_three ∷ puts_four ∷ [])
  pub refused : IsPrefix (history ++ puts_three ∷ [])
      (history ++ (puts_five ∷ puts_three ∷ puts_four ∷ [])) → ⊥
  pub out_of_order : Interleaves of_both (puts_four ∷ puts_three ∷ puts_five ∷ []) → ⊥

-- a link to the site that isn't the only one
abbrev pub one_of_two : State
one_of_two = record worked { terms = record worked.terms { sole = false } }

-- A has put its first row
abbrev pub a_first : State
a_first = with_own one_of_two puts_three

-- A holds the read lock after its first row
abbrev pub a_holds : State
a_holds = record (frozen a_first) { grants = (history ++ puts_three ∷ []) ∷ [] }

-- A has given it back, and put its second row
abbrev pub a_last : State
a_last = with_own (record a_holds { frozen = false }) puts_four

-- B has seen the first row of A
abbrev pub b_sees : State
b_sees = with_others one_of_two (puts_three ∷ [])

-- B has then put its own row
abbrev pub b_last : State
b_last = with_own b_sees puts_five

-- the site once both are back: after the worked history come these transactions
abbrev pub settled : List Transaction → ServedSite
settled after =
    record (site true) { history = history ++ after; grants = (history ++ puts_three ∷ []) ∷ [] }

-- what two links are told side by side, and what the site then tells of them
pub record TwoLinksSideBySide : Type 0 where
  pub a_puts : Serves plainly one_of_two (insert (codes "(3,'c')")) done a_first
  pub a_locks : Serves plainly a_first (SomeCommand FlushTables) done a_holds
  pub b_asks : Serves (beside a_holds) one_of_two (SomeQuery (RowsByKey columns schema table key))
      (rows (one ∷ two ∷ three ∷ [])) b_sees
  pub b_sees_no_less : (new : State) →
      Serves (beside a_holds) one_of_two (SomeQuery (RowsByKey columns schema table key))
      (rows (one ∷ two ∷ [])) new → ⊥
  pub a_unlocks : Serves plainly a_holds (SomeCommand UnlockTables) done
      (record a_holds { frozen = false })
  pub b_puts : Serves plainly b_sees (insert (codes "(5,NULL)")) done b_last
  pub a_puts_again : Serves plainly (record a_holds { frozen = false })
      (insert (codes "(4,NULL)")) done a_last
  pub a_is_back : TakesBack 1 (site true) (back a_last)
      (record (site true) {
        returned = (puts_three ∷ puts_four ∷ []) ∷ [];
        grants = (history ++ puts_three ∷ []) ∷ [];
      })
  pub b_is_back : TakesBack 0
      (record (site true) {
        returned = (puts_three ∷ puts_four ∷ []) ∷ [];
        grants = (history ++ puts_three ∷ []) ∷ [];
      }) (back b_last)
      (settled (puts_three ∷ puts_five ∷ puts_four ∷ []))
  pub is_settled : IsSettled 0 (settled (puts_three ∷ puts_five ∷ puts_four ∷ []))
  pub grant_is_lost : IsSettled 0 (settled (puts_five ∷ puts_three ∷ puts_four ∷ [])) → ⊥
