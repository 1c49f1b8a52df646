-- Changes that keep the catalogue, among them the rise of a counter, and others that don't.
use Rattle.std.specs.Prelude.{ℕ, List, [], ◌∷◌, ◌++◌, Some, None, codes, map}
use Rattle.object_forms.specs.declared.kind.Kind.TheVariants.{Table}
use Rattle.server_data.specs.declared.data.Change.{Change}
use Rattle.server_data.specs.declared.data.Change.TheVariants.{Drop, Make, Put}
use Rattle.server_data.specs.declared.data.Database.{Database}
use Rattle.server_data.specs.declared.data.Object.{Object}
use Rattle.server_data.specs.declared.data.TableRows.{TableRows}
use Rattle.server_data.specs.declared.data.Transaction.{Transaction}
use Rattle.sql_cells.specs.declared.cell.Cell.{Cell}
use Rattle.sql_cells.specs.declared.cell.Cell.TheVariants.{Value}
use Rattle.statement_forms.specs.declared.command.Command.TheVariants.{Insert}
use Rattle.statement_forms.specs.declared.statement.Statement.{Statement}
use Rattle.statement_forms.specs.declared.statement.Statement.TheVariants.{Command as SomeCommand}
use Rattle.honest_server.specs.Catalogue.{IsRise, KeepsCatalogue}
use Rattle.honest_server.specs.Moves.{plainly}
use Rattle.honest_server.specs.Serve.{done, Serves}
use Rattle.honest_server.specs.State.{State, with_own}
use Rattle.honest_server.specs.WellFormed.{IsWellFormed}
use Rattle.honest_examples.specs.Effects.{link}
use Rattle.honest_examples.specs.Worked.{history, id, put, schema, schema_alone, table, the_schema, three, unmarked}

-- a table that numbers its rows
abbrev pub numbered : List ℕ
numbered = codes "n"

-- its text, with what stands after the engine: nothing, or the counter
abbrev pub text_with : List ℕ → List ℕ
text_with after =
    codes "CREATE TABLE `n` (`id` int NOT NULL AUTO_INCREMENT, PRIMARY KEY (`id`)) ENGINE=InnoDB"
    ++ after

-- the table, as it stands in a database, with this after the engine
abbrev pub with_counter : List ℕ → Object
with_counter after =
    record {
      kind = Table;
      schema = schema;
      name = numbered;
      text = text_with after;
      settings = None;
      columns = id ∷ [];
      key = Some 0;
      rank = 0;
      needs = [];
    }

-- the option that says that the counter stands at 5
abbrev pub five : List ℕ
five = codes " AUTO_INCREMENT=5"

-- the option that says that the counter stands at 7
abbrev pub seven : List ℕ
seven = codes " AUTO_INCREMENT=7"

-- the row of this number
abbrev pub of_number : List ℕ → List Cell
of_number digits = Value digits ∷ []

-- the row of this number is put into the table
abbrev pub put_number : List ℕ → Change
put_number digits = Put schema numbered (of_number digits)

-- the table with the row of this number alone
abbrev pub row_of_number : List ℕ → TableRows
row_of_number digits =
    record { table = record { schema = schema; name = numbered }; rows = of_number digits ∷ [] }

-- the schema and such a table, with the rows of these numbers
abbrev pub counted : List ℕ → List (List ℕ) → Database
counted after numbers =
    record { objects = the_schema ∷ with_counter after ∷ []; rows = map row_of_number numbers }

-- the table is dropped, made with what then stands after the engine, and given these rows
abbrev pub anew : List ℕ → List (List ℕ) → List Change
anew after numbers = Drop Table schema numbered ∷ Make (with_counter after) ∷ map put_number numbers

-- a number is under its table's counter
pub record ANumberIsUnderItsCounter : Type 0 where
  pub allowed : IsWellFormed (counted five (codes "4" ∷ []))
  pub refused : IsWellFormed (counted five (codes "4" ∷ codes "5" ∷ [])) → ⊥

-- a counter rises, and the rows stay
pub record ACounterRises : Type 0 where
  pub from_none : IsRise (counted [] []) (anew five [])
  pub from_five : IsRise (counted five (codes "4" ∷ [])) (anew seven (codes "4" ∷ []))
  pub falls : IsRise (counted seven (codes "4" ∷ [])) (anew five (codes "4" ∷ [])) → ⊥
  pub loses : IsRise (counted five (codes "4" ∷ [])) (anew seven []) → ⊥

-- the schema, such a table and a row of it
abbrev pub counting : List Transaction
counting = schema_alone ++ unmarked (Make (with_counter five) ∷ put_number (codes "4") ∷ []) ∷ []

-- a row that is put keeps the catalogue, and so does the rise of a counter
pub record RowsAndCountersKeepTheCatalogue : Type 0 where
  pub of_a_row : KeepsCatalogue history (unmarked (put three ∷ []) ∷ [])
  pub of_a_counter : KeepsCatalogue counting (unmarked (anew seven (codes "4" ∷ [])) ∷ [])
  pub made : KeepsCatalogue history (unmarked (Make (with_counter []) ∷ []) ∷ []) → ⊥
  pub dropped : KeepsCatalogue history (unmarked (Drop Table schema table ∷ []) ∷ []) → ⊥

-- a link in a session after that history
abbrev pub counting_link : State
counting_link = link counting (Some schema)

-- an INSERT of this number
abbrev pub insert_number : List ℕ → Statement
insert_number digits =
    SomeCommand (Insert (codes "INSERT INTO `n` (`id`) VALUES\n(" ++ digits ++ codes ")"))

-- the option that says that the counter stands at 6
abbrev pub six : List ℕ
six = codes " AUTO_INCREMENT=6"

-- A number under the counter is put alone. With one at the counter the counter rises.
pub record ANumberAtTheCounterRaisesIt : Type 0 where
  pub under : Serves plainly counting_link (insert_number (codes "3")) done
      (with_own counting_link (unmarked (put_number (codes "3") ∷ [])))
  pub at : Serves plainly counting_link (insert_number (codes "5")) done
      (with_own counting_link (unmarked (anew six (codes "4" ∷ []) ++ put_number (codes "5") ∷ [])))
  pub alone : Serves plainly counting_link (insert_number (codes "5")) done
      (with_own counting_link (unmarked (put_number (codes "5") ∷ []))) → ⊥
