-- Databases that are well-formed, histories that are sound, and others that aren't.
use Rattle.std.specs.Prelude.{◌≡◌, [], ◌∷◌, ◌++◌, Some, codes}
use Rattle.server_data.specs.Fold.{db, with_row}
use Rattle.sql_cells.specs.declared.cell.Cell.TheVariants.{Null}
use Rattle.honest_server.specs.WellFormed.{IsSound, IsWellFormed}
use Rattle.honest_examples.specs.Worked.{database, history, marked, one_again, position, put, row, schema, server, table, unmarked}

-- the worked history ends in the worked database
pub record TheHistoryMakesTheDatabase : Type 0 where
  pub ends : db history ≡ Some database

-- no two rows have one key: a second row of a key fits, but the database isn't well-formed with it
pub record NoTwoRowsHaveOneKey : Type 0 where
  pub allowed : IsWellFormed database
  pub fits : db (history ++ unmarked (put one_again ∷ []) ∷ [])
      ≡ Some (with_row database schema table one_again)
  pub refused : IsWellFormed (with_row database schema table one_again) → ⊥

-- nor is it with a key that is no integer
pub record AKeyIsAnInteger : Type 0 where
  pub refused : IsWellFormed (with_row database schema table (row (codes "x") Null)) → ⊥

-- a position of the binary log has a file: a history in which one has none isn't sound
pub record APositionHasAFile : Type 0 where
  pub allowed : IsSound server history
  pub refused : IsSound server (history ++ marked (record position { file = [] }) [] ∷ []) → ⊥
