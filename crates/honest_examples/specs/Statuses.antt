-- The two queries for the position of the binary log, on servers of several versions.
use Rattle.std.specs.Prelude.{Bool, false, true, List, codes}
use Rattle.sql_cells.specs.declared.cell.Cell.{Cell}
use Rattle.statement_forms.specs.declared.query.Query.TheVariants.{BinaryLogStatus, MasterStatus}
use Rattle.statement_forms.specs.declared.statement.Statement.TheVariants.{Query as SomeQuery}
use Rattle.honest_server.specs.Moves.{plainly}
use Rattle.honest_server.specs.Serve.{Serves, rows}
use Rattle.honest_server.specs.State.{State}
use Rattle.honest_examples.specs.Answered.{status}
use Rattle.honest_examples.specs.Effects.{IsRefused, IsServed, worked}
use Rattle.honest_examples.specs.Worked.{server}

-- the worked link to a server of version 8.2 or newer, which still has SHOW MASTER STATUS or doesn't
abbrev pub newer : Bool → State
newer old_status =
    record worked {
      terms =
          record worked.terms { server = record server { newer = true; old_status = old_status } };
    }

-- the position after the worked history
abbrev pub position : List (List Cell)
position = status (codes "157")

-- an older server has SHOW MASTER STATUS alone
pub record AnOlderServerHasTheOldStatus : Type 0 where
  pub allowed : IsServed worked (SomeQuery MasterStatus) (rows position) worked
  pub another : (new : State) →
      Serves plainly worked (SomeQuery MasterStatus) (rows (status (codes "15"))) new → ⊥
  pub refused : IsRefused worked (SomeQuery BinaryLogStatus)

-- a newer one without it has SHOW BINARY LOG STATUS alone
pub record ANewerServerHasTheNewStatus : Type 0 where
  pub allowed : IsServed (newer false) (SomeQuery BinaryLogStatus) (rows position) (newer false)
  pub another : (new : State) →
      Serves plainly (newer false) (SomeQuery BinaryLogStatus) (rows (status (codes "15"))) new → ⊥
  pub refused : IsRefused (newer false) (SomeQuery MasterStatus)

-- and one that keeps the old statement answers both, by one position
pub record ANewerServerMayKeepTheOldStatus : Type 0 where
  pub old : IsServed (newer true) (SomeQuery MasterStatus) (rows position) (newer true)
  pub new : IsServed (newer true) (SomeQuery BinaryLogStatus) (rows position) (newer true)
  pub refused : (after : State) →
      Serves plainly (newer true) (SomeQuery MasterStatus) (rows (status (codes "15"))) after → ⊥
