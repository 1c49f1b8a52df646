-- What a row of SHOW MASTER STATUS or SHOW BINARY LOG STATUS says (MySQL 8.0 Reference Manual, 15.7.7.23 "SHOW MASTER STATUS Statement"; MySQL 8.4 Reference Manual, "SHOW BINARY LOG STATUS Statement").
use Rattle.std.specs.Prelude.{ℕ, ◌≡◌, Bool, true, false, not, ◌==◌, ◌&&◌, ◌||◌, List, ◌∷◌, Some, decimal}
use Rattle.std.specs.List.{list_all}
use Rattle.honest_server.specs.Answer.{without_line_feeds}
use Rattle.honest_server.specs.WellFormed.{can_be_written, is_visible}
use Rattle.plain_data.specs.Cell.{Cell}
use Rattle.server_data.specs.Select.{is_empty}
use Rattle.server_data.specs.declared.data.Position.{Position}
use Rattle.statement_forms.specs.declared.query.Query.{Query}
use Rattle.statement_forms.specs.declared.query.Query.TheVariants.{MasterStatus, BinaryLogStatus}
use Rattle.snapshot_handover.specs.declared.status.Status.{Status}

-- a server of version 8.2 or newer tells its position by SHOW BINARY LOG STATUS, an older one by SHOW MASTER STATUS
abbrev pub status_query : Bool → Query
status_query true = BinaryLogStatus
status_query false = MasterStatus

-- the first cell of the row is the position's file, the second its offset, and the fifth its GTID set, in which line feeds may stand; and the
-- position can be written on lines
pub record SaysPosition (cells : List Cell) (position : Position) : Type 0 where
  pub third : Cell
  pub fourth : Cell
  pub gtid : List ℕ
  pub more : List Cell
  pub cells_are : cells
      ≡ Some position.file ∷ Some (decimal position.offset) ∷ third ∷ fourth ∷ Some gtid ∷ more
  pub gtid_is : without_line_feeds gtid ≡ position.gtid
  pub written : can_be_written position ≡ true

-- the row says no position
abbrev pub SaysNoPosition : List Cell → Type 0
SaysNoPosition cells = (position : Position) → SaysPosition cells position → ⊥

-- the position that is made of a status, whose GTID set is as it was sent
abbrev pub position_of : Status → Position
position_of status = record {
  file = status.file.now;
  offset = status.offset;
  gtid = without_line_feeds status.gtid.now;
}

-- the byte is a line feed, or it is visible
abbrev pub is_visible_or_fed : ℕ → Bool
is_visible_or_fed byte = (byte == 10) || is_visible byte

-- the bytes are a file that can be written on a line
abbrev pub is_file : List ℕ → Bool
is_file bytes = not (is_empty bytes) && list_all is_visible bytes

-- so can the GTID set, once its line feeds are left out
abbrev pub are_written : List ℕ → List ℕ → Bool
are_written file gtid = is_file file && list_all is_visible_or_fed gtid
