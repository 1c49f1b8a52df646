-- The worked lines of `metadata`, found by computing.
use Rattle.std.proofs.Common.{refl}
use Rattle.std.specs.Fmt.{digits}
use Rattle.hex.specs.Hex.{encode_with}
use Rattle.folder_examples.specs.Lines.{MetadataLines, RowsOfTables}

pub lines_all : MetadataLines
unfolding digits encode_with
lines_all = record {
  schema = refl;
  rows = refl;
  time = refl;
  no_position = refl;
  position = refl;
  table = refl;
  escaped = refl;
  none_in_version_1 = refl;
  some_in_version_2 = refl;
}

pub rows_all : RowsOfTables
rows_all = record { sum = refl; greatest = refl; other = refl }
