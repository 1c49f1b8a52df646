-- The worked examples, found by computing.
use Rattle.std.proofs.Common.{refl}
use Rattle.std.specs.Fmt.{digits}
use Rattle.folder_examples.specs.Names.{FileNames}

pub file_names_all : FileNames
unfolding digits
file_names_all = record {
  schema = refl;
  table = refl;
  first_rows = refl;
  more_rows = refl;
  procedure = refl;
  function = refl;
  view = refl;
  trigger = refl;
  event = refl;
  escaped = refl;
  not_ascii = refl;
}
