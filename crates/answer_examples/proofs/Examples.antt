-- The worked examples, found by computing.
use Rattle.std.proofs.Common.{refl}
use Rattle.hex.specs.Hex.{encode_with}
use Rattle.std.specs.Fmt.{digits}
use Rattle.answer_examples.specs.Answers.{Lines, Refusals, Statuses}

pub all_lines : Lines
unfolding digits encode_with
all_lines = record {
  dumped = refl;
  loaded = refl;
  words = refl;
  entry = refl;
  no_source = refl;
  full = refl;
  link = refl;
  file = refl;
  clock = refl;
  version = refl;
  garbled = refl;
  column = refl;
  engine = refl;
  long_schema = refl;
  long_name = refl;
  withheld = refl;
  database = refl;
  table = refl;
  cycle = refl;
  long = refl;
  stream = refl;
  chunks = refl;
  no_metadata = refl;
  bad_line = refl;
  metadata_version = refl;
  missing = refl;
  damaged = refl;
  statement = refl;
  reserved = refl;
  target = refl;
  progress = refl;
  other = refl;
  source = refl;
  rename = refl;
  memory = refl;
}

pub all_refusals : Refusals
unfolding digits
all_refusals = record {
  at_login = λ message is. rw is refl;
  at_lock = λ message is. rw is refl;
  plugin = λ name is. rw is refl;
}

pub all_statuses : Statuses
all_statuses = record {
  dumped = refl;
  loaded = refl;
  full = refl;
  words = refl;
  refused = λ message. refl;
  link = refl;
  memory = refl;
  reported = refl;
  not_reported = refl;
  fault_not_reported = refl;
}
