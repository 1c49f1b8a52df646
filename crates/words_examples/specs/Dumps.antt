-- Worked command lines of `mydumper`.
use Rattle.std.specs.Prelude.{◌≡◌, ℕ, true, false, List, [], ◌∷◌, None, Result, Ok, Err, codes}
use Rattle.server_data.specs.declared.choice.Choice.{Choice}
use Rattle.command_words.specs.Dump.{dump_of_words}
use Rattle.command_words.specs.Entries.{parts_at}
use Rattle.command_words.specs.declared.dump.DumpWords.{DumpWords}
use Rattle.command_words.specs.declared.fault.WordsFault.{WordsFault}
use Rattle.command_words.specs.declared.fault.WordsFault.TheVariants.{BadEntry, NotRead}
use Rattle.command_words.specs.declared.login.ServerLogin.{ServerLogin}

-- what the words of a line ask for, which stand between its blanks (32)
abbrev pub dump_line : List ℕ → Result DumpWords WordsFault
dump_line line = dump_of_words (parts_at 32 line)

-- the server and the account that are meant where no other are named
abbrev pub default_login : ServerLogin
default_login =
    record { host = codes "127.0.0.1"; port = 3306; user = codes "root"; password = [] }

-- everything but triggers, routines and events
abbrev pub default_choice : Choice
default_choice = record {
  databases = [];
  tables = [];
  pattern = None;
  no_schemas = false;
  no_data = false;
  triggers = false;
  routines = false;
  events = false;
}

-- what is dumped into the folder `out` where nothing else is said
abbrev pub default_dump : DumpWords
default_dump = record {
  login = default_login;
  directory = codes "out";
  limits = record { threads = 4; rows = None; statement_size = 1000000 };
  choice = default_choice;
  hex_blob = false;
  wide_keys = false;
}

-- what is read
pub record DumpsRead : Type 0 where
  pub defaults : dump_line (codes "-o out") ≡ Ok default_dump
  pub by_name : dump_line (codes "--outputdir=out") ≡ Ok default_dump
  pub account : dump_line (codes "-o out -h db -P 1 -u u --password=-x") ≡ Ok (record default_dump {
    login = record { host = codes "db"; port = 1; user = codes "u"; password = codes "-x" };
  })
  pub bundle : dump_line (codes "-GRo out") ≡ Ok (record default_dump {
    choice = record default_choice { triggers = true; routines = true };
  })
  pub only_database : dump_line (codes "-o out -B s -T t,x.y") ≡ Ok (record default_dump {
    choice = record default_choice {
      databases = codes "s" ∷ [];
      tables = record { schema = codes "s"; name = codes "t" }
          ∷ record { schema = codes "x"; name = codes "y" } ∷ [];
    };
  })

-- what isn't read
pub record DumpsRefused : Type 0 where
  pub no_folder : dump_line (codes "-u u") ≡ Err NotRead
  pub twice : dump_line (codes "-o out -o out") ≡ Err NotRead
  pub unknown : dump_line (codes "-o out --unknown") ≡ Err NotRead
  pub help : dump_line (codes "-o out --help") ≡ Err NotRead
  pub version : dump_line (codes "-o out -V") ≡ Err NotRead
  pub stray : dump_line (codes "-o out out") ≡ Err NotRead
  pub too_many : dump_line (codes "-o out -t 33") ≡ Err NotRead
  pub signed : dump_line (codes "-o out -t +1") ≡ Err NotRead
  pub padded : dump_line (codes "-o out -t 01") ≡ Err NotRead
  pub no_database : dump_line (codes "-o out -T t") ≡ Err (BadEntry (codes "t"))
  pub two_dots : dump_line (codes "-o out -T s.t.u") ≡ Err (BadEntry (codes "s.t.u"))
  pub no_name : dump_line (codes "-o out -B a,,b -T t") ≡ Err (BadEntry [])
  pub number_first : dump_line (codes "-o out -B a,,b -t 0") ≡ Err NotRead
