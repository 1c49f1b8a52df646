-- Worked command lines of `myloader`.
use Rattle.std.specs.Prelude.{◌≡◌, ℕ, true, false, List, Some, None, Result, Ok, Err, codes}
use Rattle.command_words.specs.Load.{load_of_words}
use Rattle.command_words.specs.Entries.{parts_at}
use Rattle.command_words.specs.declared.fault.WordsFault.{WordsFault}
use Rattle.command_words.specs.declared.fault.WordsFault.TheVariants.{NoSource, NotRead}
use Rattle.command_words.specs.declared.load.LoadWords.{LoadWords}
use Rattle.words_examples.specs.Dumps.{default_login}

-- what the words of a line ask for, which stand between its blanks (32)
abbrev pub load_line : List ℕ → Result LoadWords WordsFault
load_line line = load_of_words (parts_at 32 line)

-- what is loaded out of the folder `in` where nothing else is said
abbrev pub default_load : LoadWords
default_load = record {
  login = default_login;
  directory = codes "in";
  threads = 4;
  keeps_binlog = false;
  resumes = false;
  renaming = None;
}

-- what is read
pub record LoadsRead : Type 0 where
  pub defaults : load_line (codes "-d in") ≡ Ok default_load
  pub flags : load_line (codes "-ed in --resume") ≡ Ok (record default_load {
    keeps_binlog = true;
    resumes = true;
  })
  pub one : load_line (codes "-d in -s s") ≡ Ok (record default_load {
    renaming = Some (record { source = codes "s"; target = codes "s" });
  })
  pub renamed : load_line (codes "-d in -s s -B copy") ≡ Ok (record default_load {
    renaming = Some (record { source = codes "s"; target = codes "copy" });
  })

-- what isn't read
pub record LoadsRefused : Type 0 where
  pub no_folder : load_line (codes "-s s") ≡ Err NotRead
  pub other_program : load_line (codes "-o out") ≡ Err NotRead
  pub no_source : load_line (codes "-d in -B copy") ≡ Err NoSource
  pub no_name : load_line (codes "-d in -s s --database=") ≡ Err NotRead
  pub no_name_first : load_line (codes "-d in --database=") ≡ Err NotRead
