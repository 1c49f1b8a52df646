-- What a command line of `myloader` means.
use Rattle.std.specs.Prelude.{ℕ, ◌&&◌, nat_le, if◌then◌else◌, List, length, Option, Some, None, Result, Ok, Err, codes}
use Rattle.clap.specs.Words.{App, Row, first_of}
use Rattle.command_words.specs.Meant.{and_then}
use Rattle.command_words.specs.Login.{login_of}
use Rattle.command_words.specs.Matches.{matched}
use Rattle.command_words.specs.Options.{load_options, program_command}
use Rattle.command_words.specs.Values.{is_set, number_or, required_value}
use Rattle.command_words.specs.declared.fault.WordsFault.{WordsFault}
use Rattle.command_words.specs.declared.fault.WordsFault.TheVariants.{NoSource, NotRead}
use Rattle.command_words.specs.declared.load.LoadWords.{LoadWords}
use Rattle.command_words.specs.declared.load.Renaming.{Renaming}

-- a new name of a database, where one is given, has 1 to 64 bytes
abbrev pub new_name : Option (List ℕ) → Result (Option (List ℕ)) WordsFault
new_name None = Ok None
new_name (Some name) =
    if nat_le 1 (length name) && nat_le (length name) 64 then Ok (Some name) else Err NotRead

-- the database that is loaded, by its name in the dump and its new name: without a new name it keeps its own, and
-- without either every database is loaded
abbrev pub renaming_of : Option (List ℕ) → Option (List ℕ) → Result (Option Renaming) WordsFault
renaming_of None None = Ok None
renaming_of None (Some target) = Err NoSource
renaming_of (Some source) None = Ok (Some (record { source = source; target = source }))
renaming_of (Some source) (Some target) = Ok (Some (record { source = source; target = target }))

-- what the rows that clap finds ask for
abbrev pub load_of_rows : List Row → Result LoadWords WordsFault
load_of_rows rows =
    and_then (login_of rows) (λ login.
    and_then (number_or rows (codes "threads") 1 32 4) (λ threads.
    and_then (required_value rows (codes "directory")) (λ directory.
    and_then (new_name (first_of (codes "database") rows)) (λ target.
    and_then (renaming_of (first_of (codes "source-db") rows) target) (λ renaming.
    Ok (record {
      login = login;
      directory = directory;
      threads = threads;
      keeps_binlog = is_set rows (codes "enable-binlog");
      resumes = is_set rows (codes "resume");
      renaming = renaming;
    }))))))

-- the command of clap
unfoldable pub load_command : App
load_command = program_command (codes "myloader") load_options

-- what a command line of `myloader` asks for, or why it isn't read
unfoldable pub load_of_words : List (List ℕ) → Result LoadWords WordsFault
load_of_words words = and_then (matched load_command words) load_of_rows
