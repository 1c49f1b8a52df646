-- What a command line of `mydumper` means.
use Rattle.std.specs.Prelude.{ℕ, List, Result, Ok, IfSome, codes}
use Rattle.clap.specs.Words.{App, Row, first_of}
use Rattle.server_data.specs.declared.choice.Choice.{Choice}
use Rattle.command_words.specs.Meant.{and_then}
use Rattle.command_words.specs.Entries.{databases_of, needs_of}
use Rattle.command_words.specs.Login.{login_of}
use Rattle.command_words.specs.Matches.{matched}
use Rattle.command_words.specs.Numbers.{LiesIn}
use Rattle.command_words.specs.Options.{dump_options, program_command}
use Rattle.command_words.specs.Values.{is_set, number_or, optional_number, required_value}
use Rattle.command_words.specs.declared.dump.DumpLimits.{DumpLimits}
use Rattle.command_words.specs.declared.dump.DumpWords.{DumpWords}
use Rattle.command_words.specs.declared.fault.WordsFault.{WordsFault}

-- how many threads, rows of a file and bytes of a statement
abbrev pub limits_of : List Row → Result DumpLimits WordsFault
limits_of rows =
    and_then (number_or rows (codes "threads") 1 32 4) (λ threads.
    and_then (optional_number rows (codes "rows") 1 1000000000) (λ file_rows.
    and_then (number_or rows (codes "statement-size") 1000 16777216 1000000) (λ size.
    Ok (record { threads = threads; rows = file_rows; statement_size = size }))))

-- the limits that can be asked for
pub record IsWithinLimits (limits : DumpLimits) : Type 0 where
  pub threads : LiesIn 1 32 limits.threads
  pub rows : IfSome limits.rows (LiesIn 1 1000000000)
  pub statement_size : LiesIn 1000 16777216 limits.statement_size

-- what is selected, by the databases and tables that are named
abbrev pub choice_of : List Row → Result Choice WordsFault
choice_of rows =
    and_then (databases_of (first_of (codes "database") rows)) (λ databases.
    and_then (needs_of databases (first_of (codes "tables-list") rows)) (λ tables.
    Ok (record {
      databases = databases;
      tables = tables;
      pattern = first_of (codes "pattern") rows;
      no_schemas = is_set rows (codes "no-schemas");
      no_data = is_set rows (codes "no-data");
      triggers = is_set rows (codes "triggers");
      routines = is_set rows (codes "routines");
      events = is_set rows (codes "events");
    })))

-- what the rows that clap finds ask for
abbrev pub dump_of_rows : List Row → Result DumpWords WordsFault
dump_of_rows rows =
    and_then (login_of rows) (λ login.
    and_then (limits_of rows) (λ limits.
    and_then (required_value rows (codes "outputdir")) (λ directory.
    and_then (choice_of rows) (λ choice.
    Ok (record {
      login = login;
      directory = directory;
      limits = limits;
      choice = choice;
      hex_blob = is_set rows (codes "hex-blob");
      wide_keys = is_set rows (codes "wide-keys");
    })))))

-- the command of clap
unfoldable pub dump_command : App
dump_command = program_command (codes "mydumper") dump_options

-- what a command line of `mydumper` asks for, or why it isn't read
unfoldable pub dump_of_words : List (List ℕ) → Result DumpWords WordsFault
dump_of_words words = and_then (matched dump_command words) dump_of_rows
