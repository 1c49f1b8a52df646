-- What clap finds in the words of a command line.
use Rattle.std.specs.Prelude.{ℕ, List, [], ◌∷◌, Result, Ok, Err}
use Rattle.clap.specs.Words.{App, Kinds, Row, fault_of, found_of, matches_of, rows_of}
use Rattle.clap.specs.declared.parser.matches.ArgMatches.{ArgMatches}
use Rattle.command_words.specs.declared.fault.WordsFault.{WordsFault}
use Rattle.command_words.specs.declared.fault.WordsFault.TheVariants.{NotRead}

-- the rows of the matches, one for each option that has a value
abbrev pub found_rows : ArgMatches → List Row
found_rows found = rows_of (found_of found)

-- the rows, unless clap finds a kind of fault
abbrev pub unless_refused : Kinds → List Row → Result (List Row) WordsFault
unless_refused [] rows = Ok rows
unless_refused (kind ∷ kinds) rows = Err NotRead

-- what clap finds in the words by the options of a simple command, or its refusal
unfoldable pub matched : App → List (List ℕ) → Result (List Row) WordsFault
matched command words = unless_refused (fault_of command words) (matches_of command words)
