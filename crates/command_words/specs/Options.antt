-- The options of both programs, and a program's options as a command of clap.
use Rattle.std.specs.Prelude.{ℕ, Bool, true, false, List, [], ◌∷◌, Option, Some, map, codes, slice_get}
use Rattle.clap.specs.Words.{App, Rule, new_app, new_rule}
use Rattle.clap.specs.declared.builder.action.ArgAction.{ArgAction}
use Rattle.clap.specs.declared.builder.action.ArgAction.TheVariants.{Set, SetTrue}
use Rattle.command_words.specs.declared.options.OptionForm.{OptionForm}
use Rattle.command_words.specs.declared.options.OptionKind.{OptionKind}
use Rattle.command_words.specs.declared.options.OptionKind.TheVariants.{Flag, Value, RequiredValue}

-- how an option is written, as `--name` and for most as `-letter` too, and what it takes
pub record OptionRow : Type 0 where
  pub name : List ℕ
  pub letter : Option ℕ
  pub kind : OptionKind

-- a row of a table of options; an option without a letter has an empty text in its place
abbrev pub option_row : List ℕ → List ℕ → OptionKind → OptionRow
option_row name letter kind = record { name = name; letter = slice_get letter 0; kind = kind }

-- an option of the code, as a row
abbrev pub row_of_form : OptionForm → OptionRow
row_of_form form = record { name = form.name.now; letter = form.letter; kind = form.kind }

-- the options of `mydumper`
abbrev pub dump_options : List OptionRow
dump_options =
    option_row (codes "host") (codes "h") Value
    ∷ option_row (codes "port") (codes "P") Value
    ∷ option_row (codes "user") (codes "u") Value
    ∷ option_row (codes "password") (codes "p") Value
    ∷ option_row (codes "database") (codes "B") Value
    ∷ option_row (codes "tables-list") (codes "T") Value
    ∷ option_row (codes "pattern") [] Value
    ∷ option_row (codes "outputdir") (codes "o") RequiredValue
    ∷ option_row (codes "threads") (codes "t") Value
    ∷ option_row (codes "rows") (codes "r") Value
    ∷ option_row (codes "statement-size") (codes "s") Value
    ∷ option_row (codes "no-schemas") (codes "m") Flag
    ∷ option_row (codes "no-data") (codes "d") Flag
    ∷ option_row (codes "triggers") (codes "G") Flag
    ∷ option_row (codes "routines") (codes "R") Flag
    ∷ option_row (codes "events") [] Flag
    ∷ option_row (codes "hex-blob") [] Flag
    ∷ option_row (codes "wide-keys") [] Flag
    ∷ []

-- the options of `myloader`
abbrev pub load_options : List OptionRow
load_options =
    option_row (codes "host") (codes "h") Value
    ∷ option_row (codes "port") (codes "P") Value
    ∷ option_row (codes "user") (codes "u") Value
    ∷ option_row (codes "password") (codes "p") Value
    ∷ option_row (codes "directory") (codes "d") RequiredValue
    ∷ option_row (codes "threads") (codes "t") Value
    ∷ option_row (codes "enable-binlog") (codes "e") Flag
    ∷ option_row (codes "resume") [] Flag
    ∷ option_row (codes "source-db") (codes "s") Value
    ∷ option_row (codes "database") (codes "B") Value
    ∷ []

-- what a use of an option does: a flag is set, a value is kept
abbrev pub action_of_kind : OptionKind → ArgAction
action_of_kind Flag = SetTrue
action_of_kind Value = Set
action_of_kind RequiredValue = Set

-- only an option of this kind has to be given
abbrev pub is_required_kind : OptionKind → Bool
is_required_kind Flag = false
is_required_kind Value = false
is_required_kind RequiredValue = true

-- an option as an argument of clap, known by its name
abbrev pub option_rule : OptionRow → Rule
option_rule option = record (new_rule option.name) {
  long = Some option.name;
  short = option.letter;
  action = Some (action_of_kind option.kind);
  required = is_required_kind option.kind;
}

-- the command of these options: the words don't begin with a program's name, and there is no help
abbrev pub program_command : List ℕ → List OptionRow → App
program_command name options = record (new_app name) {
  top = record (new_app name).top {
    rules = map option_rule options;
    no_binary_name = true;
    disable_help_flag = true;
  };
}

-- the same, of options of the code
abbrev pub command_of_forms : List ℕ → List OptionForm → App
command_of_forms name forms = program_command name (map row_of_form forms)
