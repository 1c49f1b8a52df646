-- The commands of tables of options.
use Rattle.std.proofs.Common.{◌≡◌, ◌<◌, ◌+◌, ℕ, List, [], take, length, ◌∙◌, ap, sym, map, get_or, codes}
use Rattle.std.proofs.lemmas.List.{map-append, map_more}
use Rattle.clap.specs.Words.{App, Rule, with_rule}
use Rattle.command_words.specs.Dump.{dump_command}
use Rattle.command_words.specs.Load.{load_command}
use Rattle.command_words.specs.Options.{dump_options, load_options, option_rule, program_command, row_of_form}
use Rattle.command_words.specs.declared.options.OptionForm.{OptionForm}

abbrev with_rules : List ℕ → List Rule → App
with_rules name rules = record (program_command name []) { top = record (program_command name []).top { rules = rules } }

-- one more option of the table is one more rule of the command
pub one_more : (name : List ℕ) (options : List OptionForm) (i : ℕ) (d : OptionForm) → i < length options
    → with_rule (program_command name (map row_of_form (take i options))) (option_rule (row_of_form (get_or options i d)))
    ≡ program_command name (map row_of_form (take (i + 1) options))
one_more name options i d lt = ap (with_rules name)
    (sym (ap (map option_rule) (map_more row_of_form options i d lt) ∙ map-append option_rule (map row_of_form (take i options)) _))

-- the command that `mydumper` makes
pub dump_command_made : (given forms : List OptionForm) → given ≡ forms → map row_of_form forms ≡ dump_options
    → program_command (codes "mydumper") (map row_of_form given) ≡ dump_command
unfolding dump_command
dump_command_made given forms same rows = ap (program_command (codes "mydumper")) (ap (map row_of_form) same ∙ rows)

-- the command that `myloader` makes
pub load_command_made : (given forms : List OptionForm) → given ≡ forms → map row_of_form forms ≡ load_options
    → program_command (codes "myloader") (map row_of_form given) ≡ load_command
unfolding load_command
load_command_made given forms same rows = ap (program_command (codes "myloader")) (ap (map row_of_form) same ∙ rows)
