use Rattle.std.proofs.Common.{◌≡◌, map, take}
use Rattle.clap.specs.Words.{app_of}
use Rattle.command_words.specs.Options.{program_command, row_of_form}
use Rattle.command_words.proofs.command.command.Given as goal

abbrev pub invariant-loop-option : goal.invariant-loop-option
invariant-loop-option l = app_of l.command ≡ program_command l.name (map row_of_form (take l.option-index l.options))
