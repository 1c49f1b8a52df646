use Rattle.std.proofs.Common.{refl}
use Rattle.command_words.specs.Dump.{dump_command}
use Rattle.command_words.specs.Load.{load_command}
use Rattle.command_words.proofs.laws.both_commands_are_simple.Goals as goal

pub returns-clause-dump : goal.returns-clause-dump
unfolding dump_command
returns-clause-dump c = refl

pub returns-clause-load : goal.returns-clause-load
unfolding load_command
returns-clause-load c = refl
