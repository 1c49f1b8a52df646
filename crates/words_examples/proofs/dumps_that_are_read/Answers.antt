use Rattle.std.proofs.Common.{refl}
use Rattle.clap.proofs.OnLiterals.{clap_on_literals}
use Rattle.command_words.specs.Dump.{dump_command, dump_of_words}
use Rattle.command_words.specs.Matches.{matched}
use Rattle.words_examples.proofs.dumps_that_are_read.Goals as goal

pub returns : goal.returns
unfolding clap_on_literals matched dump_command dump_of_words
returns c = record {
  defaults = refl;
  by_name = refl;
  account = refl;
  bundle = refl;
  only_database = refl;
}
