use Rattle.std.proofs.Common.{refl}
use Rattle.clap.proofs.OnLiterals.{clap_on_literals}
use Rattle.command_words.specs.Dump.{dump_command, dump_of_words}
use Rattle.command_words.specs.Matches.{matched}
use Rattle.words_examples.proofs.dumps_that_are_refused.Goals as goal

pub returns : goal.returns
unfolding clap_on_literals matched dump_command dump_of_words
returns c = record {
  no_folder = refl;
  twice = refl;
  unknown = refl;
  help = refl;
  version = refl;
  stray = refl;
  too_many = refl;
  signed = refl;
  padded = refl;
  no_database = refl;
  two_dots = refl;
  no_name = refl;
  number_first = refl;
}
